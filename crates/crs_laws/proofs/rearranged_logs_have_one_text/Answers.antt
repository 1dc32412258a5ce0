use Rattle.crs_laws.proofs.Rearranging.{rearranged_logs_have_one_text}
use Rattle.crs_laws.proofs.rearranged_logs_have_one_text.Goals as goal

pub returns : goal.returns
returns c = rearranged_logs_have_one_text
