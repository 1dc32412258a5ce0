use Rattle.crs_session.proofs.OneText.{log_text_is_one}
use Rattle.crs_session.proofs.laws.log_text_is_one.Goals as goal

pub returns : goal.returns
returns c = log_text_is_one
