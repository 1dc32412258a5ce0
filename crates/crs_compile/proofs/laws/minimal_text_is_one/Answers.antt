use Rattle.crs_compile.proofs.Unique.{one_text}
use Rattle.crs_compile.proofs.laws.minimal_text_is_one.Goals as goal

pub returns : goal.returns
returns c = one_text
