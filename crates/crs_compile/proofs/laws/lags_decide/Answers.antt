use Rattle.std.proofs.Common.{ℕ, List}
use Rattle.crs_compile.proofs.UniqueLags.{not_both}
use Rattle.crs_compile.proofs.laws.lags_decide.Goals as goal

pub returns : goal.returns
returns c = not_both (List ℕ)
