use Rattle.std.proofs.Common.{◌≡◌, ℕ, ◌<◌, get_or, length}
use Rattle.crs_model.specs.Bindings.{look_of}
use Rattle.crs_model.specs.Matching.{TermIs}
use Rattle.crs_model.specs.SeenModels.{term_of}
use Rattle.crs_watch.proofs.naming.args_of.Given as goal

abbrev pub invariant-loop-i : goal.invariant-loop-i
invariant-loop-i l = (length l.all ≡ 8) × ((k : ℕ) (d : _) (x : _) → k < l.i → TermIs (look_of l.binding) (term_of (get_or l.terms k d)) (get_or l.all k x))
