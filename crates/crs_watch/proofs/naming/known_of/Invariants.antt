use Rattle.std.proofs.Common.{◌≡◌, length}
use Rattle.std.specs.Prelude.{map}
use Rattle.crs_model.specs.Bindings.{look_of}
use Rattle.crs_model.specs.SeenModels.{term_of}
use Rattle.crs_watch.specs.Known.{AreTold}
use Rattle.crs_watch.proofs.naming.known_of.Given as goal

abbrev pub invariant-loop-place : goal.invariant-loop-place
invariant-loop-place l = (length l.known ≡ 8) × AreTold (look_of l.binding) (map term_of l.terms) l.known
