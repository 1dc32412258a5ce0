-- The buckets of an index, as its code keeps them.
use Rattle.std.specs.Prelude.{List, map}
use Rattle.std.proofs.Common.{Global}
use Rattle.std.specs.declared.vec.Vec.{Vec}
use Rattle.crs_agenda.specs.declared.timed.Handle.{Handle}

-- the buckets' handles
abbrev pub rows : List (Vec Handle Global) → List (List Handle)
rows buckets = map (λ v. v.items) buckets
