use Rattle.crs_index.specs.Indexes.{IsSame}
use Rattle.crs_index.proofs.index.Index.free_empty.Given as goal

abbrev pub invariant-loop-key : goal.invariant-loop-key
invariant-loop-key l = IsSame l.fn.self l.self
