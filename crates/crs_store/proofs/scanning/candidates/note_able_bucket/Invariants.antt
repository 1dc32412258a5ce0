use Rattle.std.proofs.Common.{take}
use Rattle.crs_store.proofs.Gathered.{AreTried}
use Rattle.crs_store.proofs.scanning.candidates.note_able_bucket.Given as goal

abbrev pub invariant-loop-handle : goal.invariant-loop-handle
invariant-loop-handle l = AreTried l.slots l.wanted.event l.wanted.date l.wanted.symbols (take l.handle-index l.handle-items) l.fn.places.items l.places.items
