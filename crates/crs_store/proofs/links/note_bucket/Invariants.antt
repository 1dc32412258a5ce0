use Rattle.std.proofs.Common.{take}
use Rattle.crs_store.proofs.Noting.{AreNoted}
use Rattle.crs_store.proofs.links.note_bucket.Given as goal

abbrev pub invariant-loop-handle : goal.invariant-loop-handle
invariant-loop-handle l = AreNoted (take l.handle-index l.handle-items) l.fn.places.items l.places.items
