use Rattle.std.proofs.Common.{ℕ, ◌<◌}
use Rattle.crs_base.specs.Words.{IsIn}
use Rattle.crs_store.proofs.scanning.candidates.note_all.Given as goal

abbrev pub invariant-loop-place : goal.invariant-loop-place
invariant-loop-place l = (p : ℕ) → p < l.place → IsIn p l.places.items
