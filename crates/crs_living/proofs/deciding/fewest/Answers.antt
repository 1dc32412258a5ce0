use Rattle.std.proofs.Common.{ℕ, zero, suc, ◌<◌, List, [], ◌∷◌, length, refl, inl, inr, arith}
use Rattle.std.specs.Prelude.{slice_index_or}
use Rattle.crs_base.specs.Words.{IsIn}
use Rattle.crs_living.proofs.deciding.fewest.Goals as goal

in_at : (xs : List ℕ) (k : ℕ) → k < length xs → IsIn (slice_index_or xs k 0) xs
in_at [] k l = absurd (omega arith)
in_at (x ∷ xs) zero l = inl refl
in_at (x ∷ xs) (suc k) l = inr (in_at xs k (omega arith))

pub how_many-count-requires-clause-event : goal.how_many-count-requires-clause-event
how_many-count-requires-clause-event c = c.requires.todo (slice_index_or c.args.todo.now c.loop-i.i 0) (in_at c.args.todo.now c.loop-i.i (omega arith))
