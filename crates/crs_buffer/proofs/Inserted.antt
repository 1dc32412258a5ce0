-- An entry put in among those that are held.
use Rattle.std.proofs.Common.{◌≡◌, List, [], ◌∷◌, cond, refl, ap, Ordering, Less, Equal, Greater}
use Rattle.std.specs.Ordering.{match_ordering, is_lt}
use Rattle.std.specs.List.{AllByRecursion}
use Rattle.std.specs.BTreeSet.{insert_key}
use Rattle.crs_base.specs.Entry.{Entry}
use Rattle.crs_base.proofs.KeyOrder.{key_exact}
use Rattle.crs_model.specs.Order.{put_in_order}
use Rattle.crs_buffer.specs.declared.held.Held.{Held}
use Rattle.crs_buffer.specs.HeldOrder.{held_cmp, entry_in, entries_of}
use Rattle.crs_buffer.specs.Entries.{IsNewKey}

by_answer : (k x : Held) (xs : List Held) (o : Ordering) → (o ≡ Equal → ⊥) → entries_of (insert_key held_cmp xs k) ≡ put_in_order (entry_in k) (entries_of xs)
    → entries_of (match_ordering o (k ∷ x ∷ xs) (x ∷ xs) (x ∷ insert_key held_cmp xs k))
    ≡ cond (is_lt o) (entry_in k ∷ entry_in x ∷ entries_of xs) (entry_in x ∷ put_in_order (entry_in k) (entries_of xs))
by_answer k x xs Less differs h = refl
by_answer k x xs Equal differs h = absurd (differs refl)
by_answer k x xs Greater differs h = ap (λ ys. entry_in x ∷ ys) h

-- the set's insertion is the list's
pub inserted : (xs : List Held) (k : Held) → IsNewKey (entry_in k) (entries_of xs) → entries_of (insert_key held_cmp xs k) ≡ put_in_order (entry_in k) (entries_of xs)
inserted [] k new = refl
inserted (x ∷ xs) k new = by_answer k x xs (held_cmp k x) new.0 (inserted xs k new.1)

-- an entry whose arrival number is that of no other has a key of its own
pub new_arrival : {S : Type 0} (e : Entry S) (es : List (Entry S)) → AllByRecursion (λ x. e.arrival ≡ x.arrival → ⊥) es → IsNewKey e es
new_arrival e [] h = tt
new_arrival e (x ∷ xs) h = ((λ tie. h.0 (ap (λ k. k.arrival) (key_exact (record { date = e.date; text = e.text; arrival = e.arrival }) (record { date = x.date; text = x.text; arrival = x.arrival }) tie))), new_arrival e xs h.1)
