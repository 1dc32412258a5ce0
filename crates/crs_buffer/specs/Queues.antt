-- Where an entry stands among others that are held.
use Rattle.std.specs.Prelude.{◌≡◌, ◌==◌, ℕ, List, Bool, not}
use Rattle.std.specs.List.{AllByRecursion}
use Rattle.std.specs.declared.cmp.Ordering.TheVariants.{Less, Greater}
use Rattle.crs_buffer.specs.declared.held.Held.{Held}
use Rattle.crs_buffer.specs.HeldOrder.{held_cmp, entry_in, entries_of}
use Rattle.crs_buffer.specs.Entries.{IsNewKey}

-- k comes before all of them
abbrev pub ComesBefore : Held → List Held → Type 0
ComesBefore k hs = AllByRecursion (λ y. held_cmp k y ≡ Less) hs

-- k comes after all of them
abbrev pub ComesAfter : Held → List Held → Type 0
ComesAfter k hs = AllByRecursion (λ y. held_cmp k y ≡ Greater) hs

-- one of them has the key of k
abbrev pub IsTaken : Held → List Held → Type 0
IsTaken k hs = IsNewKey (entry_in k) (entries_of hs) → ⊥

-- its arrival number is another than n
abbrev pub arrived_otherwise : ℕ → Held → Bool
arrived_otherwise n h = not (h.entry.value.arrival == n)
