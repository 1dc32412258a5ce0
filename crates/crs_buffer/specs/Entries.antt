-- Entries in key order. S is the type of symbols.
use Rattle.std.specs.Prelude.{◌≡◌, ◌==◌, ℕ, List, [], ◌∷◌, Option, Some, None, nat_lt, cond, not, filter}
use Rattle.std.specs.List.{AllByRecursion}
use Rattle.std.specs.declared.cmp.Ordering.TheVariants.{Equal}
use Rattle.crs_base.specs.Entry.{Entry, entry_cmp}

module _ {S : Type 0} where
  -- no entry of the list has the key of e
  abbrev pub IsNewKey : Entry S → List (Entry S) → Type 0
  IsNewKey e es = AllByRecursion (λ x. entry_cmp e x ≡ Equal → ⊥) es

  -- the first entry, where it is dated before h
  abbrev pub released : List (Entry S) → ℕ → Option (Entry S)
  released [] h = None
  released (e ∷ es) h = cond (nat_lt e.date h) (Some e) None

  -- what is left once it is taken out
  abbrev pub left : List (Entry S) → ℕ → List (Entry S)
  left [] h = []
  left (e ∷ es) h = cond (nat_lt e.date h) es (e ∷ es)

  -- those with another arrival number than n
  abbrev pub without_arrival : ℕ → List (Entry S) → List (Entry S)
  without_arrival n es = filter (λ e. not (e.arrival == n)) es
