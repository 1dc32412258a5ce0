-- The order of entries and of assignments.
use Rattle.std.specs.Prelude.{◌≡◌, ℕ, nat_lt, filter, List, [], ◌∷◌, cond}
use Rattle.std.specs.Ordering.{on, is_lt}
use Rattle.std.specs.List.{AllByRecursion}
use Rattle.crs_base.specs.Words.{IsIn, Ordered}
use Rattle.std.specs.Cmp.Lexicographic.{slice_cmp}
use Rattle.std.specs.declared.cmp.Ordering.{Ordering}
use Rattle.std.specs.declared.cmp.Ordering.TheVariants.{Less}
use Rattle.crs_base.specs.Entry.{Entry, entry_cmp}
use Rattle.crs_model.specs.Matching.{Assignment}

module _ {S : Type 0} where
  -- the lists of the entries' keys in event order, key by key
  abbrev pub entries_cmp : List (Entry S) → List (Entry S) → Ordering
  entries_cmp = slice_cmp entry_cmp

  abbrev pub assignment_cmp : Assignment S → Assignment S → Ordering
  assignment_cmp = on (λ a. a.entries) entries_cmp

  -- e put into a list in key order
  abbrev pub put_in_order : Entry S → List (Entry S) → List (Entry S)
  put_in_order e [] = e ∷ []
  put_in_order e (x ∷ xs) = cond (is_lt (entry_cmp e x)) (e ∷ x ∷ xs) (x ∷ put_in_order e xs)

  -- each put in turn into a list in key order
  abbrev pub put_all : List (Entry S) → List (Entry S) → List (Entry S)
  put_all sorted [] = sorted
  put_all sorted (x ∷ xs) = put_all (put_in_order x sorted) xs

  abbrev pub in_key_order : List (Entry S) → List (Entry S)
  in_key_order xs = put_all [] xs

  -- the entries dated before a horizon, in key order
  abbrev pub dated_before : ℕ → List (Entry S) → List (Entry S)
  dated_before horizon entries = in_key_order (filter (λ e. nat_lt e.date horizon) entries)

-- those of the entries that had arrived when so many were accepted
abbrev pub arrived : {S : Type 0} → ℕ → List (Entry S) → List (Entry S)
arrived n entries = filter (λ e. nat_lt e.arrival n) entries

-- xs ascends strictly, and its members are exactly those of which P holds
pub record Lists {A : Type 0} (cmp : A → A → Ordering) (P : A → Type 0) (xs : List A) : Type 0 where
  pub ascending : Ordered (λ a b. cmp a b ≡ Less) xs
  pub each : AllByRecursion P xs
  pub all : (a : A) → P a → IsIn a xs

-- xs has, without repeats, exactly those of which P holds
pub record AreAll {A : Type 0} (P : A → Type 0) (xs : List A) : Type 0 where
  pub distinct : Ordered (λ a b. a ≡ b → ⊥) xs
  pub each : (a : A) → IsIn a xs → P a
  pub all : (a : A) → P a → IsIn a xs

-- the two lists have the same members
pub record HaveSameMembers {A : Type 0} (xs ys : List A) : Type 0 where
  pub there : (x : A) → IsIn x xs → IsIn x ys
  pub back : (x : A) → IsIn x ys → IsIn x xs
