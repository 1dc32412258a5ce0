-- Entries, their canonical text, and their order.
-- S is the type of symbols: texts in the theorems of the program, numbers of a table in the crates below it.
use Rattle.std.specs.Prelude.{◌≡◌, ℕ, List, [], ◌∷◌, ◌++◌, Option, Some, None, codes}
use Rattle.std.specs.Ordering.{nat_cmp, on, then_cmp}
use Rattle.std.specs.Cmp.Lexicographic.{slice_cmp}
use Rattle.std.specs.declared.cmp.Ordering.{Ordering}
use Rattle.std.specs.declared.cmp.Ordering.TheVariants.{Less}
use Rattle.crs_base.specs.Words.{Ordered}

-- an accepted event line; its arrival number is the count of entries accepted before it, and its change is from an old to a new value
pub record Entry (S : Type 0) : Type 0 where
  pub arrival : ℕ
  pub date : ℕ
  pub name : S
  pub args : List S
  pub change : Option (S × S)
  pub text : List ℕ

-- what entries are ordered by: their date, their canonical text as bytes, and their arrival number
pub record Key : Type 0 where
  pub date : ℕ
  pub text : List ℕ
  pub arrival : ℕ

-- by date, then by text, then by arrival
abbrev pub key_cmp : Key → Key → Ordering
key_cmp = then_cmp (on (λ k. k.date) nat_cmp) (then_cmp (on (λ k. k.text) (slice_cmp nat_cmp)) (on (λ k. k.arrival) nat_cmp))

module _ {S : Type 0} where
  abbrev pub key_of : Entry S → Key
  key_of e = record { date = e.date; text = e.text; arrival = e.arrival }

  -- entries compare by their keys
  abbrev pub entry_cmp : Entry S → Entry S → Ordering
  entry_cmp = on key_of key_cmp

  -- each entry's key is below those of all later ones
  abbrev pub IsInKeyOrder : List (Entry S) → Type 0
  IsInKeyOrder es = Ordered (λ d e. entry_cmp d e ≡ Less) es

-- `,b,c]` behind a first argument
abbrev pub more_text : List (List ℕ) → List ℕ
more_text [] = codes "]"
more_text (a ∷ rest) = (codes "," ++ a) ++ more_text rest

-- `[a,b,c]`, and nothing where there are no arguments
abbrev pub args_text : List (List ℕ) → List ℕ
args_text [] = []
args_text (a ∷ rest) = (codes "[" ++ a) ++ more_text rest

-- `:(old,new)`, and nothing where there is no change
abbrev pub change_text : Option (List ℕ × List ℕ) → List ℕ
change_text None = []
change_text (Some c) = (codes ":(" ++ c.0) ++ (codes "," ++ c.1) ++ codes ")"

-- the canonical text, without blanks: `name[a,b]:(old,new)`
abbrev pub canonical : List ℕ → List (List ℕ) → Option (List ℕ × List ℕ) → List ℕ
canonical name args change = name ++ args_text args ++ change_text change
