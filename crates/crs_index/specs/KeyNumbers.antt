-- The numbers of keys, as contracts see them.
use Rattle.std.specs.Prelude.{ℕ, zero, suc, ◌+◌, ◌*◌, ◌%◌, ◌==◌, ◌&&◌, ◌||◌, Bool, cond, List, [], map, get_or, nat_lt}
use Rattle.std.specs.Ordering.{on, then_cmp, nat_cmp}
use Rattle.std.specs.declared.cmp.Ordering.{Ordering}
use Rattle.std.specs.declared.option.Option.{Option}
use Rattle.std.specs.declared.option.Option.TheVariants.{None, Some}
use Rattle.std.specs.BTreeMap.{is_at}
use Rattle.std.specs.Map.{lookup}
use Rattle.std.specs.declared.vec.Vec.{Vec}
use Rattle.std.proofs.Common.{Global}
use Rattle.crs_index.specs.declared.key.Key.{Key}
use Rattle.crs_index.specs.declared.numbers.Place.{Place}

-- the numbers that keys have: a table of slots for lone small symbols, places that some of the others have, and the list of the rest
pub record NumbersState : Type 0 where
  pub direct : List (List ℕ)
  pub places : List Place
  pub tree : List (Key × ℕ)

-- keys by their classes, and then symbol by symbol
abbrev pub compare_keys : Key → Key → Ordering
compare_keys = then_cmp (on (λ k. k.class) nat_cmp) (then_cmp (on (λ k. k.first) nat_cmp) (then_cmp (on (λ k. k.second) nat_cmp) (on (λ k. k.third) nat_cmp)))

-- the two keys are one
abbrev pub is_key : Key → Key → Bool
is_key k q = is_at (compare_keys k) q

-- the key has a slot of its own in the table
abbrev pub is_direct : Key → Bool
is_direct k = k.second == 0 && (k.third == 0 && nat_lt k.first 16384)

-- what the slot of a class and a symbol holds
abbrev pub slot : List (List ℕ) → ℕ → ℕ → ℕ
slot rows class first = get_or (get_or rows class []) first 0

-- the number that a slot's content stands for
abbrev pub named : ℕ → Option ℕ
named zero = None
named (suc n) = Some n

-- the two keys have the same class and symbols
abbrev pub is_equal : Key → Key → Bool
is_equal k q = k.first == q.first && (k.second == q.second && (k.third == q.third && k.class == q.class))

-- which place the key has
abbrev pub place : Key → ℕ
place k = (k.class * 1327 + k.first * 1000003 + k.second * 2750159 + k.third * 15485863) % 4096

-- a place where no key stands
abbrev pub free : Place
free = record { key = record { class = 0; first = 0; second = 0; third = 0 }; content = 0 }

-- the number of the key in this place, where it stands there
abbrev pub placed : Place → Key → Option ℕ
placed p k = cond (is_equal k p.key) (named p.content) None

-- the number of the key in its place, where it stands there
abbrev pub in_place : List Place → Key → Option ℕ
in_place places k = placed (get_or places (place k) free) k

-- the key can stand in this place: it is free, or the key's own
abbrev pub is_open : Place → Key → Bool
is_open p k = p.content == 0 || is_equal k p.key

-- the first that is there
abbrev pub either : Option ℕ → Option ℕ → Option ℕ
either None n = n
either (Some m) n = Some m

-- the number of the key, where it has one
abbrev pub number_in : NumbersState → Key → Option ℕ
number_in s k = cond (is_direct k) (named (slot s.direct k.class k.first)) (either (in_place s.places k) (lookup (is_key k) s.tree))

-- the table, as the code keeps it
abbrev pub table : List (Vec ℕ Global) → List (List ℕ)
table rows = map (λ v. v.items) rows
