-- What the strata of chronicles accept: the logged entries, and at each mark those that the strata below them give.
use Rattle.std.specs.Prelude.{◌≡◌, ℕ, suc, ◌+◌, ◌-◌, ◌≤◌, ◌==◌, max, nat_lt, ℤ, pos, Bool, cond, List, [], ◌∷◌, ◌++◌, length, map, filter, Option, Some, None, option_map, slice_get}
use Rattle.std.specs.List.{AllByRecursion, flat_map}
use Rattle.std.specs.Option.{option_to_list}
use Rattle.crs_base.specs.Entry.{Entry, canonical}
use Rattle.crs_base.specs.Words.{IsIn}
use Rattle.crs_stn.specs.Network.{IsMinimal}
use Rattle.crs_model.specs.Hierarchy.{IsLagOf, lag_below}
use Rattle.crs_model.specs.Matching.{Assignment}
use Rattle.crs_model.specs.Models.{Term, Value, Var, Any, Emit, Chronicle}
use Rattle.crs_model.specs.Order.{arrived, in_key_order, dated_before}
use Rattle.crs_model.specs.Scopes.{Scope, scope_of, ListsNew}
use Rattle.crs_log.specs.Run.{end_date}

-- The horizon of a stratum that lies so many ticks behind that of stratum 0, which is h. After the end all are one.
abbrev pub horizon_behind : Bool → ℕ → ℕ → ℕ
horizon_behind ended h behind = cond ended end_date (h - behind)

-- a chronicle with its stratum and its lag
pub record Placed (S : Type 0) : Type 0 where
  pub chronicle : Chronicle S
  pub stratum : ℕ
  pub lag : Option ℤ

-- how many strata there are, where these are those of the chronicles: one more than the highest, and one where there is none
abbrev pub strata_count : List ℕ → ℕ
strata_count [] = 1
strata_count (k ∷ ks) = max (suc k) (strata_count ks)

-- what a stratum accepted, in this order, and how many of these by the last mark
pub record Stratum (S : Type 0) : Type 0 where
  pub accepted : List (Entry S)
  pub marked : ℕ

module _ {S : Type 0} where
  -- the lag is the chronicle's own, and finite
  pub record IsPlaced (p : Placed S) : Type 0 where
    pub most : ℕ → ℕ → Option ℤ
    pub minimal : IsMinimal p.chronicle.bounds (length p.chronicle.events + length p.chronicle.free) most
    pub lag : IsLagOf p.chronicle most p.lag
    pub ticks : ℕ
    pub finite : p.lag ≡ Some (pos ticks)

  -- how many ticks the horizon of stratum j lies behind that of stratum 0: the sum of the lags of the strata below it
  abbrev pub behind : List (Placed S) → ℕ → ℕ
  behind cs j = lag_below (map (λ c. (c.stratum, c.lag)) cs) j

  -- the chronicles of stratum j, in file order
  abbrev pub of_stratum : ℕ → List (Placed S) → List (Chronicle S)
  of_stratum j cs = map (λ c. c.chronicle) (filter (λ c. c.stratum == j) cs)

  -- what recognition of a chronicle reads of its stratum, whose horizon is h: the settled entries, and those that were accepted by the last mark
  abbrev pub scope_in : Stratum S → ℕ → Chronicle S → Scope S
  scope_in s h c = scope_of c (dated_before h s.accepted) (in_key_order (arrived s.marked s.accepted)) h

  abbrev pub empty : Stratum S
  empty = record { accepted = []; marked = 0 }

  -- the stratum with a logged entry, whose arrival number is the count of those that it accepted
  abbrev pub with_logged : Entry S → Stratum S → Stratum S
  with_logged e s = record s { accepted = s.accepted ++ record e { arrival = length s.accepted } ∷ [] }

  -- the symbol that a term stands for
  abbrev pub symbols_at : List S → Term S → List S
  symbols_at values (Value x) = x ∷ []
  symbols_at values (Var v) = option_to_list (slice_get values v)
  symbols_at values Any = []

  module _ (text_of : S → List ℕ) where
    -- what a recognition gives by an emit where its event is bound to x, before it has an arrival number: an entry of the emit's name, with its terms' symbols, dated as x
    abbrev pub entry_by : List S → Emit S → Entry S → Entry S
    entry_by values e x = record {
      arrival = 0;
      date = x.date;
      name = e.pattern.name;
      args = flat_map (symbols_at values) e.pattern.terms;
      change = None;
      text = canonical (text_of e.pattern.name) (map text_of (flat_map (symbols_at values) e.pattern.terms)) None;
    }

    abbrev pub given_by : Assignment S → Emit S → List (Entry S)
    given_by b e = option_to_list (option_map (entry_by b.values e) (slice_get b.entries e.event))

    -- what a recognition of the chronicle gives, emit by emit
    abbrev pub gives : Chronicle S → Assignment S → List (Entry S)
    gives c b = flat_map (given_by b) c.emits

    -- what chronicles give at a mark, one after another in file order, and of each the new recognitions in key order; `was` and `now` are what recognition of each reads
    abbrev pub Give : List (Chronicle S) → (Chronicle S → Scope S) → (Chronicle S → Scope S) → List (Entry S) → Type 0
    Give [] was now given = given ≡ []
    Give (c ∷ cs) was now given =
        (new : List (Assignment S)) × (rest : List (Entry S)) × ListsNew c (was c) (now c) new × Give cs was now rest × (given ≡ flat_map (gives c) new ++ rest)

  -- the given entries that are accepted, with the arrival numbers from n on: as long as fewer than the limit are
  abbrev pub taken : ℕ → ℕ → List (Entry S) → List (Entry S)
  taken limit n [] = []
  taken limit n (x ∷ xs) = cond (nat_lt n limit) (record x { arrival = n } ∷ taken limit (n + 1) xs) []

  abbrev pub with_given : ℕ → List (Entry S) → List (Entry S) → List (Entry S)
  with_given limit accepted given = accepted ++ taken limit (length accepted) given

  -- the stratum behind a mark at which it was given entries, which count as accepted before the mark
  abbrev pub after_mark : ℕ → Stratum S → List (Entry S) → Stratum S
  after_mark limit s given = record { accepted = with_given limit s.accepted given; marked = length (with_given limit s.accepted given) }

  -- some of the given entries isn't accepted
  abbrev pub is_flooded : ℕ → Stratum S → List (Entry S) → Bool
  is_flooded limit s given = nat_lt limit (length s.accepted + length given)

  -- A mark, from stratum j on, which the strata below gave entries: each stratum before it and behind it, and what each was given. The horizon of stratum j
  -- was g j, and is h j.
  abbrev pub IsMarkFrom : (S → List ℕ) → List (Placed S) → ℕ → (ℕ → ℕ) → (ℕ → ℕ) → ℕ → List (Entry S) → List (Stratum S) → List (Stratum S) → List (List (Entry S)) → Type 0
  IsMarkFrom text_of cs limit g h j given [] news all = (news ≡ []) × (all ≡ [])
  IsMarkFrom text_of cs limit g h j given (old ∷ olds) news all =
      (rest : List (Stratum S)) × (others : List (List (Entry S))) × (more : List (Entry S))
      × (news ≡ after_mark limit old given ∷ rest) × (all ≡ given ∷ others)
      × Give text_of (of_stratum j cs) (scope_in old (g j)) (scope_in (after_mark limit old given) (h j)) more
      × IsMarkFrom text_of cs limit g h (suc j) (given ++ more) olds rest others

  -- the arrival numbers count from n
  abbrev pub AreNumberedFrom : ℕ → List (Entry S) → Type 0
  AreNumberedFrom n [] = Unit {0}
  AreNumberedFrom n (x ∷ xs) = (x.arrival ≡ n) × AreNumberedFrom (suc n) xs

  -- the stratum's entries are numbered from 0, and those that it accepted since the last mark aren't dated before its horizon
  pub record IsSoundAt (h : ℕ) (s : Stratum S) : Type 0 where
    pub numbered : AreNumberedFrom 0 s.accepted
    pub due : (x : Entry S) → IsIn x s.accepted → s.marked ≤ x.arrival → h ≤ x.date

  -- none that a stratum from j on was given is dated before a date of its own
  abbrev pub NoneIsLate : (ℕ → ℕ) → ℕ → List (List (Entry S)) → Type 0
  NoneIsLate g j [] = Unit {0}
  NoneIsLate g j (given ∷ others) = AllByRecursion (λ e. g j ≤ e.date) given × NoneIsLate g (suc j) others
