-- What holds of a statement to which no word applies.
use Rattle.std.proofs.Common.{◌≡◌, ℕ, ℤ, pos, ◌<◌, ◌≤◌, Bool, true, false, cond, not, nat_le, nat_lt, List, [], ◌∷◌, Option, Some, None, refl, arith}
use Rattle.std.specs.Prelude.{int_lt, neg_ℤ, IfSome}
use Rattle.std.specs.List.{AllByRecursion}
use Rattle.std.proofs.lemmas.Bool.{ltb-false, leb-false, or_parts}
use Rattle.std.proofs.lemmas.Int.{ints}
use Rattle.crs_model.specs.declared.models.ModelWord.{ModelWord}
use Rattle.crs_grammar.specs.Statements.{Statement}
use Rattle.crs_parse.specs.Faults.{Name, Written, first_of, faults_of, is_twice, has_no_name, has_wrong_arity, has_wrong_value, has_no_variable, has_no_point, is_out_of_bounds, has_any, passes_count, is_looped, lacks_events, is_unbound, is_above, is_far}
use Rattle.crs_parse.specs.HeldStatements.{IsNear}

pub not_false : (a : Bool) → not a ≡ false → a ≡ true
not_false true e = refl
not_false false e = cc

-- every word of the statement, where none applies
pub record IsFaultless (full : Bool) (names : List Name) (done : List (ℕ × Written)) (c : Written) (s : Statement) : Type 0 where
  pub twice : is_twice names done c s ≡ false
  pub name : has_no_name names s ≡ false
  pub arity : has_wrong_arity names s ≡ false
  pub value : has_wrong_value names s ≡ false
  pub variable : has_no_variable c s ≡ false
  pub point : has_no_point c s ≡ false
  pub bound : is_out_of_bounds s ≡ false
  pub window : has_any s ≡ false
  pub count : passes_count names done c s ≡ false
  pub room : full ≡ false
  pub unlooped : is_looped done c s ≡ false
  pub events : lacks_events c s ≡ false
  pub unbound : is_unbound c s ≡ false

first_step : (w : ModelWord) (b : Bool) (o : Option ModelWord) → cond b (Some w) o ≡ None → (b ≡ false) × (o ≡ None)
first_step w true o e = cc
first_step w false o e = (refl, e)

none_first : (fs : List (ModelWord × Bool)) → first_of fs ≡ None → AllByRecursion (λ f. f.1 ≡ false) fs
none_first [] e = tt
none_first ((w, b) ∷ fs) e = let h = first_step w b (first_of fs) e in (h.0, none_first fs h.1)

pub faultless : (full : Bool) (names : List Name) (done : List (ℕ × Written)) (c : Written) (s : Statement) → first_of (faults_of full (is_looped done c s) names done c s) ≡ None → IsFaultless full names done c s
faultless full names done c s e =
    let h = none_first (faults_of full (is_looped done c s) names done c s) e in
    let both = or_parts (passes_count names done c s) full h.1.1.1.1.1.1.1.1.0 in
    record {
      twice = h.0;
      name = h.1.0;
      arity = h.1.1.0;
      value = h.1.1.1.0;
      variable = h.1.1.1.1.0;
      point = h.1.1.1.1.1.0;
      bound = h.1.1.1.1.1.1.0;
      window = h.1.1.1.1.1.1.1.0;
      count = both.0;
      room = both.1;
      unlooped = h.1.1.1.1.1.1.1.1.1.0;
      events = h.1.1.1.1.1.1.1.1.1.1.0;
      unbound = h.1.1.1.1.1.1.1.1.1.1.1.0;
    }

pub not_le : (a b : ℕ) → nat_le a b ≡ false → b < a
not_le a b e = leb-false a b e

pub not_lt : (a b : ℕ) → nat_lt a b ≡ false → b ≤ a
not_lt a b e = ltb-false a b e

pub not_above : (n : ℕ) (o : Option ℕ) → is_above n o ≡ false → IfSome o (λ m. m ≤ n)
not_above n None e = tt
not_above n (Some m) e = not_lt n m e

near_by : (z : ℤ) → int_lt (pos 1099511627776) z ≡ false → int_lt z (neg_ℤ (pos 1099511627776)) ≡ false → IsNear z
near_by z a b = record { not_large = omega (arith, ints, a); not_small = omega (arith, ints, b) }

pub not_far : (o : Option ℤ) → is_far o ≡ false → IfSome o IsNear
not_far None e = tt
not_far (Some z) e = let h = or_parts (int_lt (pos 1099511627776) z) (int_lt z (neg_ℤ (pos 1099511627776))) e in near_by z h.0 h.1
