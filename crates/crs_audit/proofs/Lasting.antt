-- The last mark of a number among marks whose numbers never fall.
use Rattle.std.proofs.Common.{◌≡◌, ◌≢◌, ◌∙◌, ◌<◌, ◌≤◌, ℕ, zero, suc, Bool, true, false, cond, List, [], ◌∷◌, length, get_or, refl, sym, ap, subst, arith, Option, Some, None, ne_eqb, eq-eqb, nat_le, leb-true, ◌-◌}
use Rattle.std.proofs.lemmas.Bool.{leb-false}
use Rattle.std.proofs.lemmas.Bool.Decides.{nat_tests}
use Rattle.std.specs.Prelude.{◌==◌, if◌then◌else◌}
use Rattle.std.specs.Option.{option_or}
use Rattle.std.specs.List.{AllByRecursion}
use Rattle.crs_base.specs.Words.{Ordered}
use Rattle.crs_audit.specs.declared.run.Stand.{Stand}
use Rattle.crs_audit.specs.Runs.{last_numbered}

abbrev Ascend : List Stand → Type 0
Ascend ss = Ordered (λ r s. r.number ≤ s.number) ss

abbrev found : Stand → ℕ → Option Stand
found s n = if s.number == n then Some s else None

none_above : (ss : List Stand) (n : ℕ) → ((k : ℕ) (d : Stand) → k < length ss → n < (get_or ss k d).number) → last_numbered ss n ≡ None
none_above [] n h = refl
none_above (s ∷ ss) n h =
    let no : (s.number == n) ≡ false = ne_eqb s.number n (λ e. let l = h 0 s (omega arith) in omega (arith, e, l)) in
    λ i. option_or (none_above ss n (λ k d l. h (suc k) d (omega (arith, l))) i) (cond (no i) (Some s) None)

below_one : (f s : Stand) (n : ℕ) (b : Bool) → (s.number == n) ≡ b → s.number ≤ n → f.number ≤ s.number → option_or (cond b (Some s) None) (found f n) ≡ cond b (Some s) None
below_one f s n true e le up = refl
below_one f s n false e le up =
    let apart : s.number ≢ n = (λ q. let t : (s.number == n) ≡ true = eq-eqb s.number n q in cc) in
    let no : (f.number == n) ≡ false = ne_eqb f.number n (λ q. apart (omega (arith, q, le, up))) in
    λ i. cond (no i) (Some f) None

-- the mark at a place is the last one that isn't above the number
pub last_is : (ss : List Stand) (n j : ℕ) (s : Stand) → Ascend ss → j < length ss → s ≡ get_or ss j s → s.number ≤ n
    → ((k : ℕ) (d : Stand) → j < k → k < length ss → n < (get_or ss k d).number) → last_numbered ss n ≡ found s n
last_is [] n j s a lt e le h = absurd (omega (arith, lt))
last_is (f ∷ ss) n zero s a lt e le h =
    λ i. option_or (none_above ss n (λ k d l. h (suc k) d (omega arith) (omega (arith, l))) i) (found (sym e i) n)
last_is (f ∷ ss) n (suc j) s a lt e le h =
    let up : f.number ≤ s.number = at_least f ss j s a.0 (omega (arith, lt)) e in
    ap (λ (o : Option Stand). option_or o (found f n)) (last_is ss n j s a.1 (omega (arith, lt)) e le (λ k d l m. h (suc k) d (omega (arith, l)) (omega (arith, m))))
    ∙ below_one f s n (s.number == n) refl le up
  where
    at_least : (f : Stand) (ss : List Stand) (j : ℕ) (s : Stand) → AllByRecursion (λ r. f.number ≤ r.number) ss → j < length ss → s ≡ get_or ss j s → f.number ≤ s.number
    at_least f [] j s a lt e = absurd (omega (arith, lt))
    at_least f (r ∷ ss) zero s a lt e = subst (λ (z : Stand). f.number ≤ z.number) (sym e) a.0
    at_least f (r ∷ ss) (suc j) s a lt e = at_least f ss j s a.1 (omega (arith, lt)) e

pub none_is : (ss : List Stand) (n : ℕ) → ((k : ℕ) (d : Stand) → k < length ss → n < (get_or ss k d).number) → last_numbered ss n ≡ None
none_is = none_above

up_in : (ss : List Stand) → Ascend ss → (i j : ℕ) (d : Stand) → i ≤ j → j < length ss → (get_or ss i d).number ≤ (get_or ss j d).number
up_in [] a i j d le lt = absurd (omega (arith, lt))
up_in (s ∷ ss) a zero zero d le lt = omega arith
up_in (s ∷ ss) a zero (suc j) d le lt = from_first ss j a.0 (omega (arith, lt))
  where
    from_first : (ss : List Stand) (j : ℕ) → AllByRecursion (λ r. s.number ≤ r.number) ss → j < length ss → s.number ≤ (get_or ss j d).number
    from_first [] j a lt = absurd (omega (arith, lt))
    from_first (r ∷ ss) zero a lt = a.0
    from_first (r ∷ ss) (suc j) a lt = from_first ss j a.1 (omega (arith, lt))
up_in (s ∷ ss) a (suc i) zero d le lt = absurd (omega (arith, le))
up_in (s ∷ ss) a (suc i) (suc j) d le lt = up_in ss a.1 i j d (omega (arith, le)) (omega (arith, lt))

down : (a b n : ℕ) → a ≤ b → nat_le b n ≡ true → nat_le a n ≡ true
down a b n h k = grind (arith, nat_tests)

-- marks up to a number stand before those above it
pub up_places : (ss : List Stand) (n : ℕ) → Ascend ss → (i j : ℕ) (d : Stand) → i ≤ j → j < length ss → nat_le (get_or ss j d).number n ≡ true → nat_le (get_or ss i d).number n ≡ true
up_places ss n a i j d le lt k = down (get_or ss i d).number (get_or ss j d).number n (up_in ss a i j d le lt) k

same_at : (ss : List Stand) (j : ℕ) (y z : Stand) → j < length ss → get_or ss j y ≡ get_or ss j z
same_at [] j y z lt = absurd (omega (arith, lt))
same_at (s ∷ ss) zero y z lt = refl
same_at (s ∷ ss) (suc j) y z lt = same_at ss j y z (omega (arith, lt))

module _ (ss : List Stand) (n i : ℕ) (z : Stand) (a : Ascend ss) (some : i ≢ 0) (bound : i ≤ length ss)
    (below : (k : ℕ) (d : Stand) → 0 ≤ k → k < i → nat_le (get_or ss k d).number n ≡ true)
    (above : (k : ℕ) (d : Stand) → i ≤ k → k < length ss → nat_le (get_or ss k d).number n ≡ false) where
  abbrev s : Stand
  s = get_or ss (i - 1) z

  last_found : last_numbered ss n ≡ found s n
  last_found =
      let lt : i - 1 < length ss = omega (arith, some, bound) in
      last_is ss n (i - 1) s a lt (same_at ss (i - 1) z s lt) (leb-true s.number n (below (i - 1) z (omega arith) (omega (arith, some))))
      (λ k d l m. leb-false (get_or ss k d).number n (above k d (omega (arith, l, some)) m))

  pub found_there : s.number ≡ n → Some s ≡ last_numbered ss n
  found_there e = (λ j. cond (sym (eq-eqb s.number n e) j) (Some s) None) ∙ sym last_found

  pub found_none : (s.number ≡ n → ⊥) → None ≡ last_numbered ss n
  found_none e = (λ j. cond (sym (ne_eqb s.number n e) j) (Some s) None) ∙ sym last_found
