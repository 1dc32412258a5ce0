-- What a look at a part of the entries says of the values at all dates of a range.
use Rattle.std.proofs.Common.{◌≡◌, ℕ, ◌≤◌, true, nat_le, List, [], ◌∷◌, ◌++◌, filter, refl, sym, subst, inl, inr, arith}
use Rattle.std.specs.Prelude.{ℤ, pos, ◌≤ℤ◌, ◌<ℤ◌, ◌+ℤ◌}
use Rattle.std.proofs.lemmas.Int.{ints, by_lt_z}
use Rattle.std.proofs.lemmas.Bool.Decides.{nat_tests}
use Rattle.crs_base.specs.declared.symbols.Sym.{Sym}
use Rattle.crs_base.specs.Words.{IsIn}
use Rattle.crs_base.specs.Entry.{Entry}
use Rattle.crs_base.specs.Values.{Attribute}
use Rattle.crs_base.proofs.Words.{in_filter, in_filter_back, in_append_right, in_from_each}
use Rattle.crs_history.specs.Dates.{IsByDate, nat_of}
use Rattle.crs_history.specs.Histories.{EndsWith}
use Rattle.crs_history.specs.Looking.{is_before, is_since, AllBring, AreChanges, HasValueOver}
use Rattle.crs_history.proofs.Dates.{before_of, of_before, since_of, of_since}
use Rattle.crs_history.proofs.LastChanges.{last_told}

le_test : (m n : ℕ) → m ≤ n → nat_le m n ≡ true
le_test m n h = grind (arith, nat_tests)

test_le : (m n : ℕ) → nat_le m n ≡ true → m ≤ n
test_le m n h = grind (arith, nat_tests)

after_one : (t u : ℤ) → t <ℤ (u +ℤ pos 1) → t ≤ℤ u
after_one t u h = omega (arith, ints)

before_one : (t u : ℤ) → t ≤ℤ u → t <ℤ (u +ℤ pos 1)
before_one t u h = omega (arith, ints)

from_one : (t u : ℤ) → (u +ℤ pos 1) ≤ℤ t → u <ℤ t
from_one t u h = omega (arith, ints)

one_from : (t u : ℤ) → u <ℤ t → (u +ℤ pos 1) ≤ℤ t
one_from t u h = omega (arith, ints)

z_trans : (t u w : ℤ) → t ≤ℤ u → u ≤ℤ w → t ≤ℤ w
z_trans t u w h k = omega (arith, ints)

z_lt : (t u w : ℤ) → t ≤ℤ u → u <ℤ w → t <ℤ w
z_lt t u w h k = omega (arith, ints)

z_less : (t u : ℤ) → t <ℤ u → t ≤ℤ u
z_less t u h = omega (arith, ints)

z_self : (t : ℤ) → t ≤ℤ t
z_self t = omega (arith, ints)

z_nat : (m n : ℕ) → pos m ≤ℤ pos n → m ≤ n
z_nat m n h = omega (arith, ints)

end_in : (es : List (Entry Sym)) (l : Entry Sym) → EndsWith l es → IsIn l es
end_in es l ends = subst (IsIn l) (sym ends.1) (in_append_right ends.0 (l ∷ []) l (inl refl))

last_top : (ys : List (Entry Sym)) (l e : Entry Sym) → IsByDate (ys ++ l ∷ []) → IsIn e (ys ++ l ∷ []) → e.date ≤ l.date
last_top [] l e h (inl q) = subst (λ (w : Entry Sym). w.date ≤ l.date) (sym q) (omega arith)
last_top [] l e h (inr k) = absurd k
last_top (y ∷ ys) l e h (inl q) = subst (λ (w : Entry Sym). w.date ≤ l.date) (sym q) (in_from_each (λ d. y.date ≤ d.date) (ys ++ l ∷ []) h.0 l (in_append_right ys (l ∷ []) l (inl refl)))
last_top (y ∷ ys) l e h (inr k) = last_top ys l e h.1 k

-- the last in the order of dates has the greatest
end_top : (es : List (Entry Sym)) (l : Entry Sym) → IsByDate es → EndsWith l es → (e : Entry Sym) → IsIn e es → e.date ≤ l.date
end_top es l h ends e i = last_top ends.0 l e (subst IsByDate ends.1 h) (subst (IsIn e) ends.1 i)

module _ (a : Attribute Sym) (v : Sym) (xs : List (Entry Sym)) (from to : ℤ) where
  abbrev pub front : List (Entry Sym)
  front = filter (is_before (nat_of (from +ℤ pos 1))) xs

  abbrev pub middle : List (Entry Sym)
  middle = filter (is_before (nat_of to)) (filter (is_since (nat_of (from +ℤ pos 1))) xs)

  in_front : (e : Entry Sym) → IsIn e xs → pos e.date ≤ℤ from → IsIn e front
  in_front e i h = in_filter (is_before (nat_of (from +ℤ pos 1))) xs e i (before_of e.date (from +ℤ pos 1) (before_one (pos e.date) from h))

  of_front : (e : Entry Sym) → IsIn e front → IsIn e xs × (pos e.date ≤ℤ from)
  of_front e i = let m = in_filter_back (is_before (nat_of (from +ℤ pos 1))) xs e i in (m.0, after_one (pos e.date) from (of_before e.date (from +ℤ pos 1) m.1))

  in_middle : (e : Entry Sym) → IsIn e xs → from <ℤ pos e.date → pos e.date <ℤ to → IsIn e middle
  in_middle e i h k = in_filter (is_before (nat_of to)) (filter (is_since (nat_of (from +ℤ pos 1))) xs) e
      (in_filter (is_since (nat_of (from +ℤ pos 1))) xs e i (since_of e.date (from +ℤ pos 1) (one_from (pos e.date) from h)))
      (before_of e.date to k)

  of_middle : (e : Entry Sym) → IsIn e middle → IsIn e xs × (from <ℤ pos e.date) × (pos e.date <ℤ to)
  of_middle e i =
      let m = in_filter_back (is_before (nat_of to)) (filter (is_since (nat_of (from +ℤ pos 1))) xs) e i in
      let n = in_filter_back (is_since (nat_of (from +ℤ pos 1))) xs e m.0 in
      (n.0, from_one (pos e.date) from (of_since e.date (from +ℤ pos 1) n.1), of_before e.date to m.1)

  module _ (all : AreChanges a xs) where
    pub over_yes : (l : Entry Sym) → IsByDate front → EndsWith l front → AllBring v middle → AllBring v (filter (is_since l.date) front) → HasValueOver a xs v from to
    over_yes l by_date ends agree last = λ t h k.
        let at = of_front l (end_in front l ends) in
        record {
          changed = elim (last_told a xs t) [
            | inl p ↦ p
            | inr f ↦ absurd (f l at.0 (all l at.0) (z_trans (pos l.date) from t at.1 h))
          ];
          agreed = λ e m. by_lt_z from (pos e.date)
              (λ after. agree e (in_middle e m.given after (z_lt (pos e.date) t to m.by_then k)))
              (λ upto. last e
              (in_filter (is_since l.date) front e (in_front e m.given upto)
              (le_test l.date e.date (m.greatest l at.0 (all l at.0) (z_trans (pos l.date) from t at.1 h)))));
        }

    module _ (lt : from <ℤ to) (holds : HasValueOver a xs v from to) where
      pub over_middle : AllBring v middle
      over_middle e i =
          let m = of_middle e i in
          (holds (pos e.date) (z_less from (pos e.date) m.1) m.2).agreed e (record {
            given = m.0;
            change = all e m.0;
            by_then = z_self (pos e.date);
            greatest = λ d j k l. z_nat d.date e.date l;
          })

      pub over_some : front ≡ [] → ⊥
      over_some none =
          let p = (holds from (z_self from) lt).changed in
          subst (IsIn p.0) none (in_front p.0 p.1.given p.1.by_then)

      pub over_last : (l : Entry Sym) → IsByDate front → EndsWith l front → AllBring v (filter (is_since l.date) front)
      over_last l by_date ends e i =
          let m = in_filter_back (is_since l.date) front e i in
          let n = of_front e m.0 in
          let since : l.date ≤ e.date = test_le l.date e.date m.1 in
          (holds from (z_self from) lt).agreed e (record {
            given = n.0;
            change = all e n.0;
            by_then = n.1;
            greatest = λ d j k u. let top : d.date ≤ l.date = end_top front l by_date ends d (in_front d j u) in omega arith;
          })
