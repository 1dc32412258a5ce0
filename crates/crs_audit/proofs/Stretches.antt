-- What is settled over a stretch of dates, told by the entries in the order of their dates.
use Rattle.std.proofs.Common.{◌≡◌, ◌∙◌, ◌<◌, ◌≤◌, ℕ, suc, Bool, true, false, cond, List, [], ◌∷◌, length, filter, nat_lt, nat_le, refl, sym, ap, subst, arith, inl, inr, Some, None, Option, lt-ltb, ltb-true}
use Rattle.std.specs.Prelude.{ℤ, pos, negsuc, ◌+ℤ◌, ◌≤ℤ◌, ◌<ℤ◌, IsSomeAnd}
use Rattle.std.proofs.lemmas.Int.{ints, by_lt_z}
use Rattle.std.proofs.lemmas.Bool.Decides.{nat_tests}
use Rattle.std.specs.List.{AllZip, AllByRecursion}
use Rattle.crs_base.specs.declared.symbols.Sym.{Sym}
use Rattle.crs_base.specs.Words.{IsIn}
use Rattle.crs_base.specs.Entry.{Entry}
use Rattle.crs_base.specs.Values.{Attribute, IsChange, NewIs, HasValue}
use Rattle.crs_base.proofs.Words.{in_filter, in_filter_back, each_from_in, in_from_each}
use Rattle.crs_base.proofs.Values.{change_agrees}
use Rattle.crs_base.proofs.Deciding.{value_carries, sym_tells}
use Rattle.crs_model.specs.Models.{Term, Value, Var, Any, Pattern}
use Rattle.crs_model.specs.Matching.{Binding, TermIs, PatternIs}
use Rattle.crs_model.specs.ProperModels.{IsDefinite}
use Rattle.crs_model.specs.Order.{arrived}
use Rattle.crs_model.specs.Verdicts.{Count, IsDatedIn, HoldsOver, IsHeld, IsCount, TermIsBound}
use Rattle.crs_audit.specs.declared.run.Stand.{Stand}
use Rattle.crs_audit.specs.CitedDates.{nat_of, is_before, is_since, dated_in}
use Rattle.crs_audit.specs.Counted.{IsCounted, AreCounted}
use Rattle.crs_audit.specs.Changes.{IsTurn, Brings, IsKept}
use Rattle.crs_audit.specs.ClaimWindows.{settled_in}

before_of : (d : ℕ) (t : ℤ) → pos d <ℤ t → nat_lt d (nat_of t) ≡ true
before_of d (pos n) h = let k : d < n = omega (arith, ints) in grind (arith, nat_tests)
before_of d (negsuc n) h = absurd (omega (arith, ints))

of_before : (d : ℕ) (t : ℤ) → nat_lt d (nat_of t) ≡ true → pos d <ℤ t
of_before d (pos n) h = let k : d < n = grind (arith, nat_tests) in omega (arith, ints)
of_before d (negsuc n) h = let k : d < 0 = grind (arith, nat_tests) in absurd (omega arith)

since_of : (d : ℕ) (t : ℤ) → t ≤ℤ pos d → nat_le (nat_of t) d ≡ true
since_of d (pos n) h = let k : n ≤ d = omega (arith, ints) in grind (arith, nat_tests)
since_of d (negsuc n) h = grind (arith, nat_tests)

of_since : (d : ℕ) (t : ℤ) → nat_le (nat_of t) d ≡ true → t ≤ℤ pos d
of_since d (pos n) h = let k : n ≤ d = grind (arith, nat_tests) in omega (arith, ints)
of_since d (negsuc n) h = omega (arith, ints)

in_dated : (from to : ℤ) (es : List (Entry Sym)) (e : Entry Sym) → IsIn e es → from ≤ℤ pos e.date → pos e.date <ℤ to → IsIn e (dated_in from to es)
in_dated from to es e i l m =
    in_filter (is_since (nat_of from)) (filter (is_before (nat_of to)) es) e (in_filter (is_before (nat_of to)) es e i (before_of e.date to m)) (since_of e.date from l)

of_dated : (from to : ℤ) (es : List (Entry Sym)) (e : Entry Sym) → IsIn e (dated_in from to es) → IsIn e es × (from ≤ℤ pos e.date) × (pos e.date <ℤ to)
of_dated from to es e i =
    let a = in_filter_back (is_since (nat_of from)) (filter (is_before (nat_of to)) es) e i in
    let b = in_filter_back (is_before (nat_of to)) es e a.0 in
    (b.0, of_since e.date from a.1, of_before e.date to b.1)

z_lt : (t u w : ℤ) → t ≤ℤ u → u <ℤ w → t <ℤ w
z_lt t u w h k = omega (arith, ints)

z_less : (t u : ℤ) → t <ℤ u → t ≤ℤ u
z_less t u h = omega (arith, ints)

z_trans : (t u w : ℤ) → t ≤ℤ u → u ≤ℤ w → t ≤ℤ w
z_trans t u w h k = omega (arith, ints)

z_nat : (m n : ℕ) → pos m ≤ℤ pos n → m ≤ n
z_nat m n h = omega (arith, ints)

nat_z : (m n : ℕ) → m ≤ n → pos m ≤ℤ pos n
nat_z m n h = omega (arith, ints)

not_under : (n : ℕ) → pos 0 ≤ℤ pos n
not_under n = omega (arith, ints)

after_one : (t u : ℤ) → t <ℤ (u +ℤ pos 1) → t ≤ℤ u
after_one t u h = omega (arith, ints)

before_one : (t u : ℤ) → t ≤ℤ u → t <ℤ (u +ℤ pos 1)
before_one t u h = omega (arith, ints)

same_date : (m n : ℕ) → m ≤ n → n ≤ m → m ≡ n
same_date m n h k = omega arith

below_pos : (d h : ℕ) (to : ℤ) → pos d <ℤ to → to ≤ℤ pos h → d < h
below_pos d h to l m = omega (arith, ints)

-- ---- counts

module _ {X : Type 0} where
  count_to : (P Q : X → Type 0) → ((x : X) → P x → Q x) → ((x : X) → Q x → P x) → (xs : List X) (n : ℕ) → Count P xs n → Count Q xs n
  count_to P Q f g [] n h = h
  count_to P Q f g (x ∷ xs) n (inl h) = inl (f x h.0, h.1, h.2, count_to P Q f g xs h.1 h.3)
  count_to P Q f g (x ∷ xs) n (inr h) = inr ((λ q. h.0 (g x q)), count_to P Q f g xs n h.1)

  -- what a filter keeps is counted
  filtered : (p : X → Bool) (P : X → Type 0) (xs : List X) (n : ℕ) → Count P (filter p xs) n → Count (λ x. (p x ≡ true) × P x) xs n
  filtered p P [] n h = h
  filtered p P (x ∷ xs) n h = by (λ m. filtered p P xs m) (p x) refl h
    where
      by : ((m : ℕ) → Count P (filter p xs) m → Count (λ x. (p x ≡ true) × P x) xs m) → (b : Bool) → p x ≡ b → Count P (cond b (x ∷ filter p xs) (filter p xs)) n
          → Count (λ x. (p x ≡ true) × P x) (x ∷ xs) n
      by on true e (inl k) = inl ((e, k.0), k.1, k.2, on k.1 k.3)
      by on true e (inr k) = inr ((λ q. k.0 q.1), on n k.1)
      by on false e k = inr ((λ q. let t = q.0 in absurd cc), on n k)

  refiltered : (p : X → Bool) (P : X → Type 0) (xs : List X) (n : ℕ) → Count (λ x. (p x ≡ true) × P x) xs n → Count P (filter p xs) n
  refiltered p P [] n h = h
  refiltered p P (x ∷ xs) n h = by (λ m. refiltered p P xs m) (p x) refl h
    where
      by : ((m : ℕ) → Count (λ x. (p x ≡ true) × P x) xs m → Count P (filter p xs) m) → (b : Bool) → p x ≡ b → Count (λ x. (p x ≡ true) × P x) (x ∷ xs) n
          → Count P (cond b (x ∷ filter p xs) (filter p xs)) n
      by on true e (inl k) = inl (k.0.1, k.1, k.2, on k.1 k.3)
      by on true e (inr k) = inr ((λ q. k.0 (e, q)), on n k.1)
      by on false e (inl k) = let t = k.0.0 in absurd cc
      by on false e (inr k) = on n k.1

  pub filter_shorter : (p : X → Bool) (xs : List X) → length (filter p xs) ≤ length xs
  filter_shorter p [] = omega arith
  filter_shorter p (x ∷ xs) = by (p x) (filter_shorter p xs)
    where
      by : (b : Bool) → length (filter p xs) ≤ length xs → length (cond b (x ∷ filter p xs) (filter p xs)) ≤ suc (length xs)
      by true l = omega arith
      by false l = omega arith

  one_count : (P : X → Type 0) (xs : List X) (m n : ℕ) → Count P xs m → Count P xs n → m ≡ n
  one_count P [] m n h k = h ∙ sym k
  one_count P (x ∷ xs) m n (inl h) (inl k) = h.2 ∙ ap suc (one_count P xs h.1 k.1 h.3 k.3) ∙ sym k.2
  one_count P (x ∷ xs) m n (inl h) (inr k) = absurd (k.0 h.0)
  one_count P (x ∷ xs) m n (inr h) (inl k) = absurd (h.0 k.0)
  one_count P (x ∷ xs) m n (inr h) (inr k) = one_count P xs m n h.1 k.1

-- no more of them are in a stretch
pub dated_few : (from to : ℤ) (es : List (Entry Sym)) → length (dated_in from to es) ≤ length es
dated_few from to es =
    let a = filter_shorter (is_since (nat_of from)) (filter (is_before (nat_of to)) es) in
    let b = filter_shorter (is_before (nat_of to)) es in
    omega arith

module _ (at : Stand) (es : List (Entry Sym)) (from to : ℤ) (late : to ≤ℤ pos at.horizon) (look : Binding Sym) where
  module _ (p : Pattern Sym) where
    -- the count of a settled stretch, by the entries of its dates
    pub counted : (n : ℕ) → AreCounted look p at.accepted (dated_in from to es) n → IsCount (settled_in at es) look p from to n
    counted n c =
        refiltered (λ e. nat_lt e.date at.horizon) (λ e. IsDatedIn from to e × PatternIs look p e) (arrived at.accepted es) n
        (refiltered (λ e. nat_lt e.arrival at.accepted) (λ e. (nat_lt e.date at.horizon ≡ true) × (IsDatedIn from to e × PatternIs look p e)) es n
        (count_to (λ e. (is_before (nat_of to) e ≡ true) × ((is_since (nat_of from) e ≡ true) × IsCounted look p at.accepted e))
        (λ e. (nat_lt e.arrival at.accepted ≡ true) × ((nat_lt e.date at.horizon ≡ true) × (IsDatedIn from to e × PatternIs look p e)))
        (λ e h.
        let m = of_before e.date to h.0 in
        (lt-ltb e.arrival at.accepted h.1.1.0, (lt-ltb e.date at.horizon (below_pos e.date at.horizon to m late), ((of_since e.date from h.1.0, m), h.1.1.1))))
        (λ e h. (before_of e.date to h.1.1.0.1, (since_of e.date from h.1.1.0.0, (ltb-true e.arrival at.accepted h.0, h.1.1.1)))) es n
        (filtered (is_before (nat_of to)) (λ e. (is_since (nat_of from) e ≡ true) × IsCounted look p at.accepted e) es n
        (filtered (is_since (nat_of from)) (IsCounted look p at.accepted) (filter (is_before (nat_of to)) es) n c))))

    -- it is the only count
    pub counted_once : (m n : ℕ) → AreCounted look p at.accepted (dated_in from to es) m → IsCount (settled_in at es) look p from to n → n ≡ m
    counted_once m n c d = one_count (λ e. IsDatedIn from to e × PatternIs look p e) (settled_in at es) n m d (counted m c)

  -- ---- values

  -- a term that isn't `*` is one symbol, if its variable is bound
  one_term : (t : Term Sym) (x y : Sym) → IsDefinite t → TermIs look t x → TermIs look t y → x ≡ y
  one_term (Value v) x y d h k = sym h ∙ k
  one_term (Var v) x y d h k = let e : Some x ≡ Some y = sym h ∙ k in cc
  one_term Any x y d h k = absurd d

  one_each : (ts : List (Term Sym)) (xs ys : List Sym) → AllByRecursion IsDefinite ts → AllZip (TermIs look) ts xs → AllZip (TermIs look) ts ys → xs ≡ ys
  one_each [] [] [] d h k = refl
  one_each [] (x ∷ xs) ys d h k = absurd h
  one_each [] [] (y ∷ ys) d h k = absurd k
  one_each (t ∷ ts) [] ys d h k = absurd h
  one_each (t ∷ ts) (x ∷ xs) [] d h k = absurd k
  one_each (t ∷ ts) (x ∷ xs) (y ∷ ys) d h k =
      let a = one_term t x y d.0 h.0 k.0 in
      let b = one_each ts xs ys d.1 h.1 k.1 in
      λ i. a i ∷ b i

  some_of : (o : Option Sym) → IsSomeAnd o (λ _. Unit {0}) → (x : Sym) × (o ≡ Some x)
  some_of None h = absurd h
  some_of (Some x) h = (x, refl)

  is_some_term : (t : Term Sym) → IsDefinite t → TermIsBound look t → (x : Sym) × TermIs look t x
  is_some_term (Value v) d b = (v, refl)
  is_some_term (Var v) d b = some_of (look v) b
  is_some_term Any d b = absurd d

  are_some_terms : (ts : List (Term Sym)) → AllByRecursion IsDefinite ts → AllByRecursion (TermIsBound look) ts → (xs : List Sym) × AllZip (TermIs look) ts xs
  are_some_terms [] d b = ([], tt)
  are_some_terms (t ∷ ts) d b =
      let first = is_some_term t d.0 b.0 in
      let rest = are_some_terms ts d.1 b.1 in
      (first.0 ∷ rest.0, (first.1, rest.1))

  module _ (name : Sym) (terms : List (Term Sym)) (value : Term Sym) (plain : AllByRecursion IsDefinite (value ∷ terms)) where
    abbrev Turn : Entry Sym → Type 0
    Turn = IsTurn look name terms at.accepted

    module _ (a : Attribute Sym) (v : Sym) (held : IsHeld look name terms value a v) where
      turned : (e : Entry Sym) → IsIn e es → Turn e → pos e.date <ℤ to → IsIn e (settled_in at es) × IsChange a e
      turned e i t l = (
        in_filter (λ e. nat_lt e.date at.horizon) (arrived at.accepted es) e (in_filter (λ e. nat_lt e.arrival at.accepted) es e i (lt-ltb e.arrival at.accepted t.early))
            (lt-ltb e.date at.horizon (below_pos e.date at.horizon to l late)),
        record { named = t.named ∙ sym held.name_is; of = one_each terms e.args a.args plain.1 t.of held.args_are; change = t.change },
      )

      turns : (e : Entry Sym) → IsIn e (settled_in at es) → IsChange a e → IsIn e es × Turn e
      turns e i c =
          let p = in_filter_back (λ e. nat_lt e.date at.horizon) (arrived at.accepted es) e i in
          let q = in_filter_back (λ e. nat_lt e.arrival at.accepted) es e p.0 in (
            q.0,
            record {
              early = ltb-true e.arrival at.accepted q.1;
              named = c.named ∙ held.name_is;
              of = subst (AllZip (TermIs look) terms) (sym c.of) held.args_are;
              change = c.change;
            },
          )

      brought : (e : Entry Sym) → Brings look value e → NewIs v e
      brought e b = by e.change b
        where
          by : (o : Option (Sym × Sym)) → IsSomeAnd o (λ c. TermIs look value c.1) → IsSomeAnd o (λ c. c.1 ≡ v)
          by None h = h
          by (Some c) h = one_term value c.1 v plain.0 h held.value_is

      brings : (e : Entry Sym) → NewIs v e → Brings look value e
      brings e b = by e.change b
        where
          by : (o : Option (Sym × Sym)) → IsSomeAnd o (λ c. c.1 ≡ v) → IsSomeAnd o (λ c. TermIs look value c.1)
          by None h = h
          by (Some c) h = subst (TermIs look value) (sym h) held.value_is

      pub kept_holds : from <ℤ to → IsKept Turn (Brings look value) es from to → HoldsOver (settled_in at es) a v from to
      kept_holds some k t l m =
          let last = k.last in
          let e = last.0 in
          let there = of_dated (pos 0) (from +ℤ pos 1) es e last.1 in
          let early : pos e.date ≤ℤ from = after_one (pos e.date) from there.2 in
          let own = turned e there.0 last.2 (z_lt (pos e.date) from to early some) in
          let top : (d : Entry Sym) → IsIn d (settled_in at es) → IsChange a d → pos d.date ≤ℤ from → d.date ≤ e.date =
          λ d i c n. let r = turns d i c in
          subst (λ (x : ℕ). d.date ≤ x) (sym last.3)
          (in_from_each (λ d. Turn d → d.date ≤ k.date) (dated_in (pos 0) (from +ℤ pos 1) es) last.4 d (in_dated (pos 0) (from +ℤ pos 1) es d r.0 (not_under d.date) (before_one (pos d.date) from n)) r.1) in
          let new : (d : Entry Sym) → IsIn d (settled_in at es) → IsChange a d → e.date ≤ d.date → pos d.date <ℤ to → NewIs v d =
          λ d i c n u. let r = turns d i c in
          brought d (in_from_each (λ d. Turn d → Brings look value d) (dated_in (pos k.date) to es) k.brought d
          (in_dated (pos k.date) to es d r.0 (nat_z k.date d.date (subst (λ (x : ℕ). x ≤ d.date) last.3 n)) u) r.1) in
          let first : HasValue a (settled_in at es) from v = record {
            changed = (e, record { given = own.0; change = own.1; by_then = early; greatest = top });
            agreed = λ d n. new d n.given n.change (n.greatest e own.0 own.1 early) (z_lt (pos d.date) from to n.by_then some);
          } in
          value_carries sym_tells a (settled_in at es) v from t l first
          (λ d i c n u. new d i c (z_nat e.date d.date (z_trans (pos e.date) from (pos d.date) early (z_less from (pos d.date) n))) (z_lt (pos d.date) t to u m))

      pub holds_kept : from <ℤ to → HoldsOver (settled_in at es) a v from to → IsKept Turn (Brings look value) es from to
      holds_kept some holds =
          let first = holds from (same from) some in
          let e = first.changed.0 in
          let last = first.changed.1 in
          let own = turns e last.given last.change in
          record {
            date = e.date;
            last = (
              e,
              in_dated (pos 0) (from +ℤ pos 1) es e own.0 (not_under e.date) (before_one (pos e.date) from last.by_then),
              own.1,
              refl,
              each_from_in (λ d. Turn d → d.date ≤ e.date) (dated_in (pos 0) (from +ℤ pos 1) es) (λ d i t.
                  let there = of_dated (pos 0) (from +ℤ pos 1) es d i in
                  let early = after_one (pos d.date) from there.2 in
                  let s = turned d there.0 t (z_lt (pos d.date) from to early some) in
                  last.greatest d s.0 s.1 early),
            );
            brought = each_from_in (λ d. Turn d → Brings look value d) (dated_in (pos e.date) to es) (λ d i t.
                let there = of_dated (pos e.date) to es d i in
                let s = turned d there.0 t there.2 in
                brings d (by_lt_z from (pos d.date)
                (λ n. change_agrees a (settled_in at es) v d s.0 s.1 (holds (pos d.date) (z_less from (pos d.date) n) there.2))
                (λ n. first.agreed d (record {
                  given = s.0;
                  change = s.1;
                  by_then = n;
                  greatest = λ x j c u. let g = last.greatest x j c u in let f = z_nat e.date d.date there.1 in omega arith;
                }))));
          }
        where
          same : (t : ℤ) → t ≤ℤ t
          same t = omega (arith, ints)

    -- over a stretch that isn't empty
    pub all_kept : from <ℤ to → IsKept Turn (Brings look value) es from to → (a : Attribute Sym) (v : Sym) → IsHeld look name terms value a v → HoldsOver (settled_in at es) a v from to
    all_kept some k a v held = kept_holds a v held some k

    pub kept_all : from <ℤ to → AllByRecursion (TermIsBound look) terms × TermIsBound look value
        → ((a : Attribute Sym) (v : Sym) → IsHeld look name terms value a v → HoldsOver (settled_in at es) a v from to) → IsKept Turn (Brings look value) es from to
    kept_all some bound all =
        let args = are_some_terms terms plain.1 bound.0 in
        let v = is_some_term value plain.0 bound.1 in
        let held : IsHeld look name terms value (record { name = name; args = args.0 }) v.0 = record { name_is = refl; args_are = args.1; value_is = v.1 } in
        holds_kept (record { name = name; args = args.0 }) v.0 held some (all (record { name = name; args = args.0 }) v.0 held)

pub below_date : (t : ℤ) (n h : ℕ) → n ≡ nat_of t → n ≤ h → t ≤ℤ pos h
below_date (pos m) n h e l = let k : m ≤ h = omega arith in nat_z m h k
below_date (negsuc m) n h e l = omega (arith, ints)

pub above_date : (t : ℤ) (n h : ℕ) → n ≡ nat_of t → h < n → t ≤ℤ pos h → ⊥
above_date (pos m) n h e l k = let j = z_nat m h k in omega arith
above_date (negsuc m) n h e l k = omega arith

-- what stands at an anchor is one date
pub one_anchor : (o : Option (Entry Sym)) (x y offset : ℤ) → IsSomeAnd o (λ e. x ≡ pos e.date +ℤ offset) → IsSomeAnd o (λ e. y ≡ pos e.date +ℤ offset) → x ≡ y
one_anchor None x y offset h k = absurd h
one_anchor (Some e) x y offset h k = h ∙ sym k
