-- Entries that say the same under other arrival numbers, and what is recognised of them.
use Rattle.std.proofs.Common.{◌≡◌, ◌≢◌, inl, inr, ℕ, zero, suc, ◌≤◌, ℤ, pos, ◌≤ℤ◌, ◌<ℤ◌, ◌+ℤ◌, List, [], ◌∷◌, map, refl, sym, ap, subst}
use Rattle.std.proofs.Common.{◌∙◌}
use Rattle.std.specs.Prelude.{Option, Some, IsSome, IsSomeAnd, slice_get}
use Rattle.std.specs.List.{AllZip, AllByRecursion}
use Rattle.std.specs.Cmp.Lexicographic.{slice_cmp}
use Rattle.std.specs.Ordering.{ordering_then}
use Rattle.crs_base.specs.Words.{IsIn}
use Rattle.crs_base.specs.Entry.{Entry, entry_cmp}
use Rattle.crs_base.specs.Values.{Attribute, IsChange, NewIs, IsLastChange, HasValue}
use Rattle.crs_stn.specs.Bound.{MeetsInPart}
use Rattle.crs_model.specs.Models.{Pattern, EventDef, Body, NoEvent, Occurs, Hold, Window, Chronicle}
use Rattle.crs_model.specs.Matching.{Binding, PatternIs, Assignment, ChangeIs, TermIs, AreDistinct}
use Rattle.crs_model.specs.Partial.{at, dates_of}
use Rattle.crs_model.specs.Open.{IsRecognised}
use Rattle.crs_model.specs.Verdicts.{Count, IsDatedIn, IsCount, IsSo, IsMet}

module _ {S : Type 0} where
  -- all but the arrival number is the same
  pub record Same (x y : Entry S) : Type 0 where
    pub date : x.date ≡ y.date
    pub name : x.name ≡ y.name
    pub args : x.args ≡ y.args
    pub change : x.change ≡ y.change

  -- T pairs entries that say the same, and keeps their order
  pub record Twins (T : Entry S → Entry S → Type 0) : Type 0 where
    pub same : (x y : Entry S) → T x y → Same x y
    pub keeps : (x y a b : Entry S) → T x y → T a b → entry_cmp x a ≡ entry_cmp y b
    pub on : (x y a b : Entry S) → T x y → T a b → x.arrival ≢ a.arrival → y.arrival ≢ b.arrival
    pub back : (x y a b : Entry S) → T x y → T a b → y.arrival ≢ b.arrival → x.arrival ≢ a.arrival
    pub one : (x y z : Entry S) → T x y → T x z → y ≡ z
    pub one_back : (x y z : Entry S) → T x z → T y z → x ≡ y

  -- the other way round
  abbrev pub flip : (Entry S → Entry S → Type 0) → Entry S → Entry S → Type 0
  flip T x y = T y x

  pub turned : (T : Entry S → Entry S → Type 0) → Twins T → Twins (flip T)
  turned T t = record {
    same = λ x y p. let s = t.same y x p in record { date = sym s.date; name = sym s.name; args = sym s.args; change = sym s.change };
    keeps = λ x y a b p q. sym (t.keeps y x b a p q);
    on = λ x y a b p q. t.back y x b a p q;
    back = λ x y a b p q. t.on y x b a p q;
    one = λ x y z p q. t.one_back y z x p q;
    one_back = λ x y z p q. t.one z x y p q;
  }

  pub zip_turned : (T : Entry S → Entry S → Type 0) (xs ys : List (Entry S)) → AllZip T xs ys → AllZip (flip T) ys xs
  zip_turned T [] [] z = tt
  zip_turned T [] (y ∷ ys) z = absurd z
  zip_turned T (x ∷ xs) [] z = absurd z
  zip_turned T (x ∷ xs) (y ∷ ys) z = (z.0, zip_turned T xs ys z.1)

  module _ (T : Entry S → Entry S → Type 0) (twins : Twins T) where
    pub partner : (xs ys : List (Entry S)) → AllZip T xs ys → (x : Entry S) → IsIn x xs → (y : Entry S) × IsIn y ys × T x y
    partner [] ys z x i = absurd i
    partner (a ∷ xs) [] z x i = absurd z
    partner (a ∷ xs) (b ∷ ys) z x (inl e) = (b, inl refl, subst (λ (w : Entry S). T w b) (sym e) z.0)
    partner (a ∷ xs) (b ∷ ys) z x (inr i) = let r = partner xs ys z.1 x i in (r.0, inr r.1, r.2)

    pub partner_in : (xs ys : List (Entry S)) → AllZip T xs ys → (x y : Entry S) → IsIn x xs → T x y → IsIn y ys
    partner_in xs ys z x y i p = let r = partner xs ys z x i in subst (λ (w : Entry S). IsIn w ys) (twins.one x r.0 y r.2 p) r.1

    rows_in : (xs ys ds es : List (Entry S)) → AllZip T xs ys → AllZip T ds es → AllByRecursion (λ e. IsIn e xs) ds
        → AllByRecursion (λ e. IsIn e ys) es
    rows_in xs ys [] [] z p k = tt
    rows_in xs ys [] (b ∷ es) z p k = absurd p
    rows_in xs ys (a ∷ ds) [] z p k = absurd p
    rows_in xs ys (a ∷ ds) (b ∷ es) z p k = (partner_in xs ys z a b k.0 p.0, rows_in xs ys ds es z p.1 k.1)

    -- the rows that are twins of these
    pub row_of : (xs ys ds : List (Entry S)) → AllZip T xs ys → AllByRecursion (λ e. IsIn e xs) ds
        → (es : List (Entry S)) × AllZip T ds es
    row_of xs ys [] z k = ([], tt)
    row_of xs ys (a ∷ ds) z k =
        let first = partner xs ys z a k.0 in
        let rest = row_of xs ys ds z k.1 in
        (first.0 ∷ rest.0, (first.2, rest.1))

    pub one_row : (ds es gs : List (Entry S)) → AllZip T ds es → AllZip T ds gs → es ≡ gs
    one_row [] [] [] p q = refl
    one_row [] [] (c ∷ gs) p q = absurd q
    one_row [] (b ∷ es) gs p q = absurd p
    one_row (a ∷ ds) [] gs p q = absurd p
    one_row (a ∷ ds) (b ∷ es) [] p q = absurd q
    one_row (a ∷ ds) (b ∷ es) (c ∷ gs) p q =
        let e : b ≡ c = twins.one a b c p.0 q.0 in
        let r : es ≡ gs = one_row ds es gs p.1 q.1 in
        λ i. e i ∷ r i

    pub rows_cmp : (xs ys ds es : List (Entry S)) → AllZip T xs ys → AllZip T ds es
        → slice_cmp entry_cmp xs ds ≡ slice_cmp entry_cmp ys es
    rows_cmp [] [] [] [] z p = refl
    rows_cmp [] [] [] (b ∷ es) z p = absurd p
    rows_cmp [] [] (a ∷ ds) [] z p = absurd p
    rows_cmp [] [] (a ∷ ds) (b ∷ es) z p = refl
    rows_cmp [] (y ∷ ys) ds es z p = absurd z
    rows_cmp (x ∷ xs) [] ds es z p = absurd z
    rows_cmp (x ∷ xs) (y ∷ ys) [] [] z p = refl
    rows_cmp (x ∷ xs) (y ∷ ys) [] (b ∷ es) z p = absurd p
    rows_cmp (x ∷ xs) (y ∷ ys) (a ∷ ds) [] z p = absurd p
    rows_cmp (x ∷ xs) (y ∷ ys) (a ∷ ds) (b ∷ es) z p = λ i. ordering_then (twins.keeps x y a b z.0 p.0 i) (rows_cmp xs ys ds es z.1 p.1 i)

    apart_from : (x y : Entry S) (ds es : List (Entry S)) → T x y → AllZip T ds es → AllByRecursion (λ e. x.arrival ≢ e.arrival) ds
        → AllByRecursion (λ e. y.arrival ≢ e.arrival) es
    apart_from x y [] [] t p k = tt
    apart_from x y [] (b ∷ es) t p k = absurd p
    apart_from x y (a ∷ ds) [] t p k = absurd p
    apart_from x y (a ∷ ds) (b ∷ es) t p k = (twins.on x y a b t p.0 k.0, apart_from x y ds es t p.1 k.1)

    distinct_on : (ds es : List (Entry S)) → AllZip T ds es → AreDistinct ds → AreDistinct es
    distinct_on [] [] p k = tt
    distinct_on [] (b ∷ es) p k = absurd p
    distinct_on (a ∷ ds) [] p k = absurd p
    distinct_on (a ∷ ds) (b ∷ es) p k = (apart_from a b ds es p.0 p.1 k.0, distinct_on ds es p.1 k.1)

    pattern_on : (look : Binding S) (p : Pattern S) (x y : Entry S) → T x y → PatternIs look p x → PatternIs look p y
    pattern_on look p x y t k =
        let s = twins.same x y t in
        record {
          name = k.name ∙ s.name;
          terms = subst (AllZip (TermIs look) p.terms) s.args k.terms;
          change = subst (ChangeIs look p.change) s.change k.change;
        }

    pattern_back : (look : Binding S) (p : Pattern S) (x y : Entry S) → T x y → PatternIs look p y → PatternIs look p x
    pattern_back look p x y t k =
        let s = twins.same x y t in
        record {
          name = k.name ∙ sym s.name;
          terms = subst (AllZip (TermIs look) p.terms) (sym s.args) k.terms;
          change = subst (ChangeIs look p.change) (sym s.change) k.change;
        }

    patterns_on : (look : Binding S) (vs : List (EventDef S)) (ds es : List (Entry S)) → AllZip T ds es
        → AllZip (λ v e. PatternIs look v.pattern e) vs ds → AllZip (λ v e. PatternIs look v.pattern e) vs es
    patterns_on look [] [] [] p k = tt
    patterns_on look [] [] (b ∷ es) p k = absurd p
    patterns_on look [] (a ∷ ds) es p k = absurd k
    patterns_on look (v ∷ vs) [] es p k = absurd k
    patterns_on look (v ∷ vs) (a ∷ ds) [] p k = absurd p
    patterns_on look (v ∷ vs) (a ∷ ds) (b ∷ es) p k = (pattern_on look v.pattern a b p.0 k.0, patterns_on look vs ds es p.1 k.1)

    date_at : (ds es : List (Entry S)) → AllZip T ds es → (p : ℕ) → dates_of (map Some ds) p ≡ dates_of (map Some es) p
    date_at [] [] z p = refl
    date_at [] (b ∷ es) z p = absurd z
    date_at (a ∷ ds) [] z p = absurd z
    date_at (a ∷ ds) (b ∷ es) z zero = ap (λ n. Some (pos n)) (twins.same a b z.0).date
    date_at (a ∷ ds) (b ∷ es) z (suc p) = date_at ds es z.1 p

    all_dates : (ds es : List (Entry S)) → AllZip T ds es → dates_of (map Some ds) ≡ dates_of (map Some es)
    all_dates ds es z = λ i p. date_at ds es z p i

    anchored : (ds es : List (Entry S)) → AllZip T ds es → (e : ℕ) (from offset : ℤ)
        → IsSomeAnd (at (map Some ds) e) (λ x. from ≡ pos x.date +ℤ offset)
        → IsSomeAnd (at (map Some es) e) (λ x. from ≡ pos x.date +ℤ offset)
    anchored [] [] z e from offset h = h
    anchored [] (b ∷ es) z e from offset h = absurd z
    anchored (a ∷ ds) [] z e from offset h = absurd z
    anchored (a ∷ ds) (b ∷ es) z zero from offset h = h ∙ ap (λ n. pos n +ℤ offset) (twins.same a b z.0).date
    anchored (a ∷ ds) (b ∷ es) z (suc e) from offset h = anchored ds es z.1 e from offset h

    count_on : (P Q : Entry S → Type 0) → ((x y : Entry S) → T x y → P x → Q y) → ((x y : Entry S) → T x y → Q y → P x)
        → (xs ys : List (Entry S)) (n : ℕ) → AllZip T xs ys → Count P xs n → Count Q ys n
    count_on P Q to from [] [] n z k = k
    count_on P Q to from [] (y ∷ ys) n z k = absurd z
    count_on P Q to from (x ∷ xs) [] n z k = absurd z
    count_on P Q to from (x ∷ xs) (y ∷ ys) n z (inl k) = inl (to x y z.0 k.0, k.1, k.2, count_on P Q to from xs ys k.1 z.1 k.3)
    count_on P Q to from (x ∷ xs) (y ∷ ys) n z (inr k) = inr (λ q. k.0 (from x y z.0 q), count_on P Q to from xs ys n z.1 k.1)

    dated_on : (from to : ℤ) (x y : Entry S) → T x y → IsDatedIn from to x → IsDatedIn from to y
    dated_on from to x y t h = subst (λ (n : ℕ). (from ≤ℤ pos n) × (pos n <ℤ to)) (twins.same x y t).date h

    dated_back : (from to : ℤ) (x y : Entry S) → T x y → IsDatedIn from to y → IsDatedIn from to x
    dated_back from to x y t h = subst (λ (n : ℕ). (from ≤ℤ pos n) × (pos n <ℤ to)) (sym (twins.same x y t).date) h

    is_count_on : (xs ys : List (Entry S)) → AllZip T xs ys → (look : Binding S) (p : Pattern S) (from to : ℤ) (n : ℕ)
        → IsCount xs look p from to n → IsCount ys look p from to n
    is_count_on xs ys z look p from to n k =
        count_on (λ e. IsDatedIn from to e × PatternIs look p e) (λ e. IsDatedIn from to e × PatternIs look p e)
        (λ x y t h. (dated_on from to x y t h.0, pattern_on look p x y t h.1))
        (λ x y t h. (dated_back from to x y t h.0, pattern_back look p x y t h.1)) xs ys n z k

    change_on : (a : Attribute S) (x y : Entry S) → T x y → IsChange a x → IsChange a y
    change_on a x y t c =
        let s = twins.same x y t in
        record { named = sym s.name ∙ c.named; of = sym s.args ∙ c.of; change = subst IsSome s.change c.change }

    change_back : (a : Attribute S) (x y : Entry S) → T x y → IsChange a y → IsChange a x
    change_back a x y t c =
        let s = twins.same x y t in
        record { named = s.name ∙ c.named; of = s.args ∙ c.of; change = subst IsSome (sym s.change) c.change }

    module _ (xs ys : List (Entry S)) (z : AllZip T xs ys) where
      other : (y : Entry S) → IsIn y ys → (x : Entry S) × IsIn x xs × T x y
      other y i = by xs ys z i
        where
          by : (ds es : List (Entry S)) → AllZip T ds es → IsIn y es → (x : Entry S) × IsIn x ds × T x y
          by [] [] z i = absurd i
          by [] (b ∷ es) z i = absurd z
          by (a ∷ ds) [] z i = absurd z
          by (a ∷ ds) (b ∷ es) z (inl e) = (a, inl refl, subst (λ (w : Entry S). T a w) (sym e) z.0)
          by (a ∷ ds) (b ∷ es) z (inr i) = let r = by ds es z.1 i in (r.0, inr r.1, r.2)

      last_on : (a : Attribute S) (t : ℤ) (x y : Entry S) → T x y → IsLastChange a xs t x → IsLastChange a ys t y
      last_on a t x y p l =
          let s = twins.same x y p in
          record {
            given = partner_in xs ys z x y l.given p;
            change = change_on a x y p l.change;
            by_then = subst (λ (n : ℕ). pos n ≤ℤ t) s.date l.by_then;
            greatest = λ d i c b.
                let m = other d i in
                let same = twins.same m.0 d m.2 in
                let less : m.0.date ≤ x.date =
                l.greatest m.0 m.1 (change_back a m.0 d m.2 c) (subst (λ (n : ℕ). pos n ≤ℤ t) (sym same.date) b) in
                subst (λ (n : ℕ). d.date ≤ n) s.date (subst (λ (n : ℕ). n ≤ x.date) same.date less);
          }

      last_back : (a : Attribute S) (t : ℤ) (x y : Entry S) → T x y → IsIn x xs → IsLastChange a ys t y → IsLastChange a xs t x
      last_back a t x y p i l =
          let s = twins.same x y p in
          record {
            given = i;
            change = change_back a x y p l.change;
            by_then = subst (λ (n : ℕ). pos n ≤ℤ t) (sym s.date) l.by_then;
            greatest = λ d j c b.
                let m = partner xs ys z d j in
                let same = twins.same d m.0 m.2 in
                let less : m.0.date ≤ y.date = l.greatest m.0 m.1 (change_on a d m.0 m.2 c) (subst (λ (n : ℕ). pos n ≤ℤ t) same.date b) in
                subst (λ (n : ℕ). d.date ≤ n) (sym s.date) (subst (λ (n : ℕ). n ≤ y.date) (sym same.date) less);
          }

      value_on : (a : Attribute S) (t : ℤ) (v : S) → HasValue a xs t v → HasValue a ys t v
      value_on a t v h = record {
        changed = let m = partner xs ys z h.changed.0 h.changed.1.given in (m.0, last_on a t h.changed.0 m.0 m.2 h.changed.1);
        agreed = λ d l.
            let m = other d l.given in
            let brings : NewIs v m.0 = h.agreed m.0 (last_back a t m.0 d m.2 m.1 l) in
            subst (λ (c : Option (S × S)). IsSomeAnd c (λ c. c.1 ≡ v)) (twins.same m.0 d m.2).change brings;
      }

      so_on : (look : Binding S) (b : Body S) (from to : ℤ) → IsSo xs look b from to → IsSo ys look b from to
      so_on look (NoEvent p) from to h = is_count_on xs ys z look p from to 0 h
      so_on look (Occurs least most p) from to h = (h.0, is_count_on xs ys z look p from to h.0 h.1, h.2, h.3)
      so_on look (Hold name terms value) from to h = λ a v held t l m. value_on a t v (h a v held t l m)

      met_on : (look : Binding S) (ds es : List (Entry S)) → AllZip T ds es → (h : ℕ) (w : Window S) → IsMet look (map Some ds) xs h w
          → IsMet look (map Some es) ys h w
      met_on look ds es p h w m = record {
        from = m.from;
        to = m.to;
        stretch = record {
          starts = anchored ds es p w.from.event m.from w.from.offset m.stretch.starts;
          ends = anchored ds es p w.to.event m.to w.to.offset m.stretch.ends;
        };
        bound = m.bound;
        settled = m.settled;
        so = so_on look w.body m.from m.to m.so;
      }

      -- what is recognised of entries is recognised of their twins
      pub recognised_on : (pool other : List (Entry S)) → AllZip T pool other → (c : Chronicle S) (h : ℕ) (a b : Assignment S) → AllZip T a.entries b.entries → a.values ≡ b.values
          → IsRecognised c pool xs h a → IsRecognised c other ys h b
      recognised_on pool other y c h a b p e r =
          subst (λ (vs : List S). IsRecognised c other ys h (record { entries = b.entries; values = vs })) e (record {
            assignment = record {
              given = rows_in pool other a.entries b.entries y p r.assignment.given;
              distinct = distinct_on a.entries b.entries p r.assignment.distinct;
              bound = r.assignment.bound;
              equal = patterns_on (slice_get a.values) c.events a.entries b.entries p r.assignment.equal;
              allowed = r.assignment.allowed;
            };
            bounds = subst (λ (d : ℕ → Option ℤ). MeetsInPart c.bounds d) (all_dates a.entries b.entries p) r.bounds;
            windows = λ w i. met_on (slice_get a.values) a.entries b.entries p h w (r.windows w i);
          })
