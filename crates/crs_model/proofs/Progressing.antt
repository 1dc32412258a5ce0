-- The progress of a window over one more entry, at a later date, with more bound, and what it tells.
use Rattle.std.proofs.Common.{◌≡◌, ℕ, zero, suc, ◌≤◌, ◌<◌, Bool, true, false, List, [], ◌∷◌, ◌++◌, refl, sym, ap, subst, ◌∙◌, inl, inr, ◌⊎◌, arith}
use Rattle.std.specs.Prelude.{ℤ, pos, ◌≤ℤ◌, ◌<ℤ◌, Option, Some, None, IfSome, IsSomeAnd}
use Rattle.std.proofs.lemmas.Int.{ints, by_lt_z}
use Rattle.std.proofs.lemmas.List.{append-nil}
use Rattle.crs_base.specs.Words.{IsIn}
use Rattle.crs_base.proofs.Words.{in_append, in_append_right}
use Rattle.crs_base.specs.Entry.{Entry}
use Rattle.crs_base.specs.Values.{Attribute, IsChange, NewIs, HasValue}
use Rattle.crs_base.proofs.Values.{value_forth}
use Rattle.crs_base.proofs.Deciding.{Either, Tells, value_carries}
use Rattle.std.specs.List.{AllZip}
use Rattle.crs_model.specs.Models.{Term, Value, Var, Any, Pattern, Body, NoEvent, Occurs, Hold}
use Rattle.crs_model.specs.Matching.{Binding, TermIs, ChangeIs, PatternIs}
use Rattle.crs_model.specs.Verdicts.{Count, IsDatedIn, IsCount, IsSo, IsSpoilt, BodyIsBound}
use Rattle.crs_model.specs.HasProgress.{IsEnough, IsDecisive, IsReached, IsCounted, IsBroken, IsWholeFor, IsUnbroken, IsProgress, IsInRange, IsAbove, IsMetBy, IsLostBy, Hits, Breaks, Spares, StartsWell, StartsIll}
use Rattle.crs_model.proofs.Least.{Looser}
use Rattle.crs_model.proofs.Lost.{count_unique, spoilt_grows, spoilt_not_so, spoilt_up, count_up, held_down}

-- ---- counts of one more

pub count_hit : {A : Type 0} (P : A → Type 0) (xs : List A) (x : A) (n : ℕ) → Count P xs n → P x → Count P (xs ++ x ∷ []) (suc n)
count_hit P [] x n h p = inl (p, n, refl, h)
count_hit P (y ∷ xs) x n (inl h) p = inl (h.0, suc h.1, ap suc h.2, count_hit P xs x h.1 h.3 p)
count_hit P (y ∷ xs) x n (inr h) p = inr (h.0, count_hit P xs x n h.1 p)

pub count_miss : {A : Type 0} (P : A → Type 0) (xs : List A) (x : A) (n : ℕ) → Count P xs n → (P x → ⊥) → Count P (xs ++ x ∷ []) n
count_miss P [] x n h p = inr (p, h)
count_miss P (y ∷ xs) x n (inl h) p = inl (h.0, h.1, h.2, count_miss P xs x h.1 h.3 p)
count_miss P (y ∷ xs) x n (inr h) p = inr (h.0, count_miss P xs x n h.1 p)

module _ {S : Type 0} (look : Binding S) (from to : ℤ) where
  -- ---- settle: one more entry, dated at or after h

  above_more : (most : Option ℕ) (n k : ℕ) → n ≤ k → IsSomeAnd most (λ m. m < n) → IsSomeAnd most (λ m. m < k)
  above_more None n k l a = a
  above_more (Some m) n k l a = omega arith

  -- a greater count decides too
  decisive_more : (body : Body S) (n k : ℕ) → n ≤ k → IsDecisive body n → IsDecisive body k
  decisive_more (NoEvent p) n k l (inl e) = absurd e
  decisive_more (NoEvent p) n k l (inr a) = inr (omega arith)
  decisive_more (Occurs least most p) n k l (inl e) = inl (e.0, let f = e.1 in omega arith)
  decisive_more (Occurs least most p) n k l (inr a) = inr (above_more most n k l a)
  decisive_more (Hold name terms value) n k l (inl e) = absurd e
  decisive_more (Hold name terms value) n k l (inr a) = absurd a

  reached_hit : (p : Pattern S) (entries : List (Entry S)) (x : Entry S) (n : ℕ) → IsReached entries look p from to n → IsDatedIn from to x × PatternIs look p x → IsReached (entries ++ x ∷ []) look p from to (suc n)
  reached_hit p entries x n r hit = (suc r.0, count_hit _ entries x r.0 r.1 hit, let l = r.2 in omega arith)

  reached_miss : (p : Pattern S) (entries : List (Entry S)) (x : Entry S) (n : ℕ) → IsReached entries look p from to n → (IsDatedIn from to x × PatternIs look p x → ⊥) → IsReached (entries ++ x ∷ []) look p from to n
  reached_miss p entries x n r hit = (r.0, count_miss _ entries x r.0 r.1 hit, r.2)

  pub counted_hit : (body : Body S) (entries : List (Entry S)) (x : Entry S) (n : ℕ) → IsCounted entries look body from to n → Hits look body from to x → IsCounted (entries ++ x ∷ []) look body from to (suc n)
  counted_hit (NoEvent p) entries x n (inl h) hit = inl (count_hit _ entries x n h hit)
  counted_hit (NoEvent p) entries x n (inr e) hit = inr (decisive_more (NoEvent p) n (suc n) (omega arith) e.0, reached_hit p entries x n e.1 hit)
  counted_hit (Occurs least most p) entries x n (inl h) hit = inl (count_hit _ entries x n h hit)
  counted_hit (Occurs least most p) entries x n (inr e) hit = inr (decisive_more (Occurs least most p) n (suc n) (omega arith) e.0, reached_hit p entries x n e.1 hit)
  counted_hit (Hold name terms value) entries x n h hit = absurd hit

  pub counted_miss : (body : Body S) (entries : List (Entry S)) (x : Entry S) (n : ℕ) → IsCounted entries look body from to n → (Hits look body from to x → ⊥) → IsCounted (entries ++ x ∷ []) look body from to n
  counted_miss (NoEvent p) entries x n (inl h) hit = inl (count_miss _ entries x n h hit)
  counted_miss (NoEvent p) entries x n (inr e) hit = inr (e.0, reached_miss p entries x n e.1 hit)
  counted_miss (Occurs least most p) entries x n (inl h) hit = inl (count_miss _ entries x n h hit)
  counted_miss (Occurs least most p) entries x n (inr e) hit = inr (e.0, reached_miss p entries x n e.1 hit)
  counted_miss (Hold name terms value) entries x n h hit = h

  module _ (entries : List (Entry S)) (x : Entry S) (h : ℕ) (late : h ≤ x.date) where
    late_more : (e : Entry S) → IsIn e (x ∷ []) → h ≤ e.date
    late_more e (inl s) = subst (λ (t : Entry S). h ≤ t.date) (sym s) late
    late_more e (inr none) = absurd none

    after : (t : ℤ) (d n : ℕ) → n ≤ d → t <ℤ pos n → t <ℤ pos d
    after t d n l k = omega (arith, ints)

    -- broken stays broken
    pub broken_stays : (body : Body S) → IsBroken entries look body from to (pos h) → IsBroken (entries ++ x ∷ []) look body from to (pos h)
    broken_stays (NoEvent p) b = b
    broken_stays (Occurs least most p) b = b
    broken_stays (Hold name terms value) b = spoilt_grows entries (x ∷ []) h h (omega arith) late_more look (Hold name terms value) from to b

    -- x breaks it
    pub broken_by : (body : Body S) → Breaks look body from to x → IsBroken (entries ++ x ∷ []) look body from to (pos h)
    broken_by (NoEvent p) b = b
    broken_by (Occurs least most p) b = b
    broken_by (Hold name terms value) b = (b.0, b.1, b.2, inr (x, in_append_right entries (x ∷ []) x (inl refl), b.3, b.4, b.5))

    -- x doesn't break it
    pub unbroken_by : (body : Body S) → IsUnbroken entries look body from to (pos h) → Spares look body from to x → IsUnbroken (entries ++ x ∷ []) look body from to (pos h)
    unbroken_by (NoEvent p) u s = u
    unbroken_by (Occurs least most p) u s = u
    unbroken_by (Hold name terms value) u s = λ a v is.
        let w = u a v is in
        record {
          values = λ t l m k. value_forth a entries (x ∷ []) t (λ e i. after t e.date h (late_more e i) k) v (w.values t l m k);
          changes = λ e i c d. elim (in_append entries (x ∷ []) e i) [
            | inl j ↦ w.changes e j c d
            | inr j ↦ (elim j [ inl q ↦ subst (NewIs v) (sym q) (s a v is (subst (IsChange a) q c) (subst (IsDatedIn from to) q d)) | inr none ↦ absurd none ])
          ];
        }

    -- The progress over one more entry: the count gains one where x hits, and it is broken where it was or x breaks it.
    pub settle_progress : (body : Body S) (count new_count : ℕ) (broken new_broken : Bool) → IsProgress entries look body from to (pos h) count broken
        → ((Hits look body from to x × (new_count ≡ suc count)) ⊎ ((Hits look body from to x → ⊥) × (new_count ≡ count)))
        → (((broken ≡ true) ⊎ Breaks look body from to x) × (new_broken ≡ true)) ⊎ ((broken ≡ false) × Spares look body from to x × (new_broken ≡ false))
        → IsProgress (entries ++ x ∷ []) look body from to (pos h) new_count new_broken
    settle_progress body count new_count broken new_broken p counts breaks = record {
      counted = elim counts [
        | inl s ↦ subst (λ (n : ℕ). IsCounted (entries ++ x ∷ []) look body from to n) (sym s.1) (counted_hit body entries x count p.counted s.0)
        | inr s ↦ subst (λ (n : ℕ). IsCounted (entries ++ x ∷ []) look body from to n) (sym s.1) (counted_miss body entries x count p.counted s.0)
      ];
      is_broken = λ b. elim breaks [
        | inl s ↦ (elim s.0 [ inl t ↦ broken_stays body (p.is_broken t) | inr t ↦ broken_by body t ])
        | inr s ↦ (let q = s.2 in absurd (cc))
      ];
      is_whole = λ b. elim breaks [
        | inl s ↦ (let q = s.1 in absurd (cc))
        | inr s ↦ unbroken_by body (p.is_whole s.0) s.1
      ];
    }

  -- ---- a count that is enough: one more entry changes nothing

  module _ (tells : Tells S) where
    term_tells : (t : Term S) (y : S) → Either (TermIs look t y)
    term_tells (Value z) y = tells z y
    term_tells (Var v) y = by (look v)
      where
        by : (o : Option S) → Either (o ≡ Some y)
        by None = inr (λ e. cc)
        by (Some z) = elim (tells z y) [ inl e ↦ inl (ap Some e) | inr n ↦ inr (λ e. let f : z ≡ y = cc in n f) ]
    term_tells Any y = inl tt

    terms_tell : (ts : List (Term S)) (ys : List S) → Either (AllZip (TermIs look) ts ys)
    terms_tell [] [] = inl tt
    terms_tell [] (y ∷ ys) = inr (λ z. z)
    terms_tell (t ∷ ts) [] = inr (λ z. z)
    terms_tell (t ∷ ts) (y ∷ ys) = elim (term_tells t y) [
      | inr n ↦ inr (λ z. n z.0)
      | inl h ↦ elim (terms_tell ts ys) [ inl k ↦ inl (h, k) | inr n ↦ inr (λ z. n z.1) ]
    ]

    change_tells : (o : Option (Term S × Term S)) (c : Option (S × S)) → Either (ChangeIs look o c)
    change_tells None None = inl tt
    change_tells None (Some c) = inr (λ h. h)
    change_tells (Some t) None = inr (λ h. h)
    change_tells (Some t) (Some c) = elim (term_tells t.0 c.0) [
      | inr n ↦ inr (λ h. n h.0)
      | inl h ↦ elim (term_tells t.1 c.1) [ inl k ↦ inl (h, k) | inr n ↦ inr (λ z. n z.1) ]
    ]

    pub pattern_tells : (p : Pattern S) (x : Entry S) → Either (PatternIs look p x)
    pattern_tells p x = elim (tells p.name x.name) [
      | inr n ↦ inr (λ h. n h.name)
      | inl a ↦ elim (terms_tell p.terms x.args) [
        | inr n ↦ inr (λ h. n h.terms)
        | inl b ↦ elim (change_tells p.change x.change) [ inl c ↦ inl (record { name = a; terms = b; change = c }) | inr n ↦ inr (λ h. n h.change) ]
      ]
    ]

    dated_tells : (x : Entry S) → Either (IsDatedIn from to x)
    dated_tells x = by_lt_z (pos x.date) from (λ l. inr (λ d. let a = d.0 in omega (arith, ints)))
        (λ l. by_lt_z (pos x.date) to (λ m. inl (l, m)) (λ m. inr (λ d. let a = d.1 in omega (arith, ints))))

    hit_tells : (p : Pattern S) (x : Entry S) → Either (IsDatedIn from to x × PatternIs look p x)
    hit_tells p x = elim (dated_tells x) [
      | inr n ↦ inr (λ h. n h.0)
      | inl d ↦ elim (pattern_tells p x) [ inl h ↦ inl (d, h) | inr n ↦ inr (λ z. n z.1) ]
    ]

    reached_more : (p : Pattern S) (entries : List (Entry S)) (x : Entry S) (n c : ℕ) → IsCount entries look p from to c → n ≤ c → IsReached (entries ++ x ∷ []) look p from to n
    reached_more p entries x n c k l = elim (hit_tells p x) [
      | inl h ↦ (suc c, count_hit _ entries x c k h, omega arith)
      | inr m ↦ (c, count_miss _ entries x c k m, l)
    ]

    pub enough_stays : (body : Body S) (entries : List (Entry S)) (x : Entry S) (h : ℤ) (count : ℕ) (broken : Bool) → IsEnough body count → IsProgress entries look body from to h count broken → IsProgress (entries ++ x ∷ []) look body from to h count broken
    enough_stays (NoEvent p) entries x h count broken e k = absurd e
    enough_stays (Hold name terms value) entries x h count broken e k = absurd e
    enough_stays (Occurs least most p) entries x h count broken e k = record {
      counted = inr (inl e, elim k.counted [ inl c ↦ reached_more p entries x count count c (omega arith) | inr c ↦ reached_more p entries x count c.1.0 c.1.1 c.1.2 ]);
      is_broken = k.is_broken;
      is_whole = k.is_whole;
    }

  -- ---- pass: a later date, over the same entries

  module _ (tells : Tells S) (entries : List (Entry S)) (since h : ℕ) (later : since ≤ h) where
    up : (t : ℤ) → t <ℤ pos since → t <ℤ pos h
    up t l = omega (arith, ints)

    pub broken_passes : (body : Body S) → IsBroken entries look body from to (pos since) → IsBroken entries look body from to (pos h)
    broken_passes (NoEvent p) b = b
    broken_passes (Occurs least most p) b = b
    broken_passes (Hold name terms value) (a, v, is, inl u) = (a, v, is, inl (u.0, u.1, u.2, up u.0 u.3, u.4))
    broken_passes (Hold name terms value) (a, v, is, inr c) = (a, v, is, inr c)

    -- the value at the first date of the stretch is the wanted one: it stays, since each change in the stretch brings it
    carried : (a : Attribute S) (v : S) → IsWholeFor entries a v from to (pos since) → HasValue a entries from v → IsWholeFor entries a v from to (pos h)
    carried a v w first = record {
      values = λ t l m k. value_carries tells a entries v from t l first (λ e i c n o. w.changes e i c (at_least from (pos e.date) n, below t (pos e.date) o m));
      changes = w.changes;
    }
      where
        at_least : (s d : ℤ) → s <ℤ d → s ≤ℤ d
        at_least s d l = omega (arith, ints)

        below : (t d : ℤ) → d ≤ℤ t → t <ℤ to → d <ℤ to
        below t d l m = omega (arith, ints)

    -- where the stretch began before `since` and has a date before it, nothing changes
    pub unbroken_since : (body : Body S) → from <ℤ pos since → from <ℤ to → IsUnbroken entries look body from to (pos since) → IsUnbroken entries look body from to (pos h)
    unbroken_since (NoEvent p) l m u = u
    unbroken_since (Occurs least most p) l m u = u
    unbroken_since (Hold name terms value) l m u = λ a v is. carried a v (u a v is) ((u a v is).values from (same from) m l)
      where
        same : (z : ℤ) → z ≤ℤ z
        same z = omega (arith, ints)

    -- where no date of the stretch is before h, nothing changes
    pub unbroken_before : (body : Body S) → (to ≤ℤ from) ⊎ (pos h ≤ℤ from) → IsUnbroken entries look body from to (pos since) → IsUnbroken entries look body from to (pos h)
    unbroken_before (NoEvent p) l u = u
    unbroken_before (Occurs least most p) l u = u
    unbroken_before (Hold name terms value) l u = λ a v is. record { values = λ t m n k. absurd (none l t m n k); changes = (u a v is).changes }
      where
        none : (to ≤ℤ from) ⊎ (pos h ≤ℤ from) → (t : ℤ) → from ≤ℤ t → t <ℤ to → t <ℤ pos h → ⊥
        none (inl l) t m n k = omega (arith, ints)
        none (inr l) t m n k = omega (arith, ints)

    -- where the first date is passed, its value decides
    pub unbroken_first : (body : Body S) → StartsWell entries look body from → IsUnbroken entries look body from to (pos since) → IsUnbroken entries look body from to (pos h)
    unbroken_first (NoEvent p) s u = u
    unbroken_first (Occurs least most p) s u = u
    unbroken_first (Hold name terms value) s u = λ a v is. carried a v (u a v is) (s a v is)

    pub broken_first : (body : Body S) → from <ℤ to → from <ℤ pos h → StartsIll entries look body from → IsBroken entries look body from to (pos h)
    broken_first (NoEvent p) l m s = s
    broken_first (Occurs least most p) l m s = s
    broken_first (Hold name terms value) l m s = (s.0, s.1, s.2, inl (from, same from, l, m, s.3))
      where
        same : (z : ℤ) → z ≤ℤ z
        same z = omega (arith, ints)

    -- The progress at a later date: the count stays; it is broken where it was, or where the stretch begins between the two dates and not with the wanted value.
    pub pass_progress : (body : Body S) (count : ℕ) (broken new_broken : Bool) → IsProgress entries look body from to (pos since) count broken
        → ((new_broken ≡ broken) × (((from <ℤ pos since) × (from <ℤ to)) ⊎ ((to ≤ℤ from) ⊎ (pos h ≤ℤ from)) ⊎ StartsWell entries look body from))
        ⊎ ((new_broken ≡ true) × ((broken ≡ true) ⊎ ((from <ℤ to) × (from <ℤ pos h) × StartsIll entries look body from)))
        → IsProgress entries look body from to (pos h) count new_broken
    pass_progress body count broken new_broken p how = record {
      counted = p.counted;
      is_broken = λ b. elim how [
        | inl s ↦ broken_passes body (p.is_broken (sym s.0 ∙ b))
        | inr s ↦ (elim s.1 [ inl t ↦ broken_passes body (p.is_broken t) | inr t ↦ broken_first body t.0 t.1 t.2 ])
      ];
      is_whole = λ b. elim how [
        | inl s ↦ by_case s.1 (p.is_whole (sym s.0 ∙ b))
        | inr s ↦ (let q = s.0 in absurd (cc))
      ];
    }
      where
        by_case : ((from <ℤ pos since) × (from <ℤ to)) ⊎ ((to ≤ℤ from) ⊎ (pos h ≤ℤ from)) ⊎ StartsWell entries look body from → IsUnbroken entries look body from to (pos since) → IsUnbroken entries look body from to (pos h)
        by_case (inl s) u = unbroken_since body s.0 s.1 u
        by_case (inr (inl s)) u = unbroken_before body s u
        by_case (inr (inr s)) u = unbroken_first body s u

  -- ---- judge: what the progress tells

  module _ (entries : List (Entry S)) (h : ℕ) where
    in_time : (t : ℤ) → to ≤ℤ pos h → t <ℤ to → t <ℤ pos h
    in_time t l m = omega (arith, ints)

    -- no count is too great without an upper bound
    none_most : (most : Option ℕ) (n : ℕ) → most ≡ None → IfSome most (λ m. n ≤ m)
    none_most None n e = tt
    none_most (Some m) n e = absurd cc

    none_above : (most : Option ℕ) (P : ℕ → Type 0) → most ≡ None → IsSomeAnd most P → ⊥
    none_above None P e s = s
    none_above (Some m) P e s = cc

    -- what is above isn't in the range, nor is more
    above_range : (most : Option ℕ) (n k : ℕ) → n ≤ k → IsSomeAnd most (λ m. m < n) → IfSome most (λ m. k ≤ m) → ⊥
    above_range None n k l a r = a
    above_range (Some m) n k l a r = omega arith

    pub so_by : (body : Body S) (count : ℕ) (broken : Bool) → IsProgress entries look body from to (pos h) count broken → IsMetBy body to (pos h) count broken → IsSo entries look body from to
    so_by (NoEvent p) count broken k (l, r, b) = elim k.counted [
      | inl c ↦ subst (λ (n : ℕ). IsCount entries look p from to n) r c
      | inr e ↦ elim e.0 [ inl z ↦ absurd z | inr a ↦ (let z : count ≡ 0 = r in absurd (omega arith)) ]
    ]
    so_by (Occurs least most p) count broken k (l, r, b) = elim k.counted [
      | inl c ↦ (count, c, r.0, r.1)
      | inr e ↦ elim e.0 [
        | inl f ↦ (e.1.0, e.1.1, (let m = r.0 in let n = e.1.2 in omega arith), none_most most e.1.0 f.0)
        | inr a ↦ absurd (above_range most count count (omega arith) a r.1)
      ]
    ]
    so_by (Hold name terms value) count broken k (l, r, b) = λ a v is t m n. (k.is_whole b a v is).values t m n (in_time t l n)

    in_range : (body : Body S) (count : ℕ) → IsCounted entries look body from to count → IsSo entries look body from to → IsInRange body count
    in_range (NoEvent p) count (inl k) so = count_unique _ entries count 0 k so
    in_range (NoEvent p) count (inr e) so = let q = count_unique _ entries e.1.0 0 e.1.1 so in let l = e.1.2 in omega arith
    in_range (Occurs least most p) count (inr e) so = elim e.0 [
      | inl f ↦ (f.1, none_most most count f.0)
      | inr a ↦ absurd (above_range most count so.0 (let q = count_unique _ entries e.1.0 so.0 e.1.1 so.1 in let l = e.1.2 in omega arith) a so.3)
    ]
    in_range (Occurs least most p) count (inl k) so = let q = count_unique _ entries so.0 count so.1 k in (subst (λ (n : ℕ). least ≤ n) q so.2, subst (λ (n : ℕ). IfSome most (λ m. n ≤ m)) q so.3)
    in_range (Hold name terms value) count k so = tt

    broken_not_so : (body : Body S) → IsBroken entries look body from to (pos h) → IsSo entries look body from to → ⊥
    broken_not_so (NoEvent p) b so = b
    broken_not_so (Occurs least most p) b so = b
    broken_not_so (Hold name terms value) b so =
        spoilt_not_so entries [] h h (omega arith) (λ e i. absurd i) look (Hold name terms value) from to b
        (subst (λ (t : List (Entry S)). IsSo t look (Hold name terms value) from to) (sym (append-nil entries)) so)

    above_of : (most : Option ℕ) (P : ℕ → Type 0) (count : ℕ) → ((n : ℕ) → P n → count ≤ n) → IsSomeAnd most (λ m. m < count) → IsSomeAnd most (λ m. (n : ℕ) → P n → m < n)
    above_of None P count f l = l
    above_of (Some m) P count f l = λ n p. let q = f n p in omega arith

    below_of : (most : Option ℕ) (P : ℕ → Type 0) (count : ℕ) → P count → IsSomeAnd most (λ m. (n : ℕ) → P n → m < n) → IsSomeAnd most (λ m. m < count)
    below_of None P count p l = l
    below_of (Some m) P count p l = l count p

    above_spoilt : (body : Body S) (count : ℕ) → IsCounted entries look body from to count → IsAbove body count → IsSpoilt entries look body from to (pos h)
    above_spoilt (NoEvent p) count (inl k) l = λ so. let q = count_unique _ entries count 0 k so in omega arith
    above_spoilt (NoEvent p) count (inr e) l = λ so. let q = count_unique _ entries e.1.0 0 e.1.1 so in let r = e.1.2 in omega arith
    above_spoilt (Occurs least most p) count (inr e) l = above_of most (λ n. IsCount entries look p from to n) count (λ n q. let u = count_unique _ entries n e.1.0 q e.1.1 in let r = e.1.2 in omega arith) l
    above_spoilt (Occurs least most p) count (inl k) l = above_of most (λ n. IsCount entries look p from to n) count (λ n q. let u = count_unique _ entries n count q k in omega arith) l
    above_spoilt (Hold name terms value) count k l = absurd l

    broken_spoilt : (body : Body S) → IsBroken entries look body from to (pos h) → IsSpoilt entries look body from to (pos h)
    broken_spoilt (NoEvent p) b = absurd b
    broken_spoilt (Occurs least most p) b = absurd b
    broken_spoilt (Hold name terms value) b = b

    -- lost as the progress tells it: lost
    pub lost_by : (body : Body S) (count : ℕ) (broken : Bool) → IsProgress entries look body from to (pos h) count broken → IsLostBy body to (pos h) count broken
        → ((to ≤ℤ pos h) × (IsSo entries look body from to → ⊥)) ⊎ ((pos h <ℤ to) × IsSpoilt entries look body from to (pos h))
    lost_by body count broken p (inl s) = inl (s.0, λ so. s.1 (in_range body count p.counted so))
    lost_by body count broken p (inr (inl s)) = inr (s.0, above_spoilt body count p.counted s.1)
    lost_by body count broken p (inr (inr s)) = by_lt_z (pos h) to
        (λ l. inr (l, broken_spoilt body (p.is_broken s)))
        (λ l. inl (l, λ so. broken_not_so body (p.is_broken s) so))

    -- not broken, and in the range or not settled and not above it: not lost
    spoilt_back : (body : Body S) (count : ℕ) → IsCounted entries look body from to count → IsUnbroken entries look body from to (pos h) → IsSpoilt entries look body from to (pos h) → IsAbove body count
    spoilt_back (NoEvent p) count (inr e) u s = elim e.0 [ inl z ↦ absurd z | inr a ↦ a ]
    spoilt_back (NoEvent p) count (inl k) u s = by count k
      where
        by : (n : ℕ) → IsCount entries look p from to n → 0 < n
        by zero q = absurd (s q)
        by (suc n) q = omega arith
    spoilt_back (Occurs least most p) count (inr e) u s = elim e.0 [ inl f ↦ absurd (none_above most (λ m. (n : ℕ) → IsCount entries look p from to n → m < n) f.0 s) | inr a ↦ a ]
    spoilt_back (Occurs least most p) count (inl k) u s = below_of most (λ n. IsCount entries look p from to n) count k s
    spoilt_back (Hold name terms value) count k u (a, v, is, inl w) = w.4 ((u a v is).values w.0 w.1 w.2 w.3)
    spoilt_back (Hold name terms value) count k u (a, v, is, inr w) = w.4 ((u a v is).changes w.0 w.1 w.2 w.3)

    bool_of : (b : Bool) → (b ≡ true) ⊎ (b ≡ false)
    bool_of true = inl refl
    bool_of false = inr refl

    pub lost_back : (body : Body S) (count : ℕ) (broken : Bool) → IsProgress entries look body from to (pos h) count broken
        → ((to ≤ℤ pos h) × (IsSo entries look body from to → ⊥)) ⊎ ((pos h <ℤ to) × IsSpoilt entries look body from to (pos h)) → IsLostBy body to (pos h) count broken
    lost_back body count broken p (inl s) = elim (bool_of broken) [
      | inl b ↦ inr (inr b)
      | inr b ↦ inl (s.0, λ r. s.1 (so_by body count broken p (s.0, r, b)))
    ]
    lost_back body count broken p (inr s) = elim (bool_of broken) [
      | inl b ↦ inr (inr b)
      | inr b ↦ inr (inl (s.0, spoilt_back body count p.counted (p.is_whole b) s.1))
    ]

    -- what is met as the progress tells it, and back
    pub met_back : (body : Body S) (count : ℕ) (broken : Bool) → IsProgress entries look body from to (pos h) count broken → to ≤ℤ pos h → IsSo entries look body from to → IsMetBy body to (pos h) count broken
    met_back body count broken p l so = (l, in_range body count p.counted so, elim (bool_of broken) [ inl b ↦ absurd (broken_not_so body (p.is_broken b) so) | inr b ↦ b ])

-- ---- more bound

module _ {S : Type 0} (small look : Binding S) (looser : Looser small look) (entries : List (Entry S)) (from to : ℤ) where
  counted_up : (body : Body S) (n : ℕ) → BodyIsBound small body → IsCounted entries small body from to n → IsCounted entries look body from to n
  counted_up (NoEvent p) n b (inl k) = inl (count_up small look looser entries from to p n b k)
  counted_up (NoEvent p) n b (inr e) = inr (e.0, (e.1.0, count_up small look looser entries from to p e.1.0 b e.1.1, e.1.2))
  counted_up (Occurs least most p) n b (inl k) = inl (count_up small look looser entries from to p n b k)
  counted_up (Occurs least most p) n b (inr e) = inr (e.0, (e.1.0, count_up small look looser entries from to p e.1.0 b e.1.1, e.1.2))
  counted_up (Hold name terms value) n b k = k

  broken_up : (body : Body S) (h : ℤ) → BodyIsBound small body → IsBroken entries small body from to h → IsBroken entries look body from to h
  broken_up (NoEvent p) h b k = k
  broken_up (Occurs least most p) h b k = k
  broken_up (Hold name terms value) h b k = spoilt_up small look looser entries from to (Hold name terms value) h b k

  unbroken_up : (body : Body S) (h : ℤ) → BodyIsBound small body → IsUnbroken entries small body from to h → IsUnbroken entries look body from to h
  unbroken_up (NoEvent p) h b k = k
  unbroken_up (Occurs least most p) h b k = k
  unbroken_up (Hold name terms value) h b k = λ a v is. k a v (held_down small look looser entries from to name terms value a v b.0 b.1 is)

  -- a begun window keeps its progress as more is bound
  pub progress_up : (body : Body S) (h : ℤ) (count : ℕ) (broken : Bool) → BodyIsBound small body → IsProgress entries small body from to h count broken → IsProgress entries look body from to h count broken
  progress_up body h count broken b p = record {
    counted = counted_up body count b p.counted;
    is_broken = λ q. broken_up body h b (p.is_broken q);
    is_whole = λ q. unbroken_up body h b (p.is_whole q);
  }
