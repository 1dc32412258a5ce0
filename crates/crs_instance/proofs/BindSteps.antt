-- What binding one more event makes of an instance.
use Rattle.std.proofs.Common.{◌≡◌, ◌≢◌, ℕ, ◌<◌, ◌≤◌, List, length, inl, inr, ◌⊎◌, refl, sym, ap, subst, ◌∙◌, arith, length-set}
use Rattle.std.specs.Prelude.{ℤ, pos, ◌≤ℤ◌, Option, Some, None, option_map, IfSome, IsSomeAnd, slice_get}
use Rattle.std.proofs.lemmas.Bool.Decides.{eqb_tells}
use Rattle.crs_base.specs.declared.symbols.Sym.{Sym}
use Rattle.crs_stn.specs.Bound.{MeetsInPart, Agrees, Meets}
use Rattle.crs_stn.specs.Network.{IsPairwiseWithin}
use Rattle.crs_stn.specs.Table.{most_of}
use Rattle.crs_stn.specs.DateWindow.{given_also, IsLatest, IsSoonest, latest, after, soonest, greater_of, before}
use Rattle.crs_stn.specs.Cycle.{lesser}
use Rattle.crs_stn.proofs.Partial.{met_from_pairwise, pairwise_from_met}
use Rattle.crs_stn.proofs.Soonest.{IsSoonest-soonest, given_also_pairwise}
use Rattle.crs_stn.proofs.DateWindow.{IsLatest-latest}
use Rattle.crs_model.specs.declared.plan.Plan.{Plan}
use Rattle.crs_model.specs.declared.date_window.DateWindow.{DateWindow}
use Rattle.crs_base.specs.Entry.{Entry}
use Rattle.crs_model.specs.Models.{EventDef}
use Rattle.crs_model.specs.Matching.{Binding, IsAllowed, PatternIs}
use Rattle.crs_model.specs.Partial.{Partial, at, put, IsLeast, EqualsAll, GivesNoneTwice, dates_of}
use Rattle.crs_model.specs.Bindings.{look_of, Looser, IsLeastWith}
use Rattle.crs_model.specs.Plans.{chronicle, IsProper}
use Rattle.crs_model.proofs.Options.{of_some, some_if, and_some}
use Rattle.crs_model.proofs.Parts.{at_within, put_same, put_other, extends_put}
use Rattle.crs_model.proofs.Lost.{pattern_up}
use Rattle.crs_instance.specs.Instances.{InstanceState, IsOf, IsInside, CanBe, window_at}
use Rattle.crs_instance.specs.Narrowed.{IsNarrowed}
use Rattle.crs_instance.proofs.Narrow.{latest_more, soonest_more}
use Rattle.crs_instance.proofs.Windows.{latest_is_one, soonest_is_one}

given_within : (a : Partial Sym) (n p : ℕ) → length a ≤ n → IfSome (dates_of a p) (λ _. p < n)
given_within a n p l = by (at a p) (λ x i. let k = at_within a p x i in omega arith)
  where
    by : (o : Option (Entry Sym)) → ((x : Entry Sym) → o ≡ Some x → p < n) → IfSome (option_map (λ e. pos e.date) o) (λ _. p < n)
    by None h = tt
    by (Some x) h = h x refl

module _ (plan : Plan) (proper : IsProper plan) (i : InstanceState) (of : IsOf plan i) where
  abbrev pub points : ℕ
  points = plan.network.points

  abbrev pub most : ℕ → ℕ → Option ℤ
  most = most_of plan.network

  abbrev pub given : ℕ → Option ℤ
  given = dates_of i.partial

  pub below : (p : ℕ) → IfSome (given p) (λ _. p < points)
  below p = given_within i.partial points p (let a = of.len in let b = proper.points in omega arith)

  pub pairwise : IsPairwiseWithin most given
  pairwise = pairwise_from_met plan.chronicle.bounds points most given proper.within proper.consistent proper.minimal below of.dates

  pub most_is : (r : ℕ) → r < points → (window_at i.windows r).most ≡ latest points most given r
  most_is r l = latest_is_one plan.chronicle.bounds given r (window_at i.windows r).most (latest points most given r) (of.most r l) (IsLatest-latest plan.chronicle.bounds points most given proper.within proper.consistent proper.minimal below pairwise r l)

  pub least_is : (r : ℕ) → r < points → (window_at i.windows r).least ≡ soonest points most given r
  least_is r l = soonest_is_one plan.chronicle.bounds given r (window_at i.windows r).least (soonest points most given r) (of.least r l) (IsSoonest-soonest plan.chronicle.bounds points most given proper.within proper.consistent proper.minimal below pairwise r l)

  module _ (e : ℕ) (x : Entry Sym) (inside : e < length plan.chronicle.events) (free : at i.partial e ≡ None) where
    at_inside : e < length i.partial
    at_inside = let a = of.len in omega arith

    point_inside : e < points
    point_inside = let b = proper.points in omega arith

    date_free : given e ≡ None
    date_free = ap (option_map (λ y. pos y.date)) free

    dates_at : (p : ℕ) → dates_of (put i.partial e x) p ≡ given_also given e (pos x.date) p
    dates_at p = elim (eqb_tells p e) [
      | inl s ↦ rw s.0 (ap (option_map (λ y. pos y.date)) (subst (λ (q : ℕ). at (put i.partial e x) q ≡ Some x) (sym s.1) (put_same i.partial e x at_inside)))
      | inr o ↦ rw o.0 (ap (option_map (λ y. pos y.date)) (put_other i.partial e p x o.1))
    ]

    dates_put : dates_of (put i.partial e x) ≡ given_also given e (pos x.date)
    dates_put = λ k p. dates_at p k

    dates_from : MeetsInPart plan.chronicle.bounds (given_also given e (pos x.date)) → MeetsInPart plan.chronicle.bounds (dates_of (put i.partial e x))
    dates_from m = subst (λ (f : ℕ → Option ℤ). MeetsInPart plan.chronicle.bounds f) (sym dates_put) m

    given_also_below : (p : ℕ) → IfSome (given_also given e (pos x.date) p) (λ _. p < points)
    given_also_below p = subst (λ (o : Option ℤ). IfSome o (λ _. p < points)) (dates_at p) (given_within (put i.partial e x) points p (let a = of.len in let b = proper.points in let c = length-set i.partial e (Some x) in omega arith))

    can_be_dated : IsInside (window_at i.windows e) (pos x.date) → MeetsInPart plan.chronicle.bounds (dates_of (put i.partial e x))
    can_be_dated w = dates_from (met_from_pairwise plan.chronicle.bounds points most (given_also given e (pos x.date)) proper.within proper.consistent proper.minimal given_also_below
        (given_also_pairwise plan.chronicle.bounds points most given proper.within proper.consistent proper.minimal below pairwise e (pos x.date) point_inside
        (subst (λ (o : Option ℤ). IfSome o (λ v. pos x.date ≤ℤ v)) (most_is e point_inside) w.not_late)
        (subst (λ (o : Option ℤ). IfSome o (λ v. v ≤ℤ pos x.date)) (least_is e point_inside) w.not_soon)))

    put_extends : (f : ℕ) (y : Entry Sym) → at i.partial f ≡ Some y → at (put i.partial e x) f ≡ Some y
    put_extends f y h = extends_put i.partial e x free f y h

    old_agrees : (t : ℕ → ℤ) → Agrees (dates_of (put i.partial e x)) t → Agrees given t
    old_agrees t h p = by (at i.partial p) (at (put i.partial e x) p) (λ y j. put_extends p y j) (h p)
      where
        by : (o q : Option (Entry Sym)) → ((y : Entry Sym) → o ≡ Some y → q ≡ Some y) → IfSome (option_map (λ y. pos y.date) q) (λ d. t p ≡ d) → IfSome (option_map (λ y. pos y.date) o) (λ d. t p ≡ d)
        by None q m k = tt
        by (Some y) q m k = let s = m y refl in subst (λ (o : Option (Entry Sym)). IfSome (option_map (λ z. pos z.date) o) (λ d. t p ≡ d)) s k

    new_at : (t : ℕ → ℤ) → Agrees (dates_of (put i.partial e x)) t → t e ≡ pos x.date
    new_at t h = subst (λ (o : Option (Entry Sym)). IfSome (option_map (λ z. pos z.date) o) (λ d. t e ≡ d)) (put_same i.partial e x at_inside) (h e)

    late_option : (o : Option ℤ) (t : ℕ → ℤ) (d : ℤ) → IsLatest plan.chronicle.bounds given e o → Agrees given t → Meets plan.chronicle.bounds t → t e ≡ d → IfSome o (λ m. d ≤ℤ m)
    late_option None t d h a m s = tt
    late_option (Some v) t d h a m s = subst (λ (z : ℤ). z ≤ℤ v) s (h.0 t a m)

    soon_option : (o : Option ℤ) (t : ℕ → ℤ) (d : ℤ) → IsSoonest plan.chronicle.bounds given e o → Agrees given t → Meets plan.chronicle.bounds t → t e ≡ d → IfSome o (λ m. m ≤ℤ d)
    soon_option None t d h a m s = tt
    soon_option (Some v) t d h a m s = subst (λ (z : ℤ). v ≤ℤ z) s (h.0 t a m)

    pub must_be_inside : MeetsInPart plan.chronicle.bounds (dates_of (put i.partial e x)) → IsInside (window_at i.windows e) (pos x.date)
    must_be_inside m = record {
      not_late = late_option (window_at i.windows e).most m.0 (pos x.date) (of.most e point_inside) (old_agrees m.0 m.1) m.2 (new_at m.0 m.1);
      not_soon = soon_option (window_at i.windows e).least m.0 (pos x.date) (of.least e point_inside) (old_agrees m.0 m.1) m.2 (new_at m.0 m.1);
    }

    module _ (def : EventDef Sym) (is : slice_get (chronicle plan).events e ≡ Some def) where
      equal_put : (look : Binding Sym) → EqualsAll (chronicle plan) i.partial look → PatternIs look def.pattern x → EqualsAll (chronicle plan) (put i.partial e x) look
      equal_put look h k f = some_if (slice_get (chronicle plan).events f) _ (λ ev j. some_if (at (put i.partial e x) f) _ (λ y m. elim (eqb_tells f e) [
        | inl s ↦
            let a : at (put i.partial e x) e ≡ Some y = subst (λ (q : ℕ). at (put i.partial e x) q ≡ Some y) s.1 m in
            let b = put_same i.partial e x at_inside in
            let xy : x ≡ y = same_some x y (sym b ∙ a) in
            let c : slice_get (chronicle plan).events e ≡ Some ev = subst (λ (q : ℕ). slice_get (chronicle plan).events q ≡ Some ev) s.1 j in
            let de : def ≡ ev = same_def def ev (sym is ∙ c) in
            subst (λ (d : EventDef Sym). PatternIs look d.pattern y) de (subst (λ (z : Entry Sym). PatternIs look def.pattern z) xy k)
        | inr o ↦ of_some (at i.partial f) y _ (sym (put_other i.partial e f x o.1) ∙ m) (of_some (slice_get (chronicle plan).events f) ev _ j (h f))
      ]))
        where
          same_some : (x y : Entry Sym) → Some x ≡ Some y → x ≡ y
          same_some x y h = cc

          same_def : (x y : EventDef Sym) → Some x ≡ Some y → x ≡ y
          same_def x y h = cc

      equal_old : (look : Binding Sym) → EqualsAll (chronicle plan) (put i.partial e x) look → EqualsAll (chronicle plan) i.partial look
      equal_old look h f = some_if (slice_get (chronicle plan).events f) _ (λ ev j. some_if (at i.partial f) _ (λ y m. of_some (at (put i.partial e x) f) y _ (put_extends f y m) (of_some (slice_get (chronicle plan).events f) ev _ j (h f))))

      equal_new : (look : Binding Sym) → EqualsAll (chronicle plan) (put i.partial e x) look → PatternIs look def.pattern x
      equal_new look h = of_some (at (put i.partial e x) e) x _ (put_same i.partial e x at_inside) (of_some (slice_get (chronicle plan).events e) def _ is (h e))

      module _ (b : List (Option Sym)) (new : IsLeastWith (λ look. PatternIs look def.pattern x) (look_of i.binding) (look_of b)) where
        least_put : IsLeast (chronicle plan) (put i.partial e x) (look_of b)
        least_put = record {
          equal = equal_put (look_of b) (λ f. some_if (slice_get (chronicle plan).events f) _ (λ ev j. some_if (at i.partial f) _ (λ y m. pattern_up (look_of i.binding) (look_of b) new.more ev.pattern y (of_some (at i.partial f) y _ m (of_some (slice_get (chronicle plan).events f) ev _ j (of.binding.equal f)))))) new.holds;
          least = λ other h. new.least other (of.binding.least other (equal_old other h)) (equal_new other h);
        }

        pub bound_now : (ws : List DateWindow) → length b ≡ length i.binding → IsAllowed (chronicle plan) (look_of b) → ((f : ℕ) → IfSome (at i.partial f) (λ y. y.arrival ≢ x.arrival)) → IsInside (window_at i.windows e) (pos x.date) → IsNarrowed points most e (pos x.date) i.windows ws →
            IsOf plan (record { partial = put i.partial e x; binding = b; windows = ws; progress = i.progress })
        bound_now ws len allowed absent within narrowed = record {
          len = length-set i.partial e (Some x) ∙ of.len;
          distinct = twice absent;
          binding = least_put;
          allowed = allowed;
          symbols = len ∙ of.symbols;
          dates = can_be_dated within;
          window_count = narrowed.len;
          most = λ r l. subst (λ (o : Option ℤ). IsLatest plan.chronicle.bounds (dates_of (put i.partial e x)) r o) (sym (most_at r l)) (IsLatest-latest plan.chronicle.bounds points most (dates_of (put i.partial e x)) proper.within proper.consistent proper.minimal put_below put_pairwise r l);
          least = λ r l. subst (λ (o : Option ℤ). IsSoonest plan.chronicle.bounds (dates_of (put i.partial e x)) r o) (sym (least_at r l)) (IsSoonest-soonest plan.chronicle.bounds points most (dates_of (put i.partial e x)) proper.within proper.consistent proper.minimal put_below put_pairwise r l);
          followed = of.followed;
        }
          where
            most_at : (r : ℕ) → r < points → (window_at ws r).most ≡ latest points most (dates_of (put i.partial e x)) r
            most_at r l = narrowed.most_at r l ∙ ap (λ (t : Option ℤ). lesser t (after (Some (pos x.date)) (most e r))) (most_is r l) ∙ sym (ap (λ (f : ℕ → Option ℤ). latest points most f r) dates_put ∙ latest_more points most given e (pos x.date) date_free point_inside r)

            least_at : (r : ℕ) → r < points → (window_at ws r).least ≡ soonest points most (dates_of (put i.partial e x)) r
            least_at r l = narrowed.least_at r l ∙ ap (λ (t : Option ℤ). greater_of t (before (Some (pos x.date)) (most r e))) (least_is r l) ∙ sym (ap (λ (f : ℕ → Option ℤ). soonest points most f r) dates_put ∙ soonest_more points most given e (pos x.date) date_free point_inside r)

            put_below : (p : ℕ) → IfSome (dates_of (put i.partial e x) p) (λ _. p < points)
            put_below p = given_within (put i.partial e x) points p (let a = of.len in let b = proper.points in let c = length-set i.partial e (Some x) in omega arith)

            put_pairwise : IsPairwiseWithin most (dates_of (put i.partial e x))
            put_pairwise = pairwise_from_met plan.chronicle.bounds points most (dates_of (put i.partial e x)) proper.within proper.consistent proper.minimal put_below (can_be_dated within)

            one : (f : ℕ) (z : Entry Sym) → at (put i.partial e x) f ≡ Some z → ((f ≡ e) × (z ≡ x)) ⊎ (at i.partial f ≡ Some z)
            one f z h = elim (eqb_tells f e) [
              | inl s ↦ inl (s.1, same z (sym (subst (λ (q : ℕ). at (put i.partial e x) q ≡ Some z) s.1 h) ∙ put_same i.partial e x at_inside))
              | inr o ↦ inr (sym (put_other i.partial e f x o.1) ∙ h)
            ]
              where
                same : (z : Entry Sym) → Some z ≡ Some x → z ≡ x
                same z h = cc

            two : ((f : ℕ) → IfSome (at i.partial f) (λ y. y.arrival ≢ x.arrival)) → (f g : ℕ) (y z : Entry Sym) → f ≢ g → ((f ≡ e) × (y ≡ x)) ⊎ (at i.partial f ≡ Some y) → ((g ≡ e) × (z ≡ x)) ⊎ (at i.partial g ≡ Some z) → y.arrival ≢ z.arrival
            two absent f g y z n (inl s) (inl t) q = n (s.0 ∙ sym t.0)
            two absent f g y z n (inl s) (inr t) q = of_some (at i.partial g) z (λ w. w.arrival ≢ x.arrival) t (absent g) (sym q ∙ ap (λ (w : Entry Sym). w.arrival) s.1)
            two absent f g y z n (inr s) (inl t) q = of_some (at i.partial f) y (λ w. w.arrival ≢ x.arrival) s (absent f) (q ∙ ap (λ (w : Entry Sym). w.arrival) t.1)
            two absent f g y z n (inr s) (inr t) q = of_some (at i.partial g) z (λ w. y.arrival ≢ w.arrival) t (of_some (at i.partial f) y _ s (of.distinct f g n)) q

            twice : ((f : ℕ) → IfSome (at i.partial f) (λ y. y.arrival ≢ x.arrival)) → GivesNoneTwice (put i.partial e x)
            twice absent f g n = some_if (at (put i.partial e x) f) _ (λ y j. some_if (at (put i.partial e x) g) _ (λ z k. two absent f g y z n (one f y j) (one g z k)))

      pub not_matched : ((other : Binding Sym) → Looser (look_of i.binding) other → PatternIs other def.pattern x → IsAllowed (chronicle plan) other → ⊥) → CanBe plan (put i.partial e x) → ⊥
      not_matched never can = never can.look (of.binding.least can.look (equal_old can.look can.binding.equal)) (equal_new can.look can.binding.equal) can.allowed

    pub not_inside : (IsInside (window_at i.windows e) (pos x.date) → ⊥) → CanBe plan (put i.partial e x) → ⊥
    not_inside never can = never (must_be_inside can.dates)

    pub not_twice : (f : ℕ) → IsSomeAnd (at i.partial f) (λ y. y.arrival ≡ x.arrival) → CanBe plan (put i.partial e x) → ⊥
    not_twice f h can =
        let s = and_some (at i.partial f) _ h in
        of_some (at (put i.partial e x) f) s.0 (λ w. w.arrival ≢ x.arrival) (put_extends f s.0 s.1)
        (some_if (at (put i.partial e x) f) _ (λ y j. of_some (at (put i.partial e x) e) x (λ w. y.arrival ≢ w.arrival) (put_same i.partial e x at_inside) (of_some (at (put i.partial e x) f) y _ j (can.distinct f e (apart s.0 s.1))))) s.2
      where
        apart : (y : Entry Sym) → at i.partial f ≡ Some y → f ≢ e
        apart y j q = let k : at i.partial e ≡ Some y = subst (λ (z : ℕ). at i.partial z ≡ Some y) q j in absurd (cc)
