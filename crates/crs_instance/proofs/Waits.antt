-- Whether the other events of an event's level can still come where the event has a date.
use Rattle.std.proofs.Common.{◌≡◌, ℕ, ◌<◌, List, length, inl, inr, sym, ap, subst, ◌∙◌, arith}
use Rattle.std.specs.Prelude.{ℤ, pos, ◌+ℤ◌, ◌≤ℤ◌, Option, Some, None, IfSome, option_map, is_some}
use Rattle.std.proofs.lemmas.Int.{ints, clamps}
use Rattle.std.proofs.lemmas.Bool.Decides.{eqb_tells}
use Rattle.crs_base.specs.declared.symbols.Sym.{Sym}
use Rattle.crs_base.specs.Entry.{Entry}
use Rattle.crs_stn.specs.declared.bound.Bound.{Bound}
use Rattle.crs_stn.specs.Bound.{Meets, Agrees}
use Rattle.crs_stn.specs.Cycle.{lesser}
use Rattle.crs_stn.specs.Network.{IsMost, IsPairwiseWithin}
use Rattle.crs_stn.specs.Table.{most_of}
use Rattle.crs_stn.specs.DateWindow.{IsLatest, CanBeFrom, given_also, latest, after}
use Rattle.crs_stn.proofs.DateWindow.{IsLatest-latest}
use Rattle.crs_stn.proofs.Soonest.{given_also_pairwise}
use Rattle.crs_model.specs.declared.plan.Plan.{Plan}
use Rattle.crs_model.specs.declared.date_window.DateWindow.{DateWindow}
use Rattle.crs_model.specs.Partial.{Partial, at, put, dates_of, IsAwaited, CanGoOn}
use Rattle.crs_model.specs.Plans.{chronicle, IsProper}
use Rattle.crs_model.proofs.Parts.{agrees_part, agrees_at, extends_put, put_same}
use Rattle.crs_instance.specs.Instances.{InstanceState, IsOf, IsInside, window_at}
use Rattle.crs_instance.specs.Narrowed.{most_with, IsFrom}
use Rattle.crs_model.specs.Bits.{HasBits}
use Rattle.crs_instance.specs.Waits.{IsOther, IsOtherUnset, OthersCanCome, AnotherIsLate}
use Rattle.crs_instance.proofs.BindSteps.{most_is, least_is, below, pairwise}
use Rattle.crs_instance.proofs.Narrow.{latest_more}
use Rattle.crs_instance.proofs.Masks.{set_is_some}
use Rattle.crs_instance.proofs.Deadline.{is_unbound}

lesser_from : (a b : Option ℤ) (h : ℕ) (v : ℤ) → pos h ≤ℤ v → IfSome a (λ m. v ≤ℤ m) → IfSome b (λ m. v ≤ℤ m) → IsFrom (lesser a b) h
lesser_from None None h v l p q = tt
lesser_from None (Some y) h v l p q = omega (arith, ints)
lesser_from (Some x) None h v l p q = omega (arith, ints)
lesser_from (Some x) (Some y) h v l p q = omega (arith, ints, clamps)

after_above : (bound : Option ℤ) (bounds : List Bound) (e g d : ℕ) (t : ℕ → ℤ) → IsMost bounds e g bound → Meets bounds t → t e ≡ pos d → IfSome (after (Some (pos d)) bound) (λ m. t g ≤ℤ m)
after_above None bounds e g d t is m s = tt
after_above (Some b) bounds e g d t is m s = subst (λ (z : ℤ). t g ≤ℤ (z +ℤ b)) s (is.0 t m)

latest_above : (o : Option ℤ) (bounds : List Bound) (given : ℕ → Option ℤ) (g : ℕ) (t : ℕ → ℤ) → IsLatest bounds given g o → Agrees given t → Meets bounds t → IfSome o (λ m. t g ≤ℤ m)
latest_above None bounds given g t is a m = tt
latest_above (Some v) bounds given g t is a m = is.0 t a m

can_be_late : (o : Option ℤ) (bounds : List Bound) (given : ℕ → Option ℤ) (g h : ℕ) → IsLatest bounds given g o → IsFrom o h → CanBeFrom bounds given g (pos h)
can_be_late None bounds given g h late l = late (pos h)
can_be_late (Some m) bounds given g h late l = (late.1, late.2, late.3, let e = late.4 in omega (arith, ints))

module _ (plan : Plan) (proper : IsProper plan) (i : InstanceState) (of : IsOf plan i) (level : ℕ → ℕ) (e d h : ℕ) (inside : e < length plan.chronicle.events) (free : at i.partial e ≡ None) where
  point : (g : ℕ) → g < length i.partial → g < plan.network.points
  point g l = let a = of.len in let b = proper.points in omega arith

  event_point : e < plan.network.points
  event_point = let b = proper.points in omega arith

  within : e < length i.partial
  within = let a = of.len in omega arith

  pub another_is_late : ((g : ℕ) × IsOther level i.partial e g × (IsFrom (most_with (window_at i.windows g) (most_of plan.network e g) d) h → ⊥)) → AnotherIsLate plan level i.partial e d h
  another_is_late w = (w.0, w.1, λ x b date part awaited k. w.2 (by x b date part awaited k))
    where
      by : (x : Entry Sym) (b : Partial Sym) → x.date ≡ d → ((f : ℕ) (y : Entry Sym) → at (put i.partial e x) f ≡ Some y → at b f ≡ Some y) → IsAwaited level b w.0 → CanGoOn (chronicle plan) level b h
          → IsFrom (most_with (window_at i.windows w.0) (most_of plan.network e w.0) d) h
      by x b date part awaited k =
          let l = point w.0 (w.1).within in
          let agrees = agrees_part i.partial b k.0 (λ f y m. part f y (extends_put i.partial e x free f y m)) k.1 in
          let dated : k.0 e ≡ pos d = agrees_at b k.0 e x k.1 (part e x (put_same i.partial e x within)) ∙ ap pos date in lesser_from (window_at i.windows w.0).most (after (Some (pos d)) (most_of plan.network e w.0)) h (k.0 w.0) (k.3 w.0 awaited)
          (latest_above (window_at i.windows w.0).most plan.chronicle.bounds (dates_of i.partial) w.0 k.0 (of.most w.0 l) agrees k.2)
          (after_above (most_of plan.network e w.0) plan.chronicle.bounds e w.0 d k.0 (proper.minimal e w.0 event_point l) k.2 dated)

  also_below : (p : ℕ) → IfSome (given_also (dates_of i.partial) e (pos d) p) (λ _. p < plan.network.points)
  also_below p = elim (eqb_tells p e) [ inl s ↦ rw s.0 (let q = s.1 in let l = event_point in omega arith) | inr o ↦ rw o.0 (below plan proper i of p) ]

  pub others_can_come : ((g : ℕ) → IsOther level i.partial e g → IsFrom (most_with (window_at i.windows g) (most_of plan.network e g) d) h) → IsInside (window_at i.windows e) (pos d) → OthersCanCome plan level i.partial e d h
  others_can_come each w g other =
      let n = plan.network.points in
      let most = most_of plan.network in
      let given = dates_of i.partial in
      let l = point g other.within in
      let dateless : given e ≡ None = ap (λ (o : Option (Entry Sym)). option_map (λ y. pos y.date) o) free in
      let is : most_with (window_at i.windows g) (most e g) d ≡ latest n most (given_also given e (pos d)) g =
      ap (λ (o : Option ℤ). lesser o (after (Some (pos d)) (most e g))) (most_is plan proper i of g l) ∙ sym (latest_more n most given e (pos d) dateless event_point g) in
      let pairs : IsPairwiseWithin most (given_also given e (pos d)) =
      given_also_pairwise plan.chronicle.bounds n most given proper.within proper.consistent proper.minimal (below plan proper i of) (pairwise plan proper i of) e (pos d) event_point
      (subst (λ (o : Option ℤ). IfSome o (λ v. pos d ≤ℤ v)) (most_is plan proper i of e event_point) w.not_late)
      (subst (λ (o : Option ℤ). IfSome o (λ v. v ≤ℤ pos d)) (least_is plan proper i of e event_point) w.not_soon) in can_be_late (latest n most (given_also given e (pos d)) g) plan.chronicle.bounds (given_also given e (pos d)) g h
      (IsLatest-latest plan.chronicle.bounds n most (given_also given e (pos d)) proper.within proper.consistent proper.minimal also_below pairs g l)
      (subst (λ (o : Option ℤ). IsFrom o h) is (each g other))

  -- the same, where bits tell which events are bound
  module _ (bound count : ℕ) (bits : HasBits i.partial bound) (len : length i.partial ≡ count) (ws : List DateWindow) (sw : ws ≡ i.windows) where
    unset : (g : ℕ) → IsOther level i.partial e g → IsOtherUnset level count bound e g
    unset g o = record { apart = o.apart; within = (let w = o.within in omega arith); unset = set_is_some i.partial bound g bits ∙ ap (λ (o : Option (Entry Sym)). is_some o) o.unbound; same_level = o.same_level }

    unbound : (g : ℕ) → IsOtherUnset level count bound e g → IsOther level i.partial e g
    unbound g o = record { apart = o.apart; within = (let w = o.within in omega arith); unbound = is_unbound (at i.partial g) (sym (set_is_some i.partial bound g bits) ∙ o.unset); same_level = o.same_level }

    abbrev AreFrom : ℕ → List DateWindow → Type 0
    AreFrom g ws = IsFrom (most_with (window_at ws g) (most_of plan.network e g) d) h

    pub wait_yes : ((g : ℕ) → IsOtherUnset level count bound e g → AreFrom g ws) → IsInside (window_at i.windows e) (pos d) → OthersCanCome plan level i.partial e d h
    wait_yes each = others_can_come (λ g o. subst (λ (vs : List DateWindow). AreFrom g vs) sw (each g (unset g o)))

    pub wait_no : ((g : ℕ) × IsOtherUnset level count bound e g × (AreFrom g ws → ⊥)) → AnotherIsLate plan level i.partial e d h
    wait_no late = another_is_late (late.0, unbound late.0 late.1, subst (λ (vs : List DateWindow). AreFrom late.0 vs → ⊥) sw late.2)
