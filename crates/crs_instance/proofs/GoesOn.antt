-- The deadline tells whether dates can go on.
use Rattle.std.proofs.Common.{◌≡◌, ℕ, ◌<◌, ◌≤◌, false, eqb, length, refl, ap, subst, inl, inr, arith}
use Rattle.std.specs.Prelude.{ℤ, pos, ◌≤ℤ◌, Option, Some, None, IfSome, Bool, true, IsTrue, ◌↔◌}
use Rattle.std.proofs.lemmas.Int.{ints}
use Rattle.std.proofs.lemmas.Bool.Decides.{eqb_tells}
use Rattle.crs_base.specs.declared.symbols.Sym.{Sym}
use Rattle.crs_stn.specs.Bound.{Meets, Agrees}
use Rattle.crs_stn.specs.DateWindow.{IsLatest, CanBeFrom, after}
use Rattle.crs_stn.proofs.DateWindow.{joint_demand}
use Rattle.crs_model.specs.declared.plan.Plan.{Plan}
use Rattle.crs_base.specs.Entry.{Entry}
use Rattle.crs_model.specs.Partial.{at, dates_of, IsAwaited, CanGoOn}
use Rattle.crs_model.specs.Plans.{chronicle, IsProper}
use Rattle.crs_model.specs.Steps.{flat}
use Rattle.crs_model.proofs.Options.{none_if}
use Rattle.crs_instance.specs.Instances.{InstanceState, IsOf, IsDeadline, window_at}
use Rattle.crs_instance.specs.CurrentLevel.{IsCurrentLevel}
use Rattle.std.specs.Prelude.{option_map}
use Rattle.crs_stn.specs.Table.{most_of}
use Rattle.crs_stn.proofs.DateWindow.{IsLatest-latest}
use Rattle.crs_instance.proofs.BindAnswers.{least_none}

-- unbound, and of the level
asked : Option (Entry Sym) → ℕ → ℕ → Bool
asked None l n = eqb l n
asked (Some x) l n = false

asked_is : (o : Option (Entry Sym)) (l n : ℕ) → asked o l n ≡ true → (o ≡ None) × (l ≡ n)
unfolding asked
asked_is None l n t = (refl, elim (eqb_tells l n) [ inl s ↦ s.1 | inr o ↦ (let q = o.0 in absurd (cc)) ])
asked_is (Some x) l n t = absurd cc

is_asked : (o : Option (Entry Sym)) (l n : ℕ) → o ≡ None → l ≡ n → asked o l n ≡ true
unfolding asked
is_asked None l n e s = elim (eqb_tells l n) [ inl t ↦ t.0 | inr o ↦ absurd (o.1 s) ]
is_asked (Some x) l n e s = absurd cc

module _ (plan : Plan) (proper : IsProper plan) (i : InstanceState) (of : IsOf plan i) (level : ℕ → ℕ) (h : ℕ) where
  point : (r : ℕ) → r < length i.partial → r < plan.network.points
  point r l = let a = of.len in let b = proper.points in omega arith

  by_window : (o : Option ℤ) (r : ℕ) → IsLatest plan.chronicle.bounds (dates_of i.partial) r o → IfSome o (λ v. pos h ≤ℤ v)
      → CanBeFrom plan.chronicle.bounds (dates_of i.partial) r (pos h)
  by_window None r late l = late (pos h)
  by_window (Some m) r late l = (late.1, late.2, late.3, let e = late.4 in omega (arith, ints))

  none_above : (o : Option ℤ) → o ≡ None → IfSome o (λ v. pos h ≤ℤ v)
  none_above None e = tt
  none_above (Some v) e = absurd cc

  some_above : (o : Option ℤ) (d : ℤ) → pos h ≤ℤ d → IfSome o (λ m. d ≤ℤ m) → IfSome o (λ v. pos h ≤ℤ v)
  some_above None d l k = tt
  some_above (Some m) d l k = omega (arith, ints)

  -- each unbound event of the level can be that late
  all_above : (n : ℕ) (d : Option ℤ) → IsDeadline level n i d → IfSome d (λ v. pos h ≤ℤ v)
      → (r : ℕ) → r < length i.partial → at i.partial r ≡ None → level r ≡ n → IfSome (window_at i.windows r).most (λ v. pos h ≤ℤ v)
  all_above n None is l r k free same = none_above (window_at i.windows r).most (is r k free same)
  all_above n (Some d) is l r k free same = some_above (window_at i.windows r).most d l (is.0 r k free same)

  at_most : (o : Option ℤ) (v : ℤ) (r : ℕ) (t : ℕ → ℤ) → IsLatest plan.chronicle.bounds (dates_of i.partial) r o → o ≡ Some v
      → Agrees (dates_of i.partial) t → Meets plan.chronicle.bounds t → t r ≤ℤ v
  at_most None v r t late e a m = absurd cc
  at_most (Some u) v r t late e a m = let s : u ≡ v = cc in subst (λ (z : ℤ). t r ≤ℤ z) s (late.0 t a m)

  -- the awaited events are of level n, and no unbound event is of a lower one
  module _ (n : ℕ) (same : (f : ℕ) → IsAwaited level i.partial f → level f ≡ n)
      (lowest : (e : ℕ) → e < length i.partial → at i.partial e ≡ None → n ≤ level e) where
    goes_on : (d : Option ℤ) → IsDeadline level n i d → IfSome d (λ v. pos h ≤ℤ v) → CanGoOn (chronicle plan) level i.partial h
    goes_on d is l =
        let joint = joint_demand plan.chronicle.bounds (length i.partial) (dates_of i.partial) (λ r. asked (at i.partial r) (level r) n) (pos h) of.dates
        (λ r k t.
        let a = asked_is (at i.partial r) (level r) n t in by_window (window_at i.windows r).most r (of.most r (point r k)) (all_above n d is l r k a.0 a.1)) in
        (joint.0, joint.1, joint.2, λ f w. joint.3 f w.within (is_asked (at i.partial f) (level f) n w.unbound (same f w)))

    goes_on_back : (d : Option ℤ) → IsDeadline level n i d → CanGoOn (chronicle plan) level i.partial h → IfSome d (λ v. pos h ≤ℤ v)
    goes_on_back None is k = tt
    goes_on_back (Some v) is k =
        let r = is.1 in
        let top = at_most (window_at i.windows r).most v r k.0 (of.most r (point r is.2)) is.5 k.1 k.2 in
        let low = k.3 r (record { within = is.2; unbound = is.3; least = λ e l free. let q = lowest e l free in let t = is.4 in omega arith }) in
        omega (arith, ints, top, low)

    goes_on_by : (d : Option ℤ) → IsDeadline level n i d → CanGoOn (chronicle plan) level i.partial h ↔ IfSome d (λ v. pos h ≤ℤ v)
    goes_on_by d is = (goes_on_back d is, goes_on d is)

  -- The dates can go on at h exactly where h isn't after the deadline of the current level.
  pub deadline_tells : (n : ℕ) (d : Option ℤ) → IsCurrentLevel level i.partial (Some n) → IsDeadline level n i d
      → CanGoOn (chronicle plan) level i.partial h ↔ IfSome d (λ v. pos h ≤ℤ v)
  deadline_tells n d current is = goes_on_by n same lowest d is
    where
      same : (f : ℕ) → IsAwaited level i.partial f → level f ≡ n
      same f w =
          let c = current.1 in
          let up = w.least current.0 c.within c.unbound in
          let down = c.least f w.within w.unbound in
          let e = current.2 in omega arith

      lowest : (e : ℕ) → e < length i.partial → at i.partial e ≡ None → n ≤ level e
      lowest e l free = let q = (current.1).least e l free in let s = current.2 in omega arith

  -- and always where all events are bound
  pub whole_goes_on : IsCurrentLevel level i.partial None → CanGoOn (chronicle plan) level i.partial h
  whole_goes_on none = ((of.dates).0, (of.dates).1, (of.dates).2, λ f w. absurd (none f w.within w.unbound))

-- what the deadline tells where all levels are 0
pub tells : (i : InstanceState) (d : Option ℤ) (h : ℕ) (b : Bool) → IsDeadline flat 0 i d → (IsTrue b ↔ IfSome d (λ v. pos h ≤ℤ v))
    → (plan : Plan) → IsProper plan → IsOf plan i → IsTrue b ↔ CanGoOn (chronicle plan) flat i.partial h
tells i d h b is says plan proper of =
    let by = goes_on_by plan proper i of flat h 0 (λ f w. refl) (λ e l free. omega arith) d is in
    (λ t. by.1 (says.0 t), λ k. says.1 (by.0 k))

-- where nothing is bound, each event can be at 0 or after
pub root_goes_on : (level : ℕ → ℕ) (plan : Plan) → IsProper plan → (i : InstanceState) → IsOf plan i → ((e : ℕ) → at i.partial e ≡ None)
    → CanGoOn (chronicle plan) level i.partial 0
root_goes_on level plan proper i of free =
    let dateless : (p : ℕ) → dates_of i.partial p ≡ None = (λ p. ap (λ (o : Option (Entry Sym)). option_map (λ e. pos e.date) o) (free p)) in
    let late : (r : ℕ) → r < plan.network.points → IsLatest plan.chronicle.bounds (dates_of i.partial) r None = (λ r l.
    subst (λ (o : Option ℤ). IsLatest plan.chronicle.bounds (dates_of i.partial) r o)
    (least_none (λ p. after (dates_of i.partial p) (most_of plan.network p r)) plan.network.points (λ p. ap (λ (o : Option ℤ). after o (most_of plan.network p r)) (dateless p)))
    (IsLatest-latest plan.chronicle.bounds plan.network.points (most_of plan.network) (dates_of i.partial) proper.within proper.consistent proper.minimal (λ p. none_if (dates_of i.partial p) _ (dateless p)) (λ p q. none_if (dates_of i.partial p) _ (dateless p)) r l)) in
    let joint = joint_demand plan.chronicle.bounds (length i.partial) (dates_of i.partial) (λ r. true) (pos 0) of.dates (λ r k t. late r (let a = of.len in let b = proper.points in omega arith) (pos 0)) in
    (joint.0, joint.1, joint.2, λ f w. joint.3 f w.within refl)
