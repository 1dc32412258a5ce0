use Rattle.std.proofs.Common.{◌≡◌, ◌≤◌, List, sym, ap, subst, arith}
use Rattle.std.specs.Prelude.{◌≤ℤ◌, ◌<ℤ◌}
use Rattle.std.specs.List.{AllByRecursion}
use Rattle.std.proofs.lemmas.Int.{ints, to_z-of_z}
use mir.Val.{SFits}
use mir.Syntax.{w64}
use Rattle.crs_base.specs.declared.symbols.Sym.{Sym}
use Rattle.crs_base.specs.Entry.{Entry}
use Rattle.crs_base.specs.Sifted.{Sifts}
use Rattle.crs_history.specs.Dates.{nat_of}
use Rattle.crs_history.specs.Dropping.{Drops}
use Rattle.crs_history.specs.Histories.{IsKept}
use Rattle.crs_history.specs.Holdings.{held_of, AreBefore, IsPast, IsSplitAt}
use Rattle.crs_history.proofs.Kept.{kept_raised}
use Rattle.crs_history.proofs.Left.{drops_none}
use Rattle.crs_history.proofs.Forgetting.{past_on, all_before, now_split, forgotten}
use Rattle.crs_history.proofs.history.History.forget.Goals as goal

pub loop-init : goal.loop-init
loop-init c =
    let h = c.self.inside.held in
    let fits : SFits w64 c.args.date = c.ranges.date in
    let one : c.to_date-limit.result ≡ nat_of c.args.date = simp to_z-of_z at c.to_date-limit.ensures in
    let lt : c.self.inside.floor <ℤ c.args.date = omega (arith, ints) in
    let all : held_of h ≡ c.args.self.now.entries = ap (λ w. w.entries) c.self.view_is in (
      subst (λ (w : List (Entry Sym)). Drops (IsPast w c.to_date-limit.result) w (held_of h)) all (drops_none (IsPast (held_of h) c.to_date-limit.result) (held_of h)),
      subst (λ n. AreBefore n h.older) (sym one) (all_before c.self.inside.floor c.args.date h.older lt c.self.invariant.before),
      omega arith,
    )

pub loop-preserved : goal.loop-preserved
loop-preserved c = (
  past_on c.args.self.now.entries (held_of c.loop.self-inside.held) (held_of c.forget_one.new.self) c.to_date-limit.result c.loop.invariant.0 c.forget_one.ensures.past,
  c.forget_one.ensures.before c.loop.invariant.1,
  omega (arith, c.forget_one.ensures.spare),
)

pub invariant_of-self : goal.invariant_of-self
invariant_of-self c =
    let h = c.forget_one.new.self in
    let date = c.args.date in
    let fits : SFits w64 date = c.ranges.date in
    let one : c.to_date-limit.result ≡ nat_of date = simp to_z-of_z at c.to_date-limit.ensures in
    let before : AreBefore (nat_of date) h.older = subst (λ n. AreBefore n h.older) one (c.forget_one.ensures.before c.loop.invariant.1) in
    let done : AllByRecursion (λ e. nat_of date ≤ e.date) h.ring = subst (λ n. AllByRecursion (λ e. n ≤ e.date) h.ring) one (c.forget_one.ensures.done c.loop-test.false) in
    subst (λ z. IsSplitAt z h) (sym (to_z-of_z w64 date fits)) (now_split c.args.self.now.entries h date c.forget_one.ensures.latest before done)

pub returns-clause-held : goal.returns-clause-held
returns-clause-held c = λ _.
    let h = c.forget_one.new.self in
    let date = c.args.date in
    let all = c.args.self.now.entries in
    let fits : SFits w64 date = c.ranges.date in
    let one : c.to_date-limit.result ≡ nat_of date = simp to_z-of_z at c.to_date-limit.ensures in
    let before : AreBefore (nat_of date) h.older = subst (λ n. AreBefore n h.older) one (c.forget_one.ensures.before c.loop.invariant.1) in
    let done : AllByRecursion (λ e. nat_of date ≤ e.date) h.ring = subst (λ n. AllByRecursion (λ e. n ≤ e.date) h.ring) one (c.forget_one.ensures.done c.loop-test.false) in
    let past : Drops (IsPast all c.to_date-limit.result) all (held_of h) = past_on all (held_of c.loop.self-inside.held) (held_of h) c.to_date-limit.result c.loop.invariant.0 c.forget_one.ensures.past in
    forgotten all h date c.forget_one.ensures.latest before done (subst (λ n. Drops (IsPast all n) all (held_of h)) one past)

pub returns-clause-stands : goal.returns-clause-stands
returns-clause-stands c = λ s stands.
    let h = c.forget_one.new.self in
    let date = c.args.date in
    let floor = c.self.inside.floor in
    let all = c.args.self.now.entries in
    let fits : SFits w64 date = c.ranges.date in
    let one : c.to_date-limit.result ≡ nat_of date = simp to_z-of_z at c.to_date-limit.ensures in
    let before : AreBefore (nat_of date) h.older = subst (λ n. AreBefore n h.older) one (c.forget_one.ensures.before c.loop.invariant.1) in
    let done : AllByRecursion (λ e. nat_of date ≤ e.date) h.ring = subst (λ n. AllByRecursion (λ e. n ≤ e.date) h.ring) one (c.forget_one.ensures.done c.loop-test.false) in
    let past : Drops (IsPast all c.to_date-limit.result) all (held_of h) = past_on all (held_of c.loop.self-inside.held) (held_of h) c.to_date-limit.result c.loop.invariant.0 c.forget_one.ensures.past in
    let kept : Sifts (IsKept all date) all (held_of h) = forgotten all h date c.forget_one.ensures.latest before done (subst (λ n. Drops (IsPast all n) all (held_of h)) one past) in
    let up : floor ≤ℤ date = omega (arith, ints) in
    let same : c.args.self.now.floor ≡ floor = ap (λ w. w.floor) (sym c.self.view_is) in
    subst (λ z. Sifts (IsKept s z) s (held_of h)) (sym (to_z-of_z w64 date fits))
    (kept_raised s all c.args.self.now.floor stands date (subst (λ z. z ≤ℤ date) (sym same) up) (held_of h) kept)

pub returns-clause-spare : goal.returns-clause-spare
returns-clause-spare c = omega (arith, c.loop.invariant.2, c.forget_one.ensures.spare)
