use Rattle.std.proofs.Common.{rules, ◌≡◌, subst}
use Rattle.std.specs.Prelude.{ℤ, Option, pos, ◌≤ℤ◌, IfSome}
use Rattle.std.proofs.lemmas.Int.{to_z-of_z}
use mir.Syntax.{w64}
use mir.Val.{SFits}
use Rattle.crs_history.specs.Histories.{lowest}
use Rattle.crs_engine.specs.Engines.{floor_at, reaches_of}
use Rattle.crs_engine.proofs.Floors.{from_zero, raised, not_lower}
use Rattle.crs_engine.proofs.Forgetting.{forgot, still_engine}
use Rattle.crs_engine.proofs.engine.Engine.forget.Goals as goal

pub forget_behind-requires-clause-least : goal.forget_behind-requires-clause-least
forget_behind-requires-clause-least c =
    let least = subst (λ (o : Option ℤ). IfSome o (λ d. pos 0 ≤ℤ d)) c.in-Some.is (from_zero c.self.inside.plans.reach (reaches_of c.self.inside.plans) c.self.invariant.0.reach) in
    search rules

floor_now : (c : goal.After-forget_behind) → c.forget_behind.new.history.floor ≡ floor_at c.self.inside.plans.reach c.self.inside.horizon
floor_now c =
    let f : SFits w64 c.in-Some.reach = search rules in
    raised c.self.inside.plans.reach c.self.inside.horizon c.in-Some.reach c.self.inside.entries.history.floor c.forget_behind.new.history.floor
    c.in-Some.is (rw (to_z-of_z w64 c.in-Some.reach f) at c.forget_behind.ensures.floor) c.self.invariant.0.needed

pub invariant_of-self : goal.invariant_of-self
invariant_of-self c = (
  still_engine (record { plans = c.self.inside.plans; stores = c.self.inside.stores.items; history = c.self.inside.entries.history; waiting = c.self.inside.entries.buffer; fresh = c.self.inside.fresh; delay = c.self.inside.delay; last = c.self.inside.last; horizon = c.self.inside.horizon; accepted = c.self.inside.accepted; marked = c.self.inside.marked; limit = c.self.inside.limit; focus = c.self.inside.focus; stopped = c.self.inside.stopped }) c.forget_behind.new.history c.self.invariant.0 (floor_now c) c.forget_behind.ensures.order c.forget_behind.ensures.dated
      (not_lower lowest c.self.inside.entries.history.floor c.forget_behind.new.history.floor (floor_at c.self.inside.plans.reach c.self.inside.horizon) c.self.invariant.0.least c.self.invariant.0.needed (floor_now c)),
  c.self.invariant.1,
  c.self.invariant.2,
)

pub returns-in-Some-clause-stands : goal.returns-in-Some-clause-stands
returns-in-Some-clause-stands c = forgot (record { plans = c.self.inside.plans; stores = c.self.inside.stores.items; history = c.self.inside.entries.history; waiting = c.self.inside.entries.buffer; fresh = c.self.inside.fresh; delay = c.self.inside.delay; last = c.self.inside.last; horizon = c.self.inside.horizon; accepted = c.self.inside.accepted; marked = c.self.inside.marked; limit = c.self.inside.limit; focus = c.self.inside.focus; stopped = c.self.inside.stopped }) c.args.self.now c.forget_behind.new.history c.self.view_is c.self.invariant.0 (floor_now c) c.forget_behind.ensures.stands
