-- Charts: what hangs on the plan alone.
use Rattle.std.specs.Prelude.{Bool}
use Rattle.crs_model.specs.declared.plan.Plan.{Plan}
use Rattle.crs_model.specs.Plans.{IsProper}
use Rattle.crs_waiting.specs.declared.hooks.Hooks.{Hooks}
use Rattle.crs_waiting.specs.Hooks.{AreHooks}
use Rattle.crs_waiting.specs.Orders.{AreOrdered}

-- a chart, as contracts see it
pub record ChartState : Type 0 where
  pub plan : Plan
  pub hooks : Hooks
  pub focus : Bool

-- the plan is proper, and the hooks are its own, in the order of the ranks
pub record IsChart (c : ChartState) : Type 0 where
  pub proper : IsProper c.plan
  pub hooks : AreHooks c.plan c.hooks.events.items c.hooks.windows.items
  pub order : AreOrdered c.plan c.focus c.hooks.ranks.value.items c.hooks.events.items
