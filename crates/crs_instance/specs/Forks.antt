-- What an instance becomes where one more event is bound.
use Rattle.std.specs.Prelude.{◌≡◌, ◌<◌, ◌^◌, ℕ, pos, List, length, Option, None}
use Rattle.crs_base.specs.declared.symbols.Sym.{Sym}
use Rattle.crs_base.specs.Entry.{Entry}
use Rattle.crs_stn.specs.Table.{most_of}
use Rattle.crs_model.specs.declared.plan.Plan.{Plan}
use Rattle.crs_model.specs.Partial.{at, put}
use Rattle.crs_model.specs.Plans.{IsProper}
use Rattle.crs_instance.specs.Instances.{InstanceState, IsOf}
use Rattle.crs_instance.specs.Narrowed.{narrowed_windows}

-- the instance with x bound to e too, and this binding: x's date narrows its windows
abbrev pub with_one : Plan → InstanceState → ℕ → Entry Sym → List (Option Sym) → InstanceState
with_one plan i e x binding =
    record { partial = put i.partial e x; binding = binding; windows = narrowed_windows plan.network.points (most_of plan.network) e (pos x.date) i.windows; progress = i.progress }

-- e is an event of the plan, which the instance has unbound, and x's date is within its limit
pub record IsFork (plan : Plan) (i : InstanceState) (e : ℕ) (x : Entry Sym) : Type 0 where
  pub proper : IsProper plan
  pub of : IsOf plan i
  pub event : e < length plan.chronicle.events
  pub unbound : at i.partial e ≡ None
  pub date : x.date < 2 ^ 40
