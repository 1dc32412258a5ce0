-- The chronicle of the tests.
use Rattle.std.specs.Prelude.{◌≡◌, ◌<◌, ◌≤◌, ℕ, pos, neg_ℤ, List, [], ◌∷◌, length, Some, None}
use Rattle.crs_stn.specs.declared.bound.Bound.{Bound}
use Rattle.crs_model.specs.declared.chronicle.Chronicle.{Chronicle}
use Rattle.crs_model.specs.declared.chronicle.EventDef.{EventDef as CodeEvent}
use Rattle.crs_model.specs.declared.plan.Plan.{Plan}
use Rattle.crs_model.specs.Plans.{IsProper}
use Rattle.crs_model.specs.Partial.{at}
use Rattle.crs_instance.specs.Instances.{InstanceState, IsOf}

-- without arguments and change, of a level from 0 to 7
pub record IsPlain (e : CodeEvent) : Type 0 where
  pub terms : e.pattern.terms ≡ []
  pub change : e.pattern.change ≡ None
  pub level : e.level ≤ 7

-- that the second event comes from `least` to 5 ticks after the first
abbrev pub spaced : ℕ → List Bound
spaced least = record { from = 0; to = 1; most = Some (pos 5) } ∷ record { from = 1; to = 0; most = Some (neg_ℤ (pos least)) } ∷ []

-- two such events, without free points, variables, windows and emits
pub record IsFixture (least : ℕ) (c : Chronicle) : Type 0 where
  pub first : CodeEvent
  pub second : CodeEvent
  pub events : c.events ≡ first ∷ second ∷ []
  pub plain_first : IsPlain first
  pub plain_second : IsPlain second
  pub free : c.free ≡ []
  pub bounds : c.bounds ≡ spaced least
  pub variables : c.variables ≡ []
  pub sets : c.sets ≡ []
  pub differs : c.differs ≡ []
  pub windows : c.windows ≡ []
  pub emits : c.emits ≡ []

-- an instance of the plan, which is proper and has an event 0, to which no entry is bound
pub record IsRootOf (plan : Plan) (i : InstanceState) : Type 0 where
  pub proper : IsProper plan
  pub of : IsOf plan i
  pub event : 0 < length plan.chronicle.events
  pub unbound : at i.partial 0 ≡ None
