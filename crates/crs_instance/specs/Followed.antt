-- The stretch of a window for an instance, and when an instance has the progress of its windows.
use Rattle.std.specs.Prelude.{ℕ, ℤ, List, Option, Some, None, IfSome, slice_get}
use Rattle.crs_base.specs.declared.symbols.Sym.{Sym}
use Rattle.crs_base.specs.Entry.{Entry}
use Rattle.crs_model.specs.declared.plan.Plan.{Plan}
use Rattle.crs_model.specs.declared.progress.Stretch.{Stretch}
use Rattle.crs_model.specs.Bindings.{look_of}
use Rattle.crs_model.specs.Verdicts.{IsStretch, BodyIsBound}
use Rattle.crs_model.specs.HasProgress.{HasProgress}
use Rattle.crs_model.specs.Plans.{chronicle}
use Rattle.crs_instance.specs.Instances.{InstanceState, progress_at}

-- the stretch of the window of this number; None where one of its anchors or variables is unbound
abbrev pub IsStretchAt : Plan → InstanceState → ℕ → Option Stretch → Type 0
IsStretchAt plan i k (Some s) = IfSome (slice_get (chronicle plan).windows k) (λ w. IsStretch i.partial w s.from s.to × BodyIsBound (look_of i.binding) w.body)
IsStretchAt plan i k None = IfSome (slice_get (chronicle plan).windows k) (λ w. (from to : ℤ) → IsStretch i.partial w from to → BodyIsBound (look_of i.binding) w.body → ⊥)

-- each window whose anchors and variables are bound has its progress at d over the entries
abbrev pub Follows : Plan → List (Entry Sym) → ℕ → InstanceState → Type 0
Follows plan entries d i =
    HasProgress (chronicle plan) (look_of i.binding) i.partial entries d (λ k. (progress_at i.progress k).count) (λ k. (progress_at i.progress k).broken)
