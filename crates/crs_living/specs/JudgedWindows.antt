-- The windows of an instance, one after another.
use Rattle.std.specs.Prelude.{◌≡◌, ◌↔◌, ◌≤◌, ◌<◌, ℕ, ℤ, pos, List, IfSome, slice_get}
use Rattle.crs_model.specs.declared.plan.Plan.{Plan}
use Rattle.crs_model.specs.declared.progress.Progress.{Progress}
use Rattle.crs_model.specs.declared.progress.Verdict.{Verdict}
use Rattle.crs_model.specs.declared.progress.Verdict.TheVariants.{Met, Lost}
use Rattle.crs_model.specs.Bindings.{look_of}
use Rattle.crs_model.specs.Plans.{chronicle}
use Rattle.crs_model.specs.Verdicts.{IsStretch, BodyIsBound}
use Rattle.crs_model.specs.HasProgress.{IsLostBy}
use Rattle.crs_instance.specs.Instances.{InstanceState, progress_at}
use Rattle.crs_living.specs.Windows.{IsSameInstance, IsMetAt, IsMetWith}

-- each window below n took its step, and the rest of the instance stays
pub record AreStepped (Step : ℕ → Progress → Type 0) (n : ℕ) (old new : InstanceState) : Type 0 where
  pub same : IsSameInstance old new
  pub below : (k : ℕ) → k < n → Step k (progress_at new.progress k)
  pub rest : (k : ℕ) → n ≤ k → progress_at new.progress k ≡ progress_at old.progress k

-- the window isn't lost at h as this progress tells
abbrev pub IsNotLostWith : Plan → ℕ → InstanceState → ℕ → Progress → Type 0
IsNotLostWith plan h i k p =
    IfSome (slice_get (chronicle plan).windows k) (λ w. (from to : ℤ) → IsStretch i.partial w from to → BodyIsBound (look_of i.binding) w.body → IsLostBy w.body to (pos h) p.count p.broken → ⊥)

-- met exactly where the progress tells so, and lost likewise
pub record IsJudged (plan : Plan) (h : ℕ) (i : InstanceState) (k : ℕ) (p : Progress) (v : Verdict) : Type 0 where
  pub met : v ≡ Met ↔ IsMetWith plan h i k p
  pub kept : (v ≡ Lost → ⊥) ↔ IsNotLostWith plan h i k p

-- none of the windows below n is lost as their progress tells
abbrev pub IsLostNowhere : Plan → ℕ → InstanceState → List Progress → ℕ → Type 0
IsLostNowhere plan h i ps n = (k : ℕ) → k < n → IsNotLostWith plan h i k (progress_at ps k)

-- each window below n is met
abbrev pub IsMetTo : Plan → ℕ → InstanceState → ℕ → Type 0
IsMetTo plan h i n = (k : ℕ) → k < n → IsMetAt plan h i k
