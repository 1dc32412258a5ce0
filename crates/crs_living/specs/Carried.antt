-- The progress of the windows of an instance that has more than its parent, at a later date.
use Rattle.std.specs.Prelude.{◌≡◌, ◌<◌, ℕ, List, length}
use Rattle.crs_model.specs.declared.progress.Progress.{Progress}
use Rattle.crs_instance.specs.Instances.{InstanceState, progress_at}
use Rattle.crs_living.specs.declared.judging.Passing.{Passing}
use Rattle.crs_living.specs.Windows.{Begins, Passes}

-- the window begins with some progress, from which the dates pass to this one
abbrev pub IsCarried : Passing → InstanceState → InstanceState → ℕ → Progress → Type 0
IsCarried p parent fork k q =
    (b : Progress) × Begins p.judging.plan.now p.history.now p.since parent fork k b × Passes p.judging.plan.now p.history.now p.since p.judging.h fork.partial fork.binding k b q

-- so is each window below n
pub record AreCarried (p : Passing) (parent fork : InstanceState) (n : ℕ) (qs : List Progress) : Type 0 where
  pub len : length qs ≡ n
  pub each : (k : ℕ) → k < n → IsCarried p parent fork k (progress_at qs k)
