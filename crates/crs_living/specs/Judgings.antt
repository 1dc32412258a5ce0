-- By which plan and at which date instances are judged, and which dates they pass.
use Rattle.std.specs.Prelude.{◌≤◌, ◌^◌}
use Rattle.crs_base.specs.declared.symbols.Sym.{Sym}
use Rattle.crs_base.specs.Entry.{Entry}
use Rattle.crs_instance.specs.Instances.{InstanceState}
use Rattle.crs_model.specs.Plans.{IsProper}
use Rattle.crs_living.specs.declared.judging.Judging.{Judging}
use Rattle.crs_living.specs.declared.judging.Passing.{Passing}
use Rattle.crs_living.specs.Done.{IsDone}
use Rattle.crs_living.specs.Windows.{IsAble, IsFollowed, IsPassed}

-- the plan is proper, and the date within its limit
pub record IsJudging (j : Judging) : Type 0 where
  pub proper : IsProper j.plan.now
  pub small : j.h ≤ 2 ^ 42

-- so is the date before
pub record IsPassing (p : Passing) : Type 0 where
  pub judging : IsJudging p.judging
  pub since : p.since ≤ 2 ^ 42

-- able when it is judged so
abbrev pub IsAbleBy : Judging → InstanceState → Type 0
IsAbleBy j = IsAble j.plan.now j.focus j.h

-- done when it is judged so
abbrev pub IsDoneBy : Judging → InstanceState → Type 0
IsDoneBy j = IsDone j.plan.now j.h

-- as the dates pass so
abbrev pub IsPassedBy : Passing → InstanceState → InstanceState → Type 0
IsPassedBy p = IsPassed p.judging.plan.now p.history.now p.since p.judging.h

-- as the entry is settled, and the dates up to its date pass
abbrev pub IsFollowedBy : Passing → Entry Sym → InstanceState → InstanceState → Type 0
IsFollowedBy p x = IsFollowed p.judging.plan.now p.history.now x p.since
