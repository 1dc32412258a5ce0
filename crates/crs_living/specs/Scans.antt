-- What stays the same through a scan.
use Rattle.std.specs.Prelude.{◌<◌, ◌≤◌, ◌^◌, ◌≡◌, true}
use Rattle.crs_base.specs.Seen.{entry_of}
use Rattle.crs_history.specs.Histories.{EndsWith}
use Rattle.crs_instance.specs.Instances.{IsOf}
use Rattle.crs_model.specs.Plans.{IsProper}
use Rattle.crs_living.specs.declared.deciding.Scan.{Scan}

-- the plan is proper, the parent is an instance of it, where levels are read the entry is the last of the history, and the dates are within their limits
pub record IsScan (s : Scan) : Type 0 where
  pub proper : IsProper s.plan.now
  pub of : IsOf s.plan.now s.parent.now
  pub last : s.focus ≡ true → EndsWith (entry_of s.entry.now) s.history.now.entries
  pub date : s.entry.now.date < 2 ^ 40
  pub begun : s.since ≤ 2 ^ 42
  pub small : s.until ≤ 2 ^ 42
