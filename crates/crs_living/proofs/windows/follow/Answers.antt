use Rattle.std.proofs.Common.{ℕ, length, subst}
use Rattle.crs_base.specs.Seen.{entry_of}
use Rattle.crs_instance.specs.Instances.{progress_at}
use Rattle.crs_living.specs.JudgedWindows.{AreStepped}
use Rattle.crs_living.specs.Windows.{Passes}
use Rattle.crs_living.proofs.Progress.{still_of, followed_all}
use Rattle.crs_living.proofs.windows.follow.Goals as goal

pub pass_windows-requires-clause-of : goal.pass_windows-requires-clause-of
pass_windows-requires-clause-of c = still_of c.args.passing.now.judging.plan.now c.args.instance.now c.settle_windows.new.instance c.settle_windows.ensures.same c.requires.of

pub returns : goal.returns
returns c = followed_all c.args.passing.now.judging.plan.now c.args.passing.now.history.now c.args.passing.now.since (entry_of c.args.entry.now) c.args.instance.now c.settle_windows.new.instance c.pass_windows.new.instance c.settle_windows.ensures (subst (λ (h : ℕ). AreStepped (λ k q. Passes c.args.passing.now.judging.plan.now c.args.passing.now.history.now c.args.passing.now.since h c.settle_windows.new.instance.partial c.settle_windows.new.instance.binding k (progress_at c.settle_windows.new.instance.progress k) q) (length c.args.passing.now.judging.plan.now.chronicle.windows) c.settle_windows.new.instance c.pass_windows.new.instance) c.requires.at c.pass_windows.ensures)
