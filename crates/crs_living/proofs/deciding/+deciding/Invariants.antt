use Rattle.std.proofs.Common.{◌+◌, ◌*◌, ◌-◌, length}
use Rattle.crs_base.specs.Seen.{entry_of}
use Rattle.crs_living.proofs.Scanned.{IsGoneThrough}
use Rattle.crs_living.proofs.deciding.+deciding.Given as goal

-- by the levels that are left, and then by the events that are left
abbrev pub decreases-decide : goal.decreases-decide
decreases-decide g l = 4 * ((256 - l.level) * 17 + length l.todo.items) + 1

abbrev pub decreases-decide_higher : goal.decreases-decide_higher
decreases-decide_higher g l = 4 * ((256 - l.level) * 17)

abbrev pub decreases-decide_at : goal.decreases-decide_at
decreases-decide_at g l = 4 * ((256 - l.choice.now.level) * 17 + length l.choice.now.rest.now.items) + 3

abbrev pub decreases-decide_with : goal.decreases-decide_with
decreases-decide_with g l = 4 * ((256 - l.choice.now.level) * 17 + length l.choice.now.rest.now.items) + 2

abbrev pub invariant-decide_at-loop-candidate : goal.invariant-decide_at-loop-candidate
invariant-decide_at-loop-candidate g l = IsGoneThrough l.scan.plan.now l.scan.focus l.scan.history.now (entry_of l.scan.entry.now) l.scan.since l.scan.until l.scan.parent.now l.next l.choice.level l.choice.rest.now.items l.choice.event l.initial.out.items l.initial.candidate-iterator l.candidate-iterator l.out.items
