use Rattle.std.proofs.Common.{map, ◌-◌, suc}
use Rattle.crs_history.specs.Histories.{entries_of}
use Rattle.crs_history.specs.Lanes.{AreAlike}
use Rattle.crs_history.proofs.lanes.Lanes.open.Given as goal

abbrev pub invariant-loop-self : goal.invariant-loop-self
invariant-loop-self l = AreAlike l.fn.self (map (λ q. entries_of q.items) l.self-inside.queues.items)

abbrev pub decreases-loop-self : goal.decreases-loop-self
decreases-loop-self l = suc l.number - l.self-inside.queues.len
