use Rattle.std.proofs.Common.{◌-◌, suc}
use Rattle.crs_history.specs.Lanes.{AreAlike}
use Rattle.crs_history.proofs.numbered.Numbered.open.Given as goal

abbrev pub invariant-loop-self : goal.invariant-loop-self
invariant-loop-self l = AreAlike l.fn.self l.self-inside.tracks.items

abbrev pub decreases-loop-self : goal.decreases-loop-self
decreases-loop-self l = suc l.number - l.self-inside.tracks.len
