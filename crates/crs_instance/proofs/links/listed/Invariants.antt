use Rattle.std.proofs.Common.{take}
use Rattle.crs_instance.specs.EntryLinks.{partial_of, AreLinked, AreListed}
use Rattle.crs_instance.proofs.links.listed.Given as goal

abbrev pub invariant-loop-event : goal.invariant-loop-event
invariant-loop-event l = AreLinked l.count l.links → AreListed (take l.event (partial_of l.count l.links)) l.all
