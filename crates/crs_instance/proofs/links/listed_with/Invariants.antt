use Rattle.std.proofs.Common.{take}
use Rattle.crs_base.specs.Seen.{entry_of}
use Rattle.crs_model.specs.Partial.{put}
use Rattle.crs_instance.specs.EntryLinks.{partial_of, AreLinked, AreListed}
use Rattle.crs_instance.proofs.links.listed_with.Given as goal

abbrev pub invariant-loop-here : goal.invariant-loop-here
invariant-loop-here l = AreLinked l.count l.links → AreListed (take l.here (put (partial_of l.count l.links) l.event (entry_of l.entry.value))) l.all
