use Rattle.std.proofs.Common.{◌≡◌, map, drop}
use Rattle.crs_log.specs.SeenNames.{name_seen}
use Rattle.crs_log.specs.SeenItems.{event_seen}
use Rattle.crs_log.specs.Known.{known_from, known_of}
use Rattle.crs_log.proofs.naming.known.Given as goal

abbrev pub invariant-loop-i : goal.invariant-loop-i
invariant-loop-i l = known_from l.i (map (name_seen l.symbols.texts) (drop l.i l.names)) (event_seen l.line l.raw) ≡ known_of (map (name_seen l.symbols.texts) l.names) (event_seen l.line l.raw)
