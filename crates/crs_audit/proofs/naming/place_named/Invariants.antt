use Rattle.std.proofs.Common.{◌≡◌, map, drop}
use Rattle.crs_audit.specs.Audits.{chronicle_named}
use Rattle.crs_audit.specs.Audited.{chronicle_in}
use Rattle.crs_audit.proofs.naming.place_named.Given as goal

-- none of those so far has the name
abbrev pub invariant-loop-i : goal.invariant-loop-i
invariant-loop-i l = chronicle_named (map (chronicle_in l.symbols.texts) (drop l.i l.plans)) l.name ≡ chronicle_named (map (chronicle_in l.symbols.texts) l.plans) l.name
