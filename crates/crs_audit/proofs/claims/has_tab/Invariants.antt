use Rattle.std.proofs.Common.{◌≡◌, drop}
use Rattle.std.specs.List.{list_any}
use Rattle.crs_audit.specs.Claims.{is_tab}
use Rattle.crs_audit.proofs.claims.has_tab.Given as goal

abbrev pub invariant-loop-b : goal.invariant-loop-b
invariant-loop-b l = list_any is_tab (drop l.b-index l.bytes) ≡ list_any is_tab l.bytes
