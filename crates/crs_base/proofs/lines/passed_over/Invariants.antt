use Rattle.std.proofs.Common.{◌≡◌, drop}
use Rattle.crs_base.specs.Lines.{is_passed_over}
use Rattle.crs_base.proofs.lines.passed_over.Given as goal

abbrev pub invariant-loop-b : goal.invariant-loop-b
invariant-loop-b l = is_passed_over (drop l.b-index l.bytes) ≡ is_passed_over l.bytes
