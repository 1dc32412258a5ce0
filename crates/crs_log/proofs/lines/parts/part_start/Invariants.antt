use Rattle.std.proofs.Common.{◌≡◌, ◌≤◌, length, true, drop}
use Rattle.crs_base.specs.Lines.{is_part}
use Rattle.crs_log.proofs.lines.parts.part_start.Given as goal

abbrev pub invariant-loop-start : goal.invariant-loop-start
invariant-loop-start l = record {
  bound : l.start ≤ length l.text;
  part : is_part (drop l.start l.text) ≡ true;
}

abbrev pub decreases-loop-start : goal.decreases-loop-start
decreases-loop-start l = l.start
