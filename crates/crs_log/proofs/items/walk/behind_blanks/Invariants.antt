use Rattle.std.proofs.Common.{◌≡◌, ◌≤◌, ◌-◌, length}
use Rattle.crs_log.specs.Places.{tokens_from}
use Rattle.crs_log.proofs.items.walk.behind_blanks.Given as goal

abbrev pub invariant-loop-i : goal.invariant-loop-i
invariant-loop-i l = record {
  tokens : tokens_from l.line l.i ≡ tokens_from l.line l.at;
  onward : l.at ≤ l.i;
  within : l.i ≤ length l.line;
}

abbrev pub decreases-loop-i : goal.decreases-loop-i
decreases-loop-i l = length l.line - l.i
