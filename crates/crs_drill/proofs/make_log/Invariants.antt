use Rattle.std.proofs.Common.{◌≡◌, ◌≤◌, ◌*◌, ◌-◌, ◌++◌}
use Rattle.crs_drill.specs.Drill.{drill_text, lines_behind}
use Rattle.crs_drill.proofs.make_log.Given as goal

-- the log so far and the lines that are left are the log; the base grows by at most 2 a line
abbrev pub invariant-loop-k : goal.invariant-loop-k
invariant-loop-k l = record {
  text : l.out.items ++ lines_behind l.k (l.n - l.k) l.drill ≡ drill_text l.seed l.n;
  base : l.drill.base ≤ 2 * l.k;
}
