use Rattle.std.proofs.Common.{◌≡◌, ◌+◌}
use Rattle.crs_parts_tests.proofs.basics.take_steps.Given as goal

abbrev pub invariant-loop-i : goal.invariant-loop-i
invariant-loop-i g l = l.steps ≡ l.fn.steps + l._i
