use Rattle.std.proofs.Common.{◌≡◌}
use Rattle.crs_desk.specs.Memory.{memory_inputs}
use Rattle.crs_run_tests.proofs.several_logs.desk_of_logs.Given as goal

abbrev pub invariant-loop-name : goal.invariant-loop-name
invariant-loop-name l = memory_inputs l.desk ≡ 0
