use Rattle.std.proofs.Common.{◌≤◌}
use Rattle.crs_waiting.proofs.hooks.places_for.Given as goal

abbrev pub invariant-loop-hook : goal.invariant-loop-hook
invariant-loop-hook l = l.places ≤ 1024
