use Rattle.std.specs.Prelude.{IfSome}
use Rattle.crs_waiting.specs.Orders.{IsBeforeAt}
use Rattle.crs_waiting.proofs.befores.before_of.Given as goal

abbrev pub invariant-loop-other : goal.invariant-loop-other
invariant-loop-other l = IfSome l.found (IsBeforeAt l.plan l.focus l.ranks l.event)
