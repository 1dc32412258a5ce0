use Rattle.std.proofs.Common.{◌≡◌, ◌++◌, drop, map}
use Rattle.crs_print.proofs.printing.points.Given as goal

-- those so far and those of what is left
abbrev pub invariant-loop-e : goal.invariant-loop-e
invariant-loop-e l = l.out.items ++ map (λ e. e.point) (drop l.e-index l.events) ≡ map (λ e. e.point) l.events
