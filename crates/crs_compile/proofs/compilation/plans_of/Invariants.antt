use Rattle.std.proofs.Common.{◌≡◌, length}
use Rattle.std.specs.Vec.Iter.{into_iter_items, into_iter_len}
use Rattle.crs_compile.specs.Compiled.{plans_in}
use Rattle.crs_compile.proofs.Plans.{IsPlanned}
use Rattle.crs_compile.proofs.compilation.plans_of.Given as goal

abbrev pub invariant-loop-chronicle : goal.invariant-loop-chronicle
invariant-loop-chronicle l =
    (goal.iterator-loop-chronicle).can_next l.chronicle-iterator ×
    (goal.iterator-loop-chronicle).is_finite l.chronicle-iterator ×
    IsPlanned l.fn.chronicles (plans_in l.plans) (into_iter_items l.chronicle-iterator) ×
    (into_iter_len l.chronicle-iterator ≡ length (into_iter_items l.chronicle-iterator))
