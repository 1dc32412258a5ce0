use Rattle.std.proofs.Common.{◌⊎◌}
use Rattle.crs_base.specs.declared.symbols.Sym.{Sym}
use Rattle.crs_base.specs.Entry.{Entry}
use Rattle.crs_base.specs.Words.{IsIn}
use Rattle.crs_history.specs.Looking.{Agrees}
use Rattle.crs_watch.proofs.beginning.has_stray.Given as goal

-- each of them is left, or was seen to agree
abbrev pub invariant-loop-e : goal.invariant-loop-e
invariant-loop-e l =
    (goal.iterator-loop-e).can_next l.e-iterator × (goal.iterator-loop-e).is_finite l.e-iterator
    × ((e : Entry Sym) → IsIn e l.fn.found → IsIn e l.e-iterator ⊎ Agrees (record { name = l.name; args = l.args }) l.value e)
    × ((e : Entry Sym) → IsIn e l.e-iterator → IsIn e l.fn.found)
