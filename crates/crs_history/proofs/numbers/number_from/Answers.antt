use Rattle.std.proofs.Common.{sym, ◌∙◌}
use Rattle.crs_base.specs.declared.symbols.Sym.{Sym}
use Rattle.crs_history.proofs.Numbering.{number_on, number_off}
use Rattle.crs_history.proofs.numbers.number_from.Goals as goal

-- a default for a symbol that is there
abbrev none : Sym
none = record { 0 = 0 }

pub returns-in_err-number : goal.returns-in_err-number
returns-in_err-number c =
    c.from_residual.ensures
    ∙ sym (number_off c.args.steps.now.entries c.args.symbols.now c.loop-symbol.symbol-index none c.loop-symbol-test.true c.loop-symbol.number (sym c.step_from.ensures ∙ c.in_err-number.was))
    ∙ c.loop-symbol.invariant

pub loop-symbol-preserved : goal.loop-symbol-preserved
loop-symbol-preserved c =
    number_on c.args.steps.now.entries c.args.symbols.now c.loop-symbol.symbol-index none c.loop-symbol-test.true c.loop-symbol.number c.in_ok-number.number (sym c.step_from.ensures ∙ c.in_ok-number.was)
    ∙ c.loop-symbol.invariant
