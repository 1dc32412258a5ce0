use Rattle.std.proofs.Common.{take, get_or, ap, ◌∙◌}
use Rattle.std.proofs.lemmas.List.{take_more}
use Rattle.crs_base.specs.declared.symbols.Sym.{Sym}
use Rattle.crs_history.specs.ListNumbers.{number_from}
use Rattle.crs_history.proofs.Numbering.{grows_on, number_kept, number_put}
use Rattle.crs_history.proofs.numbers.add_from.Goals as goal

-- a default for a symbol that is there
abbrev none : Sym
none = record { 0 = 0 }

pub returns-in_err-number-clause-grows : goal.returns-in_err-number-clause-grows
returns-in_err-number-clause-grows c = grows_on c.args.steps.now.entries c.loop-symbol.steps.entries c.add_step.new.steps.entries c.loop-symbol.invariant.grows c.add_step.ensures.grows

pub loop-symbol-preserved : goal.loop-symbol-preserved
loop-symbol-preserved c =
    let new = c.add_step.new.steps.entries in
    let i = c.loop-symbol.symbol-index in
    let s = get_or c.args.symbols.now i none in
    record {
      numbering = c.add_step.ensures.numbering;
      grows = grows_on c.args.steps.now.entries c.loop-symbol.steps.entries new c.loop-symbol.invariant.grows c.add_step.ensures.grows;
      told = c.add_step.ensures.told;
      here = c.add_step.ensures.numbering.within c.loop-symbol.number c.in_ok-number.number s c.in_ok-number.ensures.ok;
      led = ap (number_from new c.args.from) (take_more c.args.symbols.now i none c.loop-symbol-test.true)
          ∙ number_put new (take i c.args.symbols.now) c.args.from c.loop-symbol.number c.in_ok-number.number s
          (number_kept c.loop-symbol.steps.entries new c.add_step.ensures.grows (take i c.args.symbols.now) c.args.from c.loop-symbol.number c.loop-symbol.invariant.led) c.in_ok-number.ensures.ok;
    }
