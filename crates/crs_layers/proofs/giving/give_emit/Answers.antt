use Rattle.std.proofs.Common.{◌∙◌, false, List, map, sym, ap, subst}
use Rattle.std.specs.Prelude.{IfOk}
use Rattle.crs_base.specs.declared.symbols.Sym.{Sym}
use Rattle.crs_base.specs.Entry.{Entry}
use Rattle.crs_base.specs.Seen.{entry_of}
use Rattle.crs_model.specs.Renaming.{text_in}
use Rattle.crs_model.specs.SeenModels.{emit_of, given, term_of}
use Rattle.crs_layers.specs.Strata.{entry_by}
use Rattle.crs_layers.specs.Giving.{AreDue, HaveTaken}
use Rattle.crs_layers.proofs.Logging.{same_all}
use Rattle.crs_layers.proofs.Taking.{none_have, terms_known, emit_gives, emit_gives_none}
use Rattle.crs_layers.proofs.giving.give_emit.Goals as goal

pub emitted-requires-clause-known : goal.emitted-requires-clause-known
emitted-requires-clause-known c =
    terms_known c.args.symbols.now.texts (given c.args.found.now.binding) (map term_of c.args.emit.now.pattern.terms) c.requires.whole.known c.requires.pattern.terms

pub returns-in_err-entry-in-Some-clause-same : goal.returns-in_err-entry-in-Some-clause-same
returns-in_err-entry-in-Some-clause-same c = same_all c.args.above.now

pub give_all-requires-clause-due : goal.give_all-requires-clause-due
give_all-requires-clause-due c =
    let f = text_in c.args.symbols.now.texts in
    let is = emit_gives f c.args.found.now c.args.emit.now c.in-Some.bound.now (entry_of c.in_ok-entry-in-Some.entry) (sym c.in-Some.ensures)
    (c.in_ok-entry-in-Some.ensures ∙ ap (λ e. entry_by f (given c.args.found.now.binding) (emit_of c.args.emit.now) (entry_of e)) c.deref.ensures) in
    (subst (AreDue c.args.above.now) is c.requires.due).0.0

pub give_all-requires-clause-date : goal.give_all-requires-clause-date
give_all-requires-clause-date c =
    let f = text_in c.args.symbols.now.texts in
    let is = emit_gives f c.args.found.now c.args.emit.now c.in-Some.bound.now (entry_of c.in_ok-entry-in-Some.entry) (sym c.in-Some.ensures)
    (c.in_ok-entry-in-Some.ensures ∙ ap (λ e. entry_by f (given c.args.found.now.binding) (emit_of c.args.emit.now) (entry_of e)) c.deref.ensures) in
    (subst (AreDue c.args.above.now) is c.requires.due).0.1

pub returns-in-None-clause-same : goal.returns-in-None-clause-same
returns-in-None-clause-same c = same_all c.args.above.now

pub returns-in-None-clause-taken : goal.returns-in-None-clause-taken
returns-in-None-clause-taken c =
    subst (λ (ys : List (Entry Sym)). HaveTaken ys c.args.above.now c.args.above.now false) (sym (emit_gives_none (text_in c.args.symbols.now.texts) c.args.found.now c.args.emit.now (sym c.in-None.ensures)))
    (none_have c.args.above.now c.requires.going)

pub returns-in_ok-entry-in-Some-clause-taken : goal.returns-in_ok-entry-in-Some-clause-taken
returns-in_ok-entry-in-Some-clause-taken c =
    let f = text_in c.args.symbols.now.texts in
    let is = emit_gives f c.args.found.now c.args.emit.now c.in-Some.bound.now (entry_of c.in_ok-entry-in-Some.entry) (sym c.in-Some.ensures)
    (c.in_ok-entry-in-Some.ensures ∙ ap (λ e. entry_by f (given c.args.found.now.binding) (emit_of c.args.emit.now) (entry_of e)) c.deref.ensures) in
    subst (λ (ys : List (Entry Sym)). IfOk c.give_all.result (HaveTaken ys c.args.above.now c.give_all.new.above)) (sym is) c.give_all.ensures.taken
