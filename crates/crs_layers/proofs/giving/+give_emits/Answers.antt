use Rattle.std.proofs.Common.{rules, ◌||◌, Bool, false, List, map, sym, subst}
use Rattle.std.specs.List.{AllByRecursion, flat_map}
use Rattle.crs_base.specs.declared.symbols.Sym.{Sym}
use Rattle.crs_base.specs.Entry.{Entry}
use Rattle.crs_model.specs.declared.chronicle.Emit.{Emit}
use Rattle.crs_model.specs.Renaming.{text_in, IsPatternOf}
use Rattle.crs_model.specs.SeenModels.{assignment_of, emit_of}
use Rattle.crs_layers.specs.Strata.{given_by}
use Rattle.crs_layers.specs.Giving.{AreDue, HaveTaken}
use Rattle.crs_layers.specs.Standing.{HasText}
use Rattle.crs_layers.proofs.Logging.{same_all, same_then}
use Rattle.crs_layers.proofs.Taking.{none_have, have_more, going_all, all_due_then, due_right, empty_is}
use Rattle.crs_layers.proofs.giving.+give_emits.Goals as goal

pub give_emits-requires : goal.give_emits-requires
give_emits-requires t c =
    let f = given_by (text_in c.args.symbols.now.texts) (assignment_of c.args.found.now) in
    let ys : List (Entry Sym) = f (emit_of c.in-Some.emit.now) in
    let zs : List (Entry Sym) = flat_map f (map emit_of c.in-Some.rest.now) in
    let first = c.in_ok-flood-in-Some.ensures.taken in
    let due = subst (λ (es : List Emit). AreDue c.args.above.now (flat_map f (map emit_of es))) c.in-Some.ensures.cases.0 c.requires.due in
    let patterns = subst (λ (es : List Emit). AllByRecursion (λ e. IsPatternOf (HasText c.args.symbols.now.texts) e.pattern) (map emit_of es)) c.in-Some.ensures.cases.0 c.requires.patterns in
    (search rules, (going_all ys c.args.above.now c.give_emit.new.above first.taken, (all_due_then ys c.args.above.now c.give_emit.new.above first.taken zs (due_right c.args.above.now ys zs due), (c.requires.whole, patterns.1))))

pub returns-in_err-more-in-Some-clause-same : goal.returns-in_err-more-in-Some-clause-same
returns-in_err-more-in-Some-clause-same t c = same_then c.args.above.now c.give_emit.new.above c.give_emits.new.above c.give_emit.ensures.same c.give_emits.ensures.same

pub returns-in-None-clause-same : goal.returns-in-None-clause-same
returns-in-None-clause-same t c = same_all c.args.above.now

pub returns-in-None-clause-taken : goal.returns-in-None-clause-taken
returns-in-None-clause-taken t c =
    let f = given_by (text_in c.args.symbols.now.texts) (assignment_of c.args.found.now) in
    subst (λ (es : List Emit). HaveTaken (flat_map f (map emit_of es)) c.args.above.now c.args.above.now false) (sym (empty_is c.args.emits.now c.in-None.ensures.cases))
    (none_have c.args.above.now c.requires.going)

pub returns-in_ok-more-in-Some-clause-same : goal.returns-in_ok-more-in-Some-clause-same
returns-in_ok-more-in-Some-clause-same t c = same_then c.args.above.now c.give_emit.new.above c.give_emits.new.above c.give_emit.ensures.same c.give_emits.ensures.same

pub returns-in_ok-more-in-Some-clause-taken : goal.returns-in_ok-more-in-Some-clause-taken
returns-in_ok-more-in-Some-clause-taken t c =
    let f = given_by (text_in c.args.symbols.now.texts) (assignment_of c.args.found.now) in
    let ys : List (Entry Sym) = f (emit_of c.in-Some.emit.now) in
    let zs : List (Entry Sym) = flat_map f (map emit_of c.in-Some.rest.now) in
    subst (λ (b : Bool). HaveTaken (flat_map f (map emit_of c.args.emits.now)) c.args.above.now c.give_emits.new.above b) (sym c.either.ensures)
    (subst (λ (es : List Emit). HaveTaken (flat_map f (map emit_of es)) c.args.above.now c.give_emits.new.above (c.in_ok-flood-in-Some.flood || c.in_ok-more-in-Some.more)) (sym c.in-Some.ensures.cases.0)
    (have_more ys zs c.args.above.now c.give_emit.new.above c.give_emits.new.above c.in_ok-flood-in-Some.flood c.in_ok-more-in-Some.more c.in_ok-flood-in-Some.ensures.taken c.in_ok-more-in-Some.ensures.taken))
