use Rattle.std.proofs.Common.{◌+◌, Bool, List, take, sym, subst}
use Rattle.std.specs.List.{AllByRecursion, flat_map}
use Rattle.crs_base.specs.declared.symbols.Sym.{Sym}
use Rattle.crs_model.specs.Models.{Emit}
use Rattle.crs_model.specs.Renaming.{text_in, IsPatternOf}
use Rattle.crs_model.specs.SeenModels.{assignment_of}
use Rattle.crs_engine.specs.Engines.{plans_of}
use Rattle.crs_layers.specs.Strata.{given_by}
use Rattle.crs_layers.specs.Giving.{AreDue, HaveTaken, given_of}
use Rattle.crs_layers.specs.Standing.{HasText}
use Rattle.crs_layers.proofs.Logging.{same_all, same_then}
use Rattle.crs_layers.proofs.Taking.{none_have, going_all, all_due_then, due_at, have_next, emits_all}
use Rattle.crs_layers.proofs.giving.give_found.Goals as goal

pub loop-found-init : goal.loop-found-init
loop-found-init c = record {
  same = same_all c.args.above.now;
  taken = none_have c.args.above.now c.requires.going;
}

pub give_emits-requires-clause-going : goal.give_emits-requires-clause-going
give_emits-requires-clause-going c =
    let f = given_of (text_in c.args.symbols.now.texts) (plans_of c.args.plans.now) in
    going_all (flat_map f (take c.loop-found.found-index c.args.answer.now)) c.args.above.now c.loop-found.above c.loop-found.invariant.taken.taken

pub give_emits-requires-clause-due : goal.give_emits-requires-clause-due
give_emits-requires-clause-due c =
    let T = c.args.symbols.now.texts in
    let f = given_of (text_in T) (plans_of c.args.plans.now) in
    let i = c.loop-found.found-index in
    let x = c.found-item.result in
    subst (λ (es : List (Emit Sym)). AreDue c.loop-found.above (flat_map (given_by (text_in T) (assignment_of x)) es)) (sym c.emits_of-emits.ensures)
    (all_due_then (flat_map f (take i c.args.answer.now)) c.args.above.now c.loop-found.above c.loop-found.invariant.taken.taken (f x)
    (due_at f c.args.above.now c.args.answer.now i x c.loop-found-test.true c.found-item.is c.requires.due))

pub give_emits-requires-clause-patterns : goal.give_emits-requires-clause-patterns
give_emits-requires-clause-patterns c =
    let P = λ (e : Emit Sym). IsPatternOf (HasText c.args.symbols.now.texts) e.pattern in
    subst (AllByRecursion P) (sym c.emits_of-emits.ensures) (emits_all P (plans_of c.args.plans.now) c.found-item.result.chronicle c.requires.patterns)

pub returns-in_err-more-clause-same : goal.returns-in_err-more-clause-same
returns-in_err-more-clause-same c = same_then c.args.above.now c.loop-found.above c.give_emits.new.above c.loop-found.invariant.same c.give_emits.ensures.same

pub loop-found-preserved : goal.loop-found-preserved
loop-found-preserved c =
    let T = c.args.symbols.now.texts in
    let f = given_of (text_in T) (plans_of c.args.plans.now) in
    let i = c.loop-found.found-index in
    let x = c.found-item.result in
    let one = subst (λ (es : List (Emit Sym)). HaveTaken (flat_map (given_by (text_in T) (assignment_of x)) es) c.loop-found.above c.give_emits.new.above c.in_ok-more.more) c.emits_of-emits.ensures c.in_ok-more.ensures.taken in
    record {
      same = same_then c.args.above.now c.loop-found.above c.give_emits.new.above c.loop-found.invariant.same c.give_emits.ensures.same;
      taken = subst (λ (b : Bool). HaveTaken (flat_map f (take (i + 1) c.args.answer.now)) c.args.above.now c.give_emits.new.above b) (sym c.either-flood.ensures)
          (have_next f c.args.answer.now i x c.args.above.now c.loop-found.above c.give_emits.new.above c.loop-found.flood c.in_ok-more.more c.loop-found-test.true c.found-item.is c.loop-found.invariant.taken one);
    }
