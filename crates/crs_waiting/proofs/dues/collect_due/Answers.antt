use Rattle.std.proofs.Common.{◌⊎◌, ◌<◌, List, sym, subst, arith}
use Rattle.std.proofs.lemmas.List.Sorted.{length_permutation}
use Rattle.crs_base.specs.Words.{IsIn}
use Rattle.crs_agenda.specs.declared.timed.Timed.{Timed}
use Rattle.crs_waiting.proofs.DuePairs.{collected_next}
use Rattle.crs_waiting.proofs.dues.collect_due.Goals as goal

pub returns-in_err-note_place-clause-noted : goal.returns-in_err-note_place-clause-noted
returns-in_err-note_place-clause-noted c = λ p i. c.note_place.ensures.kept p (c.loop-timed.invariant.noted p i)

pub loop-timed-smaller : goal.loop-timed-smaller
loop-timed-smaller c = omega (arith, length_permutation _ _ c.in-Some.ensures.rest)

pub loop-timed-preserved : goal.loop-timed-preserved
loop-timed-preserved c =
    collected_next c.args.h c.args.calendar.now.pairs c.args.places.now.items c.loop-timed.calendar c.due.new.self c.loop-timed.places.items c.note_place.new.places.items c.in-Some.timed c.loop-timed.invariant c.in-Some.ensures.rest ((c.in_ok-note_place.ensures {u = tt}).noted) c.note_place.ensures.kept c.due.ensures.within c.in-Some.ensures.date

pub returns-clause-collected : goal.returns-clause-collected
returns-clause-collected c = λ t i. subst (λ (ps : List Timed). IsIn t ps ⊎ ((t.date < c.args.h) × IsIn t.handle.place c.loop-timed.places.items)) (sym c.in_default.ensures.unchanged) (c.loop-timed.invariant.collected t i)
