use Rattle.std.proofs.Common.{rules, List, ℕ, subst}
use Rattle.crs_index.specs.Indexes.{Cleans}
use Rattle.crs_store.proofs.Noting.{noted_none, noted_next, noted_whole, cleans_keep, waits_noted}
use Rattle.crs_store.proofs.links.note_bucket.Goals as goal

pub loop-handle-init : goal.loop-handle-init
loop-handle-init c = noted_none c.args.places.now.items

pub returns-in_err-note_place-clause-fresh : goal.returns-in_err-note_place-clause-fresh
returns-in_err-note_place-clause-fresh c = cleans_keep c.args.waiting.now c.clean.new.self c.in-Some.number c.args.slots.now.serials (subst (λ (t : List ℕ). Cleans c.args.waiting.now c.clean.new.self c.in-Some.number t) c.serials.ensures.all c.clean.ensures)

pub returns-in_err-note_place-clause-kept : goal.returns-in_err-note_place-clause-kept
returns-in_err-note_place-clause-kept c = λ p i. c.note_place.ensures.kept p (c.loop-handle.invariant.kept p i)

pub loop-handle-preserved : goal.loop-handle-preserved
loop-handle-preserved c = noted_next c.bucket-handle-items.result.now c.loop-handle.handle-index (record { place = 0; serial = 0 }) c.args.places.now.items c.loop-handle.places.items c.note_place.new.places.items (search rules) c.loop-handle.invariant ((c.in_ok-note_place.ensures {u = tt}).noted) c.note_place.ensures.kept

pub returns-clause-fresh : goal.returns-clause-fresh
returns-clause-fresh c = cleans_keep c.args.waiting.now c.clean.new.self c.in-Some.number c.args.slots.now.serials (subst (λ (t : List ℕ). Cleans c.args.waiting.now c.clean.new.self c.in-Some.number t) c.serials.ensures.all c.clean.ensures)

pub returns-clause-kept : goal.returns-clause-kept
returns-clause-kept c = c.loop-handle.invariant.kept

pub returns-clause-noted : goal.returns-clause-noted
returns-clause-noted c = λ p fresh w.
    let a = noted_whole c.bucket-handle-items.result.now c.loop-handle.handle-index c.args.places.now.items c.loop-handle.places.items (search rules) c.loop-handle.invariant in
    waits_noted c.args.slots.now c.args.waiting.now c.clean.new.self c.in-Some.number c.args.key (search rules)
    (subst (λ (t : List ℕ). Cleans c.args.waiting.now c.clean.new.self c.in-Some.number t) c.serials.ensures.all c.clean.ensures) c.bucket-handle-items.result.now c.bucket-handle-items.ensures c.args.places.now.items c.loop-handle.places.items a p fresh w
