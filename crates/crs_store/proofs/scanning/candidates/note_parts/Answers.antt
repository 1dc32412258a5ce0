use Rattle.std.proofs.Common.{subst, ap, ◌∙◌, ◌≡◌, arith}
use Rattle.crs_index.specs.declared.key.Key.{Key}
use Rattle.crs_store.specs.Forkings.{AreCandidates}
use Rattle.crs_waiting.specs.Hooks.{key_with, part_of}
use Rattle.crs_store.proofs.Parting.{parts_none, parts_more, parts_whole}
use Rattle.crs_store.proofs.scanning.candidates.note_parts.Goals as goal

pub loop-number-init : goal.loop-number-init
loop-number-init c = parts_none c.args.slots.now c.args.symbols c.args.wanted.now.event c.args.wanted.now.date c.args.wanted.now.symbols c.args.waiting.now c.args.places.now.items

pub returns-in_err-note_able_bucket-clause-fresh : goal.returns-in_err-note_able_bucket-clause-fresh
returns-in_err-note_able_bucket-clause-fresh c = λ k h f i. c.note_able_bucket.ensures.fresh k h f (c.loop-number.invariant.fresh k h f i)

pub returns-in_err-note_able_bucket-clause-standing : goal.returns-in_err-note_able_bucket-clause-standing
returns-in_err-note_able_bucket-clause-standing c = λ k p i s w. c.note_able_bucket.ensures.standing k p i s (c.loop-number.invariant.standing k p i s w)

pub loop-number-preserved : goal.loop-number-preserved
loop-number-preserved c =
    let key : c.key_of_symbols-key.result ≡ key_with c.args.wanted.now.event (part_of c.args.symbols c.loop-number.number) = c.key_of_symbols-key.ensures ∙ ap (key_with c.args.wanted.now.event) c.part_of_symbols.ensures in
    parts_more c.args.slots.now c.args.symbols c.args.wanted.now.event c.args.wanted.now.date c.args.wanted.now.symbols c.args.waiting.now c.args.places.now.items c.loop-number.number c.loop-number.waiting c.note_able_bucket.new.waiting c.loop-number.places.items c.note_able_bucket.new.places.items c.loop-number.invariant c.note_able_bucket.ensures.fresh c.note_able_bucket.ensures.standing c.note_able_bucket.ensures.kept
    (subst (λ (k : Key). AreCandidates c.args.slots.now c.loop-number.waiting k c.args.wanted.now.event c.args.wanted.now.date c.args.wanted.now.symbols c.note_able_bucket.new.places.items) key ((c.in_ok-note_able_bucket.ensures {u = tt}).noted))

pub returns-clause-noted : goal.returns-clause-noted
returns-clause-noted c = parts_whole c.args.slots.now c.args.symbols c.args.wanted.now.event c.args.wanted.now.date c.args.wanted.now.symbols c.args.waiting.now c.args.places.now.items c.loop-number.number c.loop-number.waiting c.loop-number.places.items c.loop-number.invariant
    (λ each is. let k = c.parts_of_symbols-number-end.ensures each is in let l = c.loop-number-test.false in (k.0, (let b = k.1 in omega arith), k.2))
