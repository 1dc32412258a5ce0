use Rattle.std.proofs.Common.{◌≡◌, refl, ap, sym, ◌∙◌, subst}
use Rattle.std.specs.Prelude.{Option, None}
use Rattle.std.proofs.lemmas.Result.{on_ok_weaker}
use Rattle.crs_base.specs.declared.symbols.Sym.{Sym}
use Rattle.crs_index.specs.declared.key.Key.{Key}
use Rattle.crs_waiting.specs.declared.hooks.Pick.{Pick}
use Rattle.crs_store.specs.Forkings.{AreCandidates}
use Rattle.crs_waiting.specs.Hooks.{key_with, picked_argument, picked_arguments}
use Rattle.crs_store.proofs.Parting.{none_there, alone_tried, none_tried}
use Rattle.crs_store.proofs.scanning.candidates.note_candidates.Goals as goal

pub returns-clause-noted : goal.returns-clause-noted
returns-clause-noted c =
    let e = c.args.wanted.now.event in
    let d = c.args.wanted.now.date in
    let args = c.args.entry.now.args in
    let lone = c.if-not-is_lone.ensures in
    let having : c.key_of_first.result ≡ key_with e (record { first = picked_argument c.args.hook.now.first args; second = None; third = None }) = c.key_of_first.ensures ∙ ap (λ (s : Option Sym). key_with e (record { first = s; second = None; third = None })) c.argument_in-symbol.ensures in
    on_ok_weaker c.note_able_bucket-2.result
    (λ noted. alone_tried c.args.slots.now c.args.waiting.now c.note_able_bucket.new.waiting (picked_arguments c.args.hook.now args) e d c.args.wanted.now.symbols c.note_able_bucket.new.places.items c.note_able_bucket-2.new.places.items
    (ap (λ (o : Option Pick). picked_argument o args) (lone.second refl)) (ap (λ (o : Option Pick). picked_argument o args) (lone.third refl)) c.note_able_bucket.ensures.standing c.note_able_bucket-2.ensures.kept
    (subst (λ (k : Key). AreCandidates c.args.slots.now c.args.waiting.now k e d c.args.wanted.now.symbols c.note_able_bucket.new.places.items) c.key_of_first-lacking.ensures ((c.in_ok-note_able_bucket.ensures {u = tt}).noted))
    (subst (λ (k : Key). AreCandidates c.args.slots.now c.note_able_bucket.new.waiting k e d c.args.wanted.now.symbols c.note_able_bucket-2.new.places.items) having noted))
    c.note_able_bucket-2.ensures.noted

pub returns-then-is_none-clause-noted : goal.returns-then-is_none-clause-noted
returns-then-is_none-clause-noted c =
    let e = c.args.wanted.now.event in
    let d = c.args.wanted.now.date in
    let args = c.args.entry.now.args in
    let lone = c.if-not-is_lone.ensures in
    none_tried c.args.slots.now c.args.waiting.now (picked_arguments c.args.hook.now args) e d c.args.wanted.now.symbols c.note_able_bucket.new.places.items
    (sym c.argument_in-symbol.ensures ∙ none_there c.argument_in-symbol.result (c.if-is_none.ensures {u = tt})) (ap (λ (o : Option Pick). picked_argument o args) (lone.second refl)) (ap (λ (o : Option Pick). picked_argument o args) (lone.third refl))
    (subst (λ (k : Key). AreCandidates c.args.slots.now c.args.waiting.now k e d c.args.wanted.now.symbols c.note_able_bucket.new.places.items) c.key_of_first-lacking.ensures ((c.in_ok-note_able_bucket.ensures {u = tt}).noted))
