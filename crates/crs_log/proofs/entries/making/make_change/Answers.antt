use Rattle.std.proofs.Common.{◌≡◌, ◌≤◌, ◌<◌, ◌+◌, ◌∙◌, sym, ap, subst, map, length}
use Rattle.std.proofs.lemmas.List.{length-map}
use Rattle.crs_base.specs.Symbols.{text_at}
use Rattle.crs_log.specs.SeenItems.{text_of, event_seen}
use Rattle.crs_model.specs.Renaming.{text_in}
use Rattle.crs_model.specs.Renaming.{AreKnown}
use Rattle.crs_log.specs.Known.{texts_of, new_texts}
use Rattle.crs_log.proofs.Parts.{kept_all, count_of, room_left, symbols_of_item}
use Rattle.crs_log.specs.Items.{AreSymbols}
use Rattle.crs_log.proofs.entries.making.make_change.Goals as goal

pub intern_all-requires-clause-room : goal.intern_all-requires-clause-room
intern_all-requires-clause-room c =
    let T = c.args.symbols.now.texts in let f = text_of c.args.line.now in
    subst (λ xs. length T + length (new_texts T (map f xs)) ≤ c.args.symbols.now.limit) (c.as_slice.ensures ∙ sym c.as_slice-2.ensures)
    (room_left (length (new_texts T (map f c.as_slice.result.now))) (length T) c.args.symbols.now.limit c.room-room.result c.room-room.ensures.value c.room-room.ensures.within (c.are_beyond.ensures.no c.if-are_beyond.false))

pub entry_with-requires-clause-count : goal.entry_with-requires-clause-count
entry_with-requires-clause-count c =
    let f = text_of c.args.line.now in
    ap length c.as_slice-3.ensures
    ∙ sym (length-map c.in-Ok-intern_all.numbers.items (text_in c.intern_all.new.symbols.texts)) ∙ ap length c.in-Ok-intern_all.ensures.numbers
    ∙ ap (λ xs. length (map f xs)) c.as_slice-2.ensures
    ∙ ap length (c.in-Ok.ensures.texts c.args.line.now) ∙ count_of c.args.line.now c.args.raw.now

pub returns-clause-entry : goal.returns-clause-entry
returns-clause-entry c =
    let T = c.args.symbols.now.texts in let f = text_of c.args.line.now in
    let ts = texts_of (event_seen c.args.line.now c.args.raw.now) in
    let spans : map f c.as_slice-2.result.now ≡ ts = ap (map f) c.as_slice-2.ensures ∙ c.in-Ok.ensures.texts c.args.line.now in
    let k = kept_all (map f c.as_slice-2.result.now) T c.args.name.0 c.requires.name.0 in
    c.entry_with.ensures.entry c.args.line.now c.intern_all.new.symbols.texts
    (ap (λ U. text_at U c.args.name.0) c.in-Ok-intern_all.ensures.texts ∙ k.1 ∙ c.requires.name.1)
    (ap (map (text_in c.intern_all.new.symbols.texts)) c.as_slice-3.ensures ∙ c.in-Ok-intern_all.ensures.numbers ∙ spans)
    c.requires.text

pub returns-clause-within : goal.returns-clause-within
returns-clause-within c =
    let T = c.args.symbols.now.texts in let f = text_of c.args.line.now in
    let k = kept_all (map f c.as_slice-2.result.now) T c.args.name.0 c.requires.name.0 in
    c.entry_with.ensures.within c.intern_all.new.symbols.texts
    (subst (λ U. c.args.name.0 < length U) (sym c.in-Ok-intern_all.ensures.texts) k.0)
    (subst (λ ss. AreKnown c.intern_all.new.symbols.texts ss) (sym c.as_slice-3.ensures) c.in-Ok-intern_all.ensures.within)

pub returns-clause-room : goal.returns-clause-room
returns-clause-room c =
    let T = c.args.symbols.now.texts in let f = text_of c.args.line.now in
    subst (λ ts. length T + length (new_texts T ts) ≤ c.args.symbols.now.limit) (ap (map f) c.as_slice.ensures ∙ c.in-Ok.ensures.texts c.args.line.now)
    (room_left (length (new_texts T (map f c.as_slice.result.now))) (length T) c.args.symbols.now.limit c.room-room.result c.room-room.ensures.value c.room-room.ensures.within (c.are_beyond.ensures.no c.if-are_beyond.false))

pub intern_all-requires-clause-symbols : goal.intern_all-requires-clause-symbols
intern_all-requires-clause-symbols c =
    subst AreSymbols (sym (ap (map (text_of c.args.line.now)) c.as_slice-2.ensures ∙ c.in-Ok.ensures.texts c.args.line.now))
    (symbols_of_item c.args.line.now (event_seen c.args.line.now c.args.raw.now) c.requires.item)
