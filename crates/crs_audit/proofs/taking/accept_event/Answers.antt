use Rattle.std.proofs.Common.{◌≤◌, ◌<◌, ◌∙◌, refl, sym, arith, length, take, ap, subst, ◌≡◌, List}
use Rattle.std.specs.declared.rc.Rc.{Rc}
use Rattle.std.proofs.Common.{Global}
use Rattle.std.proofs.lemmas.Result.{IfOk-weaker}
use Rattle.crs_base.specs.declared.entry.Entry.{Entry as CodeEntry}
use Rattle.crs_base.specs.Symbols.{Table}
use Rattle.crs_log.specs.Known.{entry_of_event, texts_of}
use Rattle.crs_log.specs.SeenNames.{entry_seen, IsEntryIn}
use Rattle.crs_log.specs.Run.{after_named}
use Rattle.crs_log.specs.SeenItems.{event_seen}
use Rattle.crs_audit.specs.Runs.{Takes, TakesAll, state_seen}
use Rattle.crs_audit.specs.LogTexts.{IsTextIn}
use Rattle.crs_audit.proofs.Gaining.{gains_texts, texts_in_line, first_in_line}
use Rattle.crs_audit.proofs.Reading.{stays, full_is, values_is, accepts}
use Rattle.crs_audit.proofs.taking.accept_event.Goals as goal

pub returns-then-limit-count-clause-taken : goal.returns-then-limit-count-clause-taken
returns-then-limit-count-clause-taken c = λ s fits sound.
    stays s c.args.names.now c.args.limit c.args.symbols.now c.args.run.now fits sound _ _ _
    (full_is s c.args.names.now c.args.limit c.args.symbols.now c.args.run.now fits sound (event_seen c.args.line.now c.args.raw.now)
    (let le : c.args.limit ≤ length c.args.run.now.entries = omega (arith, c.if-limit-count.true, c.len-count.ensures) in le)) refl refl

pub returns-in-Err-Values-clause-taken : goal.returns-in-Err-Values-clause-taken
returns-in-Err-Values-clause-taken c =
    let why = rw c.in-Err-Values.field-0-is at c.in-Err-Values.ensures.err in
    let e = event_seen c.args.line.now c.args.raw.now in
    let lt : length c.args.run.now.entries < c.args.limit = omega (arith, c.if-limit-count.false, c.len-count.ensures) in
    λ s fits sound. subst (λ (u : Table). Takes s c.args.names.now c.args.limit c.args.symbols.now u c.args.run.now c.args.run.now
    (after_named s (state_seen c.args.symbols.now.texts c.args.run.now) e)) (sym why.1)
    (stays s c.args.names.now c.args.limit c.args.symbols.now c.args.run.now fits sound _ _ _
    (values_is s c.args.names.now c.args.limit c.args.symbols.now c.args.run.now fits sound e lt why.2) refl refl)

pub returns-in_ok-new-in-Ok-clause-taken : goal.returns-in_ok-new-in-Ok-clause-taken
returns-in_ok-new-in-Ok-clause-taken c =
    let x = c.args.run.now in
    let e = event_seen c.args.line.now c.args.raw.now in
    let r = c.in_ok-new-in-Ok.field-0 in
    let new = c.make_named.new.symbols in
    let lt : length x.entries < c.args.limit = omega (arith, c.if-limit-count.false, c.len-count.ensures) in
    let seen : entry_seen new.texts r.value ≡ entry_of_event (length x.entries) e =
    ap (entry_seen new.texts) c.in_ok-new-in-Ok.ensures.ok ∙ c.in-Ok.ensures.entry ∙ ap (λ n. entry_of_event n e) c.len-count.ensures in
    let known : IsEntryIn new.texts r.value = subst (IsEntryIn new.texts) (sym c.in_ok-new-in-Ok.ensures.ok) c.in-Ok.ensures.within in
    IfOk-weaker c.push.result _
    (λ _. TakesAll c.args.names.now c.args.limit c.args.symbols.now new x (record x { entries = c.push.new.self }) (λ s st. after_named s st e))
    (λ _ h s fits sound. subst (λ (es : List (Rc CodeEntry Global)). Takes s c.args.names.now c.args.limit c.args.symbols.now new x (record x { entries = es })
    (after_named s (state_seen c.args.symbols.now.texts x) e)) (sym h)
    (accepts s c.args.names.now c.args.limit c.args.symbols.now x fits sound e new r lt c.in-Ok.ensures.room c.in-Ok.ensures.texts c.in-Ok.ensures.limit seen known c.requires.date))
    c.push.ensures.ok

pub returns-in_err-new-in-Ok-clause-gained : goal.returns-in_err-new-in-Ok-clause-gained
returns-in_err-new-in-Ok-clause-gained c =
    let e = event_seen c.args.line.now c.args.raw.now in
    gains_texts (IsTextIn c.args.line.now) c.args.symbols.now c.make_named.new.symbols (texts_of e) c.in-Ok.ensures.texts c.in-Ok.ensures.limit
    (texts_in_line c.args.line.now e c.requires.item)

pub returns-in_ok-new-in-Ok-clause-gained : goal.returns-in_ok-new-in-Ok-clause-gained
returns-in_ok-new-in-Ok-clause-gained c =
    let e = event_seen c.args.line.now c.args.raw.now in
    gains_texts (IsTextIn c.args.line.now) c.args.symbols.now c.make_named.new.symbols (texts_of e) c.in-Ok.ensures.texts c.in-Ok.ensures.limit
    (texts_in_line c.args.line.now e c.requires.item)

pub returns-in-Err-Memory-clause-gained : goal.returns-in-Err-Memory-clause-gained
returns-in-Err-Memory-clause-gained c =
    let why = rw c.in-Err-Memory.field-0-is at c.in-Err-Memory.ensures.err in
    let e = event_seen c.args.line.now c.args.raw.now in
    gains_texts (IsTextIn c.args.line.now) c.args.symbols.now c.make_named.new.symbols (take why.0 (texts_of e)) why.1 c.in-Err-Memory.ensures.limit
    (first_in_line c.args.line.now e c.requires.item why.0)
