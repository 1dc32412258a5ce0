use Rattle.std.proofs.Common.{refl, sym, subst, arith}
use Rattle.std.proofs.lemmas.List.{length-map}
use Rattle.std.proofs.lemmas.Result.{IfOk-weaker}
use Rattle.crs_log.proofs.Numbered.{named_fits}
use Rattle.crs_log.specs.Items.{Happens}
use Rattle.crs_log.specs.Known.{Other, Named}
use Rattle.crs_log.specs.Run.{State, Outcome, after_ordered}
use Rattle.crs_log.specs.SeenItems.{event_seen, text_of}
use Rattle.crs_audit.specs.Runs.{Takes, TakesAll}
use Rattle.crs_audit.proofs.Reading.{stays, late_is, verdict_is}
use Rattle.crs_audit.proofs.taking.take_event.Goals as goal

pub accept_event-requires-clause-arity : goal.accept_event-requires-clause-arity
accept_event-requires-clause-arity c =
    let r = c.requires.ready.fits in
    let says = rw c.in-Ok-Name.field-0-is at c.in-Ok-Name.ensures.says in
    let few = (named_fits c.args.symbols.now.texts (event_seen c.args.line.now c.args.raw.now) c.args.names.now 0 c.in-Ok-Name.field-0-0 r.names_in r.arities says).1 in
    omega (arith, few, length-map c.args.raw.now.args (text_of c.args.line.now))

pub returns-then-raw-run-clause-taken : goal.returns-then-raw-run-clause-taken
returns-then-raw-run-clause-taken c = λ s fits sound.
    stays s c.args.names.now c.args.limit c.args.symbols.now c.args.run.now fits sound _ _ _
    (late_is s c.args.names.now c.args.limit c.args.symbols.now c.args.run.now fits sound (event_seen c.args.line.now c.args.raw.now) c.if-raw-run.true) refl refl

pub returns-in-Ok-Name-clause-taken : goal.returns-in-Ok-Name-clause-taken
returns-in-Ok-Name-clause-taken c =
    let e = event_seen c.args.line.now c.args.raw.now in
    let texts = c.args.symbols.now.texts in
    let says = rw c.in-Ok-Name.field-0-is at c.in-Ok-Name.ensures.says in
    IfOk-weaker c.accept_event.result _
    (λ _. TakesAll c.args.names.now c.args.limit c.args.symbols.now c.accept_event.new.symbols c.args.run.now c.accept_event.new.run (λ s st. after_ordered s st (Happens e)))
    (λ _ h s fits sound. subst (λ (a : State × Outcome). Takes s c.args.names.now c.args.limit c.args.symbols.now c.accept_event.new.symbols c.args.run.now c.accept_event.new.run a)
    (sym (verdict_is s c.args.names.now c.args.limit c.args.symbols.now c.args.run.now fits sound e (Named c.in-Ok-Name.field-0-0) c.if-raw-run.false says)) (h s fits sound))
    c.accept_event.ensures.taken

pub returns-in-Ok-Other-clause-taken : goal.returns-in-Ok-Other-clause-taken
returns-in-Ok-Other-clause-taken c = λ s fits sound.
    let e = event_seen c.args.line.now c.args.raw.now in
    stays s c.args.names.now c.args.limit c.args.symbols.now c.args.run.now fits sound _ _ _
    (verdict_is s c.args.names.now c.args.limit c.args.symbols.now c.args.run.now fits sound e Other c.if-raw-run.false (rw c.in-Ok-Other.field-0-is at c.in-Ok-Other.ensures.says)) refl refl
