use Rattle.std.proofs.Common.{rules, ◌≡◌, ℕ, ◌+◌, ◌-◌, ◌<◌, min, length, refl, ◌∙◌, ap, arith, length-take-le, inl, inr}
use Rattle.std.proofs.lemmas.Grind.{common_steps}
use Rattle.std.proofs.lemmas.List.{take-append-le}
use Rattle.crs_outcomes.specs.declared.status.Status.TheVariants.{WriteFault, Memory}
use Rattle.crs_commands.proofs.LogReading.{reading_none, reading_more, stop_before, stop_failed, stop_refused, stop_long, stop_write, stop_piece, end_by}
use Rattle.crs_commands.proofs.log.read_log.Goals as goal

opened_below : (log inputs n : ℕ) → log < inputs → n ≡ inputs → log < n
opened_below log inputs n h e = omega arith

pub loop-taken-init : goal.loop-taken-init
loop-taken-init g c = record {
  inputs = refl;
  reading = omega arith;
  writing = omega arith;
  within = omega arith;
  ready = c.requires.ready;
  short = ap (λ l. l.limit) c.in-Ok.ensures;
  open_still = ap (λ l. l.finished) c.in-Ok.ensures;
  fed = ap (λ l. l.fed) c.in-Ok.ensures;
  told = λ t f r. reading_none _ f _ c.args.log c.args.limit c.args.session.now c.in-Ok.lines r c.requires.uncounted c.in-Ok.ensures;
}

pub returns-in-Err-Failed-clause-told : goal.returns-in-Err-Failed-clause-told
returns-in-Err-Failed-clause-told g c = λ t f r.
    stop_failed c.args.session.now.layers.focus c.args.summary _ _ f _ c.args.log (opened_below _ _ _ c.requires.opened (g.met.D.Desk.places c.args.desk.now t)) (c.requires.fresh t)
    (g.D.Desk.told c.loop-taken.desk) _ c.args.limit _ c.loop-taken.session c.loop-taken.lines _
    (c.loop-taken.invariant.told t f r) (rw c.in-Err-Failed.field-0-is at (c.in-Err-Failed.ensures.told t)) (grind (arith, common_steps)) c.loop-taken-test.true

pub returns-in-Err-Memory-clause-told : goal.returns-in-Err-Memory-clause-told
returns-in-Err-Memory-clause-told g c = λ t f r.
    stop_refused c.args.session.now.layers.focus c.args.summary _ _ f _ c.args.log (opened_below _ _ _ c.requires.opened (g.met.D.Desk.places c.args.desk.now t)) (c.requires.fresh t)
    (g.D.Desk.told c.loop-taken.desk) _ c.args.limit _ c.loop-taken.session c.loop-taken.lines _
    (c.loop-taken.invariant.told t f r) (rw c.in-Err-Memory.field-0-is at (c.in-Err-Memory.ensures.told t))

pub returns-then-count-eq0-clause-told : goal.returns-then-count-eq0-clause-told
returns-then-count-eq0-clause-told g c = λ t f r.
    end_by c.args.session.now.layers.focus c.args.summary _ _ f _ (g.D.Desk.told c.loop-taken.desk)
    (g.D.Desk.told c.read.new.self) _ c.args.log c.args.limit _ _ c.loop-taken.session c.loop-taken.lines _ c.finish.result
    (opened_below _ _ _ c.requires.opened (g.met.D.Desk.places c.args.desk.now t)) (c.requires.fresh t) (c.loop-taken.invariant.told t f r) (c.in-Ok-read.ensures.told t) (grind (arith, common_steps)) c.if-count-eq0.true c.loop-taken-test.true (c.finish.ensures.told t)

pub returns-in-Err-Failed-write_all-clause-told : goal.returns-in-Err-Failed-write_all-clause-told
returns-in-Err-Failed-write_all-clause-told g c = λ t f r.
    let few = c.in-Ok-read.ensures.count in
    let w = rw c.as_slice.ensures.value at (c.in-Err-Failed-write_all.ensures.told t) in
    stop_write c.args.session.now.layers.focus c.args.summary _ _ f _ c.args.log (opened_below _ _ _ c.requires.opened (g.met.D.Desk.places c.args.desk.now t)) (c.requires.fresh t)
    _ (g.D.Desk.told c.loop-taken.desk)
    (g.D.Desk.told c.read.new.self) _ c.args.limit _ _ c.loop-taken.session c.tell_piece.new.session c.loop-taken.lines c.tell_piece.new.lines _ _ WriteFault
    (inl refl) (c.loop-taken.invariant.told t f r) (c.in-Ok-read.ensures.told t) (grind (arith, common_steps)) few (omega arith) (rw take-append-le at c.in-Ok-tell_piece.ensures) w.0 w.1

pub returns-in-Err-Memory-write_all-clause-told : goal.returns-in-Err-Memory-write_all-clause-told
returns-in-Err-Memory-write_all-clause-told g c = λ t f r.
    let few = c.in-Ok-read.ensures.count in
    let w = rw c.as_slice.ensures.value at (c.in-Err-Memory-write_all.ensures.told t) in
    stop_write c.args.session.now.layers.focus c.args.summary _ _ f _ c.args.log (opened_below _ _ _ c.requires.opened (g.met.D.Desk.places c.args.desk.now t)) (c.requires.fresh t)
    _ (g.D.Desk.told c.loop-taken.desk)
    (g.D.Desk.told c.read.new.self) _ c.args.limit _ _ c.loop-taken.session c.tell_piece.new.session c.loop-taken.lines c.tell_piece.new.lines _ _ Memory
    (inr refl) (c.loop-taken.invariant.told t f r) (c.in-Ok-read.ensures.told t) (grind (arith, common_steps)) few (omega arith) (rw take-append-le at c.in-Ok-tell_piece.ensures) w.0 w.1

pub loop-taken-preserved : goal.loop-taken-preserved
loop-taken-preserved g c =
    let few = c.in-Ok-read.ensures.count in
    let some : 0 < c.in-Ok-read.count = omega arith in
    let room : length c.read.new.buf ≡ min 4096 (c.args.limit - c.loop-taken.taken) = grind (arith, common_steps) in
    let p = rw take-append-le at c.in-Ok-tell_piece.ensures in
    let q = p.piece_is in
    let i = c.loop-taken.invariant in
    record {
      inputs = search rules;
      reading = omega arith;
      writing = omega arith;
      within = grind (arith, common_steps, few);
      ready = (i.ready.0, _, (q.takes i.ready.0 i.ready.1 i.ready.2).state);
      short = q.limit ∙ i.short;
      open_still = q.finished ∙ i.open_still;
      fed = q.fed ∙ (λ j. i.fed j + length-take-le c.in-Ok-read.count c.read.new.buf few j);
      told = λ t f r. reading_more c.args.session.now.layers.focus c.args.summary _ _ f _ c.args.log (opened_below _ _ _ c.requires.opened (g.met.D.Desk.places c.args.desk.now t))
          (c.requires.fresh t) _ (g.D.Desk.told c.loop-taken.desk)
          (g.D.Desk.told c.read.new.self) _ c.args.limit _ _ c.loop-taken.session c.tell_piece.new.session c.loop-taken.lines c.tell_piece.new.lines _ _
          (i.told t f r) (c.in-Ok-read.ensures.told t) room few some p
          (rw c.as_slice.ensures.value at (c.in-Ok-write_all.ensures.told t));
    }

pub returns-clause-told : goal.returns-clause-told
returns-clause-told g c = λ t f r. stop_long c.args.session.now.layers.focus c.args.summary _ _ f _ c.args.log (opened_below _ _ _ c.requires.opened (g.met.D.Desk.places c.args.desk.now t))
    (c.requires.fresh t) _ c.args.limit _ c.loop-taken.session c.loop-taken.lines (c.loop-taken.invariant.told t f r) (omega arith)

pub returns-in_default-clause-told : goal.returns-in_default-clause-told
returns-in_default-clause-told g c = λ t f r. stop_before c.args.session.now.layers.focus c.args.summary _ f _ c.args.log c.args.limit

pub returns-in_default-tell_piece-clause-told : goal.returns-in_default-tell_piece-clause-told
returns-in_default-tell_piece-clause-told g c = λ t f r.
    stop_piece c.args.session.now.layers.focus c.args.summary _ _ f _ c.args.log (opened_below _ _ _ c.requires.opened (g.met.D.Desk.places c.args.desk.now t)) (c.requires.fresh t)
    (g.D.Desk.told c.loop-taken.desk) (g.D.Desk.told c.read.new.self) c.args.limit _ _ c.loop-taken.session c.loop-taken.lines _
    (c.loop-taken.invariant.told t f r) (c.in-Ok-read.ensures.told t) (grind (arith, common_steps)) c.in-Ok-read.ensures.count (omega arith)
