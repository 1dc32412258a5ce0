use Rattle.std.proofs.Common.{◌≡◌, ◌∙◌, ◌++◌, ap, sym, subst, arith, eqb-true, List, ℕ, [], length}
use Rattle.std.proofs.lemmas.List.{nil_from_length}
use Rattle.crs_commands.proofs.Summing.{HasTaken, taken_none, taken_more, taken_all}
use Rattle.crs_commands.proofs.drilling.take_log.Goals as goal

pub loop-rest-init : goal.loop-rest-init
loop-rest-init c =
    let fed = ap (λ l. l.fed) c.in_ok-lines.ensures in
    record {
      ready = c.requires;
      short = ap (λ l. l.limit) c.in_ok-lines.ensures;
      open_still = ap (λ l. l.finished) c.in_ok-lines.ensures;
      fed = omega (arith, fed);
      taken = taken_none c.args.log.now c.args.session.now c.in_ok-lines.lines c.in_ok-lines.ensures;
    }

pub loop-rest-preserved : goal.loop-rest-preserved
loop-rest-preserved c =
    let i = c.loop-rest.invariant in
    let p = c.in_ok-take_piece.ensures in
    let parts = c.split_at.ensures in
    let whole : c.loop-rest.rest.now ≡ c.split_at.result.0.now ++ c.split_at.result.1.now = parts.by_index.0 in
    record {
      ready = (i.ready.0, _, (p.takes i.ready.0 i.ready.1 i.ready.2).state);
      short = p.limit ∙ i.short;
      open_still = p.finished ∙ i.open_still;
      fed = omega (arith, p.fed, i.fed, parts.front_len, parts.back_len);
      taken = taken_more c.args.log.now c.split_at.result.0.now c.split_at.result.1.now c.args.session.now c.loop-rest.session
          c.take_piece.new.session c.loop-rest.lines c.take_piece.new.lines _
          (subst (λ (rest : List ℕ). HasTaken c.args.log.now rest c.args.session.now c.loop-rest.lines c.loop-rest.session) whole i.taken) p;
    }

pub returns : goal.returns
returns c =
    let none : c.loop-rest.rest.now ≡ [] = nil_from_length c.loop-rest.rest.now (eqb-true (length c.loop-rest.rest.now) 0 (sym c.loop-rest-test.ensures)) in
    taken_all c.args.log.now c.args.session.now c.loop-rest.session c.take_rest.new.session c.loop-rest.lines _
    (subst (λ (rest : List ℕ). HasTaken c.args.log.now rest c.args.session.now c.loop-rest.lines c.loop-rest.session) none c.loop-rest.invariant.taken)
    c.in_ok-take_rest.ensures
