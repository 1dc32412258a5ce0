use Rattle.std.proofs.Common.{◌<◌, ◌≤◌, ◌^◌, ◌∙◌, ℕ, Bool, cond, ap, sym, subst, arith}
use Rattle.crs_model.specs.declared.recognition.Mark.TheVariants.{Clock, Finish}
use Rattle.crs_engine.specs.Engines.{HasMoved}
use Rattle.crs_engine.proofs.Marking.{moved_forward}
use Rattle.crs_feeds.specs.Merged.{common}
use Rattle.crs_feeds.proofs.Horizons.{common_ended, common_open}
use Rattle.crs_feeds.proofs.rising.follow.Goals as goal

pub returns-then-have_all_ended-clause-at : goal.returns-then-have_all_ended-clause-at
returns-then-have_all_ended-clause-at g c =
    let all = common_ended c.args.feeds.now c.requires.each (sym c.have_all_ended.ensures ∙ c.if-have_all_ended.true) in
    let m = c.in_ok-list.ensures.moved in
    let low : c.args.engine.now.horizon ≤ 2 ^ 42 = subst (λ (n : ℕ). c.args.engine.now.horizon ≤ n) all c.requires.later in
    record {
      delay = m.same_delay ∙ c.requires.at.delay;
      last = m.clock ∙ sym all;
      horizon = moved_forward c.args.engine.now c.finish.new.self (2 ^ 42) (2 ^ 42) m low ∙ sym all;
    }

pub clock-requires : goal.clock-requires
clock-requires g c =
    subst (λ (n : ℕ). n < 2 ^ 40) (sym c.least-h.ensures) (common_open c.args.feeds.now c.requires.each (sym c.have_all_ended.ensures ∙ c.if-have_all_ended.false))

pub returns-then-have_all_ended-clause-risen : goal.returns-then-have_all_ended-clause-risen
returns-then-have_all_ended-clause-risen g c =
    let fs = c.args.feeds.now in
    let ended = sym c.have_all_ended.ensures ∙ c.if-have_all_ended.true in
    let all = common_ended fs c.requires.each ended in
    let old = c.args.engine.now in
    let new = c.finish.new.self in (
      omega arith,
      sym (ap (λ (b : Bool). cond b Finish (Clock (common fs))) ended),
      subst (λ (n : ℕ). HasMoved old new n n) (sym all) c.in_ok-list.ensures.moved,
      c.in_ok-list.ensures.marked,
    )
