use Rattle.std.proofs.Common.{◌≡◌, ◌+◌, length, refl, subst, arith}
use Rattle.crs_audit.specs.Rounds.{date_in}
use Rattle.crs_audit.proofs.Given.{given, given_there, given_not}
use Rattle.crs_audit.proofs.Near.{all_near_up}
use Rattle.crs_audit.proofs.MeetingBounds.{at_first, one_round, too_many, broken_off, all_kept}
use Rattle.crs_audit.proofs.bounds.meet_bounds.Goals as goal

pub loop-round-init : goal.loop-round-init
loop-round-init c = record {
  after = at_first c.args.bounds.now (length c.args.entries.now) (given c.args.entries.now) (date_in c.dates_at-dates.result.of) c.dates_at-dates.ensures.same;
  near = c.dates_at-dates.ensures.near;
}

pub loop-round-preserved : goal.loop-round-preserved
loop-round-preserved c =
    let es = c.args.entries.now in
    record {
      after = one_round c.args.bounds.now c.requires.within (length es) (given es) (given_there es) (given_not es) c.loop-round.round
          (date_in c.loop-round.dates.of) (date_in c.raise_all.new.dates.of) c.loop-round.invariant.after c.in-Raised.ensures.raising;
      near = all_near_up (c.loop-round.round + 2) (c.loop-round.round + 1 + 1) c.raise_all.new.dates.of (omega arith) c.in-Raised.ensures.near;
    }

pub returns-in-Kept : goal.returns-in-Kept
returns-in-Kept c =
    let es = c.args.entries.now in (
      (λ t. all_kept c.args.bounds.now c.requires.within (length es) (given es) (given_there es) (given_not es) c.loop-round.round
          (date_in c.loop-round.dates.of) (date_in c.raise_all.new.dates.of) c.requires.consistent c.loop-round.invariant.after c.in-Kept.ensures.raising),
      (λ m. refl),
    )

pub returns-in-Failed : goal.returns-in-Failed
returns-in-Failed c =
    let es = c.args.entries.now in (
      (λ t. absurd cc),
      (λ m. absurd (broken_off c.args.bounds.now c.requires.within (length es) (given es) (given_there es) (given_not es) c.loop-round.round
          (date_in c.loop-round.dates.of) (date_in c.raise_all.new.dates.of) c.loop-round.invariant.after c.in-Failed.ensures.raising m)),
    )

pub returns : goal.returns
returns c =
    let es = c.args.entries.now in
    let n : c.loop-round.round ≡ 25 = omega (arith, c.loop-round-test.false) in (
      (λ t. absurd cc),
      (λ m. absurd (too_many c.args.bounds.now c.requires.within (length es) (given es) (given_there es) (given_not es) (date_in c.loop-round.dates.of)
          (subst (λ k. Rattle.crs_audit.proofs.MeetingBounds.IsAfter c.args.bounds.now (length es) (given es) k (date_in c.loop-round.dates.of)) n c.loop-round.invariant.after) m)),
    )
