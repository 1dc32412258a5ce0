use Rattle.std.proofs.Common.{ap, length, codes, ◌^◌}
use Rattle.crs_outcomes.specs.Loads.{IsTooLong, IsModelLine}
use Rattle.crs_outcomes.specs.Inputs.{bytes_of}
use Rattle.crs_outcomes.specs.ModelTexts.{IsRunFaulty}
use Rattle.crs_outcomes.specs.Most.{most_of}
use Rattle.crs_outcomes.proofs.Loads.{ends_weaker, ends_refused, long_is_run_faulty, all_taken}
use Rattle.crs_commands.proofs.Runs.{run_ended, run_followed}
use Rattle.crs_commands.proofs.running.recognise.Goals as goal

pub returns-in-Err-clause-told : goal.returns-in-Err-clause-told
returns-in-Err-clause-told g c = λ t.
    let models = bytes_of (g.D.Desk.told c.args.desk.now) c.args.models.now in
    let symbols = c.args.limits.symbols in
    run_ended _ _ _ _ (most_of c.args.limits) _ _ _ _ _
    (ends_weaker (2 ^ 20) (λ text. ⊥) (λ text. ⊥) (IsTooLong (2 ^ 20) (codes "model line 0 size\n") models) (IsModelLine (IsRunFaulty c.args.cite symbols models)) (λ text p. p)
    (long_is_run_faulty c.args.cite symbols models) _ _ _ _ _ _ (c.in-Err.ensures.told t))

pub returns-in-Ok-prepare-clause-told : goal.returns-in-Ok-prepare-clause-told
returns-in-Ok-prepare-clause-told g c = λ t.
    let h = c.in-Ok.ensures.told t in
    let p = rw (c.as_slice.ensures.value, h.2) at c.in-Ok-prepare.ensures.ok in
    let f = rw p.focus_is at (c.follow-status.ensures.told t p.frame p.represents) in
    let k = ap length h.2 in
    run_followed _ _ _ _ _ (most_of c.args.limits) p.frame (g.D.Desk.told c.args.desk.now)
    (g.D.Desk.told c.load.new.desk)
    (g.D.Desk.told c.follow-status.new.desk) c.args.models.now c.args.log.now _ f.0 f.1 f.2 h.0 f.3 c.follow-status.result h.1 k p.accepted f.4

pub returns-clause-told : goal.returns-clause-told
returns-clause-told g c = λ t.
    let h = c.in-Ok.ensures.told t in
    let models = bytes_of (g.D.Desk.told c.args.desk.now) c.args.models.now in
    let p = rw (c.as_slice.ensures.value, h.2) at c.in-Err-prepare.ensures.refused in
    run_ended _ _ _ _ (most_of c.args.limits) _ _ _ _ _
    (ends_refused _ _ (λ text. ⊥) (IsRunFaulty c.args.cite c.args.limits.symbols models) _ _ (g.D.Desk.told c.load.new.desk) _ _ _ _ _ (rw (← c.refuse.ensures.inputs) at h.1) (all_taken (2 ^ 20) models _ (ap length h.2) h.3)
    (λ line word e. rw e at p) (c.refuse.ensures.told t))
