use Rattle.std.proofs.Common.{ap, arith, length, codes, map, ◌^◌}
use Rattle.std.proofs.lemmas.List.{length-map}
use Rattle.crs_outcomes.specs.Loads.{IsTooLong, IsModelLine}
use Rattle.crs_outcomes.specs.Inputs.{bytes_of}
use Rattle.crs_outcomes.specs.ModelTexts.{IsFaulty}
use Rattle.crs_outcomes.specs.Most.{most_of}
use Rattle.crs_rounds.proofs.FeedRuns.{feeds_ended, feeds_followed}
use Rattle.crs_outcomes.proofs.Loads.{ends_weaker, ends_refused, long_is_faulty, all_taken}
use Rattle.crs_rounds.proofs.feeds.recognise_feeds.Goals as goal

pub returns-in-Err-clause-told : goal.returns-in-Err-clause-told
returns-in-Err-clause-told g c = λ t.
    let models = bytes_of (g.D.Desk.told c.args.desk.now) c.args.models.now in
    let symbols = c.args.limits.symbols in
    let least = c.requires.least in
    feeds_ended _ _ (most_of c.args.limits) _ _ _ (map (λ n. n.now) c.args.logs.now) _ (omega (arith, least, length-map c.args.logs.now (λ n. n.now)))
    (ends_weaker (2 ^ 20) (λ text. ⊥) (λ text. ⊥) (IsTooLong (2 ^ 20) (codes "model line 0 size\n") models) (IsModelLine (IsFaulty symbols models)) (λ text p. p)
    (long_is_faulty symbols models) _ _ _ _ _ _ (c.in-Err.ensures.told t))

pub follow_all-status-requires-clause-ready : goal.follow_all-status-requires-clause-ready
follow_all-status-requires-clause-ready g c =
    let p = c.in-Ok-prepare_merged.ensures.ok in
    (p.frame, _, p.stands)

pub returns-in-Ok-prepare_merged-clause-told : goal.returns-in-Ok-prepare_merged-clause-told
returns-in-Ok-prepare_merged-clause-told g c = λ t.
    let h = c.in-Ok.ensures.told t in
    let p = rw (c.as_slice.ensures.value, h.2) at c.in-Ok-prepare_merged.ensures.ok in
    let f = c.follow_all-status.ensures.told t p.frame p.stands in
    let k = ap length h.2 in
    feeds_followed _ _ _ (most_of c.args.limits) p.frame (g.D.Desk.told c.args.desk.now)
    (g.D.Desk.told c.load.new.desk)
    (g.D.Desk.told c.follow_all-status.new.desk) c.args.models.now (map (λ n. n.now) c.args.logs.now) _ f.0 f.1 f.2 h.0 f.3 c.follow_all-status.result h.1 k p.accepted f.4

pub returns-clause-told : goal.returns-clause-told
returns-clause-told g c = λ t.
    let h = c.in-Ok.ensures.told t in
    let models = bytes_of (g.D.Desk.told c.args.desk.now) c.args.models.now in
    let p = rw (c.as_slice.ensures.value, h.2) at c.in-Err-prepare_merged.ensures.refused in
    let least = c.requires.least in
    feeds_ended _ _ (most_of c.args.limits) _ _ _ (map (λ n. n.now) c.args.logs.now) _ (omega (arith, least, length-map c.args.logs.now (λ n. n.now)))
    (ends_refused _ _ (λ text. ⊥) (IsFaulty c.args.limits.symbols models) _ _ (g.D.Desk.told c.load.new.desk) _ _ _ _ _ (rw (← c.refuse.ensures.inputs) at h.1) (all_taken (2 ^ 20) models _ (ap length h.2) h.3)
    (λ line word e. rw e at p) (c.refuse.ensures.told t))
