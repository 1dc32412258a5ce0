use Rattle.std.proofs.Common.{◌∙◌, ap, sym, subst, arith, List, ℕ, set, true≢false}
use Rattle.crs_log.specs.Reading.{HasNoLine}
use Rattle.crs_rounds.specs.declared.source.Source.{Source}
use Rattle.crs_rounds.specs.MergedSession.{IsReadyMerged, feeds_of}
use Rattle.crs_rounds.specs.Sources.{AreAt, IsSourceAt}
use Rattle.crs_outcomes.specs.declared.status.Status.TheVariants.{Memory}
use Rattle.crs_rounds.proofs.FeedSteps.{held_gave, held_none, held_spent, source_read, source_stopped, stopped_as}
use Rattle.crs_rounds.proofs.FeedTurns.{at_flushed, stop_flush, stop_memory}
use Rattle.crs_rounds.proofs.SourcePlaces.{place_given, place_spent, place_filled}
use Rattle.crs_rounds.proofs.rounds.take_turn.Goals as goal

pub returns-in-Ok-true-clause-source : goal.returns-in-Ok-true-clause-source
returns-in-Ok-true-clause-source g c = λ k p.
    let h = rw c.in-Ok-true.field-0-test at c.in-Ok-true.ensures.held in
    let q = place_given (g.D.Desk.inputs c.args.desk.now) c.args.limit k c.loop-desk.source c.take_held.new.source h.0 (c.loop-desk.invariant.place k p) h.1
    c.in-Ok-true.ensures.input c.in-Ok-true.ensures.taken h.2 in
    (q.0, λ _. q.1)

pub returns-in-Ok-true-clause-told : goal.returns-in-Ok-true-clause-told
returns-in-Ok-true-clause-told g c = λ t f base old names round ss l e a.
    let h = rw c.in-Ok-true.field-0-test at c.in-Ok-true.ensures.held in
    let b = c.loop-desk.invariant.told t f base old names round ss l e a in (
      held_gave f base c.args.limit old names round c.args.feed ss c.loop-desk.source c.loop-desk.session c.loop-desk.out.items (g.D.Desk.told c.loop-desk.desk) b l
          c.take_held.new.source c.take_held.new.session c.take_held.new.out.items h c.in-Ok-true.ensures.input c.in-Ok-true.ensures.taken,
      λ q. absurd (true≢false q),
    )

pub returns-in-Err-clause-told : goal.returns-in-Err-clause-told
returns-in-Err-clause-told g c = λ t f base old names round ss l e a.
    let b = c.loop-desk.invariant.told t f base old names round ss l e a in
    stopped_as f base c.args.limit old names ss c.args.feed c.loop-desk.source c.take_held.new.source Memory (g.D.Desk.told c.loop-desk.desk) c.in-Err.ensures.taken
    (stop_memory f base c.args.limit old names round c.args.feed (set ss c.args.feed c.loop-desk.source) c.loop-desk.session c.loop-desk.out.items (g.D.Desk.told c.loop-desk.desk) b)

pub returns-then-source-clause-source : goal.returns-then-source-clause-source
returns-then-source-clause-source g c = λ k p.
    let h = rw c.in-Ok-false.field-0-test at c.in-Ok-false.ensures.held in
    let inputs = g.D.Desk.inputs c.args.desk.now in
    let there = subst (IsSourceAt inputs c.args.limit k) (sym h.0) (c.loop-desk.invariant.place k p) in
    let none = subst (λ (s : Source). HasNoLine s.lines) (sym h.0) h.1 in
    (place_spent inputs c.args.limit k c.take_held.new.source there none c.if-source.true, λ q. absurd (true≢false (sym q)))

pub returns-then-source-clause-told : goal.returns-then-source-clause-told
returns-then-source-clause-told g c = λ t f base old names round ss l e a.
    let h = rw c.in-Ok-false.field-0-test at c.in-Ok-false.ensures.held in
    let n = c.args.feed in
    let s = c.take_held.new.source in
    let y = c.take_held.new.session in
    let out = c.take_held.new.out.items in
    let now = g.D.Desk.told c.loop-desk.desk in
    let b = c.loop-desk.invariant.told t f base old names round ss l e a in
    let d = held_none f base c.args.limit old names round n ss c.loop-desk.source c.loop-desk.session c.loop-desk.out.items now b l s y out h in
    let none = subst (λ (s : Source). HasNoLine s.lines) (sym h.0) h.1 in
    let k = held_spent f base c.args.limit old names round n ss s y out now d l none c.if-source.true in
    (k.0, λ _. k.1)

pub returns-in-Err-flush-clause-told : goal.returns-in-Err-flush-clause-told
returns-in-Err-flush-clause-told g c = λ t f base old names round ss l e a.
    let h = rw c.in-Ok-false.field-0-test at c.in-Ok-false.ensures.held in
    let n = c.args.feed in
    let s = c.take_held.new.source in
    let y = c.take_held.new.session in
    let out = c.take_held.new.out.items in
    let now = g.D.Desk.told c.loop-desk.desk in
    let b = c.loop-desk.invariant.told t f base old names round ss l e a in
    let d = held_none f base c.args.limit old names round n ss c.loop-desk.source c.loop-desk.session c.loop-desk.out.items now b l s y out h in
    stop_flush f base c.args.limit old names round n (set ss n s) y out now d c.in-Err-flush.status (g.D.Desk.told c.flush.new.desk) (c.in-Err-flush.ensures.told t)

pub returns-in-Err-read_more-clause-told : goal.returns-in-Err-read_more-clause-told
returns-in-Err-read_more-clause-told g c = λ t f base old names round ss l e a.
    let h = rw c.in-Ok-false.field-0-test at c.in-Ok-false.ensures.held in
    let n = c.args.feed in
    let s = c.take_held.new.source in
    let y = c.take_held.new.session in
    let out = c.take_held.new.out.items in
    let now = g.D.Desk.told c.loop-desk.desk in
    let b = c.loop-desk.invariant.told t f base old names round ss l e a in
    let d = held_none f base c.args.limit old names round n ss c.loop-desk.source c.loop-desk.session c.loop-desk.out.items now b l s y out h in
    let none = subst (λ (s : Source). HasNoLine s.lines) (sym h.0) h.1 in
    let k = at_flushed f base c.args.limit old names round n (set ss n s) y out now d (g.D.Desk.told c.flush.new.desk) (c.in_default.ensures.told t) in
    source_stopped f base c.args.limit old names round n ss s y (g.D.Desk.told c.flush.new.desk) k l none c.if-source.false c.in-Err-read_more.status c.read_more.new.source
    (g.D.Desk.told c.read_more.new.desk) (c.in-Err-read_more.ensures.told t)

pub loop-desk-preserved : goal.loop-desk-preserved
loop-desk-preserved g c =
    let h = rw c.in-Ok-false.field-0-test at c.in-Ok-false.ensures.held in
    let i = c.loop-desk.invariant in
    let n = c.args.feed in
    let s = c.take_held.new.source in
    let y = c.take_held.new.session in
    let out = c.take_held.new.out.items in
    let now = g.D.Desk.told c.loop-desk.desk in
    let inputs = g.D.Desk.inputs c.args.desk.now in
    let none = subst (λ (s : Source). HasNoLine s.lines) (sym h.0) h.1 in
    let w = c.in_default.ensures in
    let r = c.in_default-read_more.ensures in
    let fill = r.filled in
    let at : (k : ℕ) → IsSourceAt inputs c.args.limit k c.loop-desk.source → IsSourceAt inputs c.args.limit k c.read_more.new.source =
    (λ k p. place_filled inputs c.args.limit k s c.read_more.new.source fill.0 (subst (IsSourceAt inputs c.args.limit k) (sym h.0) p) c.if-source.false fill.3 fill.1) in
    record {
      inputs = r.inputs ∙ w.inputs ∙ i.inputs;
      reading = omega (arith, i.reading, w.reading, r.reading);
      writing = omega (arith, i.writing, w.writing, r.writing);
      ready = subst IsReadyMerged (sym h.2) i.ready;
      count = ap feeds_of h.2 ∙ i.count;
      some = (i.some.0, at i.some.0 i.some.1);
      place = λ k p. at k (i.place k p);
      told = λ t f base old names round ss l e a.
          let b = i.told t f base old names round ss l e a in
          let d = held_none f base c.args.limit old names round n ss c.loop-desk.source c.loop-desk.session c.loop-desk.out.items now b l s y out h in
          let k = at_flushed f base c.args.limit old names round n (set ss n s) y out now d (g.D.Desk.told c.flush.new.desk) (w.told t) in
          subst (λ (bytes : List ℕ). AreAt f base c.args.limit old names round n (set ss n c.read_more.new.source) y bytes (g.D.Desk.told c.read_more.new.desk)) (sym w.empty)
          (source_read f base c.args.limit old names round n ss s y (g.D.Desk.told c.flush.new.desk) k l none c.if-source.false c.read_more.new.source
          (g.D.Desk.told c.read_more.new.desk) (r.told t));
    }
