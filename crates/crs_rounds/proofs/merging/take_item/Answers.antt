use Rattle.std.proofs.Common.{◌≡◌, ◌∙◌, ap, sym, true, true≢false, refl, get_or}
use Rattle.crs_log.specs.ItemOf.{What, Empty, Is, Faulty}
use Rattle.crs_log.specs.Reading.{Plain}
use Rattle.crs_log.specs.Run as run
use Rattle.crs_log.specs.Run.{Setting, State, after_what}
use Rattle.crs_log.specs.SeenItems.{what_seen}
use Rattle.crs_feeds.specs.Merged.{new_feed, seen_by}
use Rattle.crs_rounds.specs.MergedSession.{run_at}
use Rattle.crs_frames.specs.TableTexts.{is_blank_what}
use Rattle.crs_frames.specs.Frames.{log_setting}
use Rattle.crs_rounds.proofs.MergedSteps.{passed_brings, refuse_brings}
use Rattle.crs_frames.proofs.Items.{not_faulty}
use Rattle.crs_rounds.proofs.Ordering.{out_of_order}
use Rattle.crs_rounds.proofs.merging.take_item.Goals as goal

blank_passed : (c : Setting) (s : State) (w : What) → is_blank_what w ≡ true → after_what c s w ≡ (s, run.Passed)
blank_passed c s Empty b = refl
blank_passed c s (Is item) b = absurd (true≢false (sym b))
blank_passed c s Faulty b = absurd (true≢false (sym b))

pub returns-then-is_blank : goal.returns-then-is_blank
returns-then-is_blank c = λ f ps r.
    let x = c.args.session.now in
    let n = c.args.origin.feed in
    let w = what_seen c.args.line.now c.args.item in
    let s = seen_by (run_at f x ps) (get_or x.feeds.feeds n new_feed) in
    passed_brings f x ps r n c.requires.feed (Plain c.args.origin.number c.args.line.now) c.args.out.now.items
    (ap (after_what (log_setting f) s) (sym c.requires.exact) ∙ blank_passed (log_setting f) s w (sym (c.is_blank.ensures c.args.line.now) ∙ c.if-is_blank.true))

pub returns-then-ended : goal.returns-then-ended
returns-then-ended c =
    let x = c.args.session.now in
    let n = c.args.origin.feed in
    let w = what_seen c.args.line.now c.args.item in
    refuse_brings c.refuse.result x c.refuse.new.session n (Plain c.args.origin.number c.args.line.now) run.Order c.args.out.now.items c.refuse.new.out.items c.requires.feed
    c.refuse.ensures.written c.refuse.ensures.noted
    (λ f ps r.
    let s = seen_by (run_at f x ps) (get_or x.feeds.feeds n new_feed) in
    ap (after_what (log_setting f) s) (sym c.requires.exact)
    ∙ out_of_order (log_setting f) s w (sym (c.is_blank.ensures c.args.line.now) ∙ c.if-is_blank.false) (sym c.ended.ensures ∙ c.if-ended.true) (not_faulty c.args.line.now c.args.item))
