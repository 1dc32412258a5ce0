use Rattle.std.proofs.Common.{◌≡◌, ◌<◌, Ok, length, get_or, refl, subst, sym}
use Rattle.std.specs.Prelude.{OnOk}
use Rattle.crs_base.specs.Seen.{entry_of}
use Rattle.crs_engine.specs.EngineRefusals.{answer_by, IsRefusedAs}
use Rattle.crs_feeds.specs.Merged.{new_feed}
use Rattle.crs_feeds.specs.States.{FeedsState, test_refusal, accept_refusal}
use Rattle.crs_feeds.specs.Standing.{TakeEntry}
use Rattle.crs_feeds.proofs.Horizons.{accept_refused, in_time}
use Rattle.crs_feeds.proofs.Standing.{entry_taken}
use Rattle.crs_feeds.proofs.feeds.Feeds.accept.Goals as goal

pub returns-clause-refused : goal.returns-clause-refused
returns-clause-refused c =
    let s : FeedsState = record { engine = c.self.inside.engine; feeds = c.self.inside.feeds.items } in
    let number = subst (λ (x : FeedsState). c.args.feed < length x.feeds) (sym c.self.view_is) c.requires.number in
    let fine = subst (λ (x : FeedsState). Ok tt ≡ answer_by (test_refusal x (get_or x.feeds c.args.feed new_feed) c.args.entry.date)) (sym c.self.view_is) c.in_ok-test_date.ensures in
    subst (λ (x : FeedsState). IsRefusedAs (accept_refusal x (get_or x.feeds c.args.feed new_feed) c.args.entry.date) c.accept.result) c.self.view_is
    (accept_refused s c.args.feed c.args.entry.date c.accept.result c.self.invariant number fine c.accept.ensures.refused)

pub returns-clause-behind : goal.returns-clause-behind
returns-clause-behind c =
    let s : FeedsState = record { engine = c.self.inside.engine; feeds = c.self.inside.feeds.items } in
    let n = c.args.feed in
    let x = entry_of c.args.entry in
    let number = subst (λ (x : FeedsState). n < length x.feeds) (sym c.self.view_is) c.requires.number in
    let fine = subst (λ (x : FeedsState). Ok tt ≡ answer_by (test_refusal x (get_or x.feeds n new_feed) c.args.entry.date)) (sym c.self.view_is) c.in_ok-test_date.ensures in
    let due = in_time s (get_or s.feeds n new_feed) c.args.entry.date fine in
    let new : FeedsState = record { engine = c.accept.new.self; feeds = s.feeds } in
    subst (λ (y : FeedsState). OnOk c.accept.result (TakeEntry y new n x)) c.self.view_is
    (entry_taken s new n x number refl c.accept.result c.accept.ensures.raised c.accept.ensures.accepted due c.accept.ensures.stands)
