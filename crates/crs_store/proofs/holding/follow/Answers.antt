use Rattle.std.proofs.Common.{rules, vec_len, ◌∙◌, arith, ◌≡◌, List, [], ℕ, length, sym, subst}
use Rattle.std.proofs.lemmas.Bool.{eqb-true}
use Rattle.std.proofs.lemmas.List.{nil_from_length}
use Rattle.crs_base.specs.Seen.{entry_of}
use Rattle.std.specs.Prelude.{Bool}
use Rattle.crs_base.specs.Words.{IsIn}
use Rattle.crs_instance.specs.Instances.{IsOf}
use Rattle.crs_model.specs.declared.plan.Plan.{Plan}
use Rattle.crs_living.specs.PlaceWalks.{Walks}
use Rattle.crs_store.specs.Waiters.{HasTouched}
use Rattle.crs_store.proofs.Renewing.{fresh_place}
use Rattle.crs_store.proofs.Noting.{touched_within}
use Rattle.crs_store.proofs.Touching.{untouched}
use Rattle.crs_store.specs.declared.holding.Holding.{Holding}
use Rattle.crs_store.specs.Joins.{Renews}
use Rattle.crs_living.specs.Slots.{SlotsState, members}
use Rattle.crs_living.specs.Windows.{IsFollowed, IsAble}
use Rattle.crs_store.proofs.Held.{settles_none, walks_none, walked_of, all_tidy, all_renew, undue_there, stays_followed}
use Rattle.crs_store.proofs.holding.follow.Goals as goal

pub collect_due-requires : goal.collect_due-requires
collect_due-requires c = let t = (c.sweep.ensures.tidy c.args.chart.now.plan c.args.chart.now.focus c.args.chart.now.hooks c.args.since c.requires.tidy).stood in let l = c.requires.later in omega arith

pub follow_places-requires-clause-of : goal.follow_places-requires-clause-of
follow_places-requires-clause-of c = λ p i is. subst (λ (q : Plan). IsOf q i) (sym c.plan-plan.ensures.same) ((c.sweep.ensures.tidy c.args.chart.now.plan c.args.chart.now.focus c.args.chart.now.hooks c.args.since c.requires.tidy).known p i is).of

pub settle_places-requires-clause-of : goal.settle_places-requires-clause-of
settle_places-requires-clause-of c =
    let tidy = c.sweep.ensures.tidy c.args.chart.now.plan c.args.chart.now.focus c.args.chart.now.hooks c.args.since c.requires.tidy in
    walked_of c.args.chart.now.plan (IsFollowed c.args.chart.now.plan c.args.history.now (entry_of c.args.entry.now) c.args.since) (IsAble c.args.chart.now.plan c.args.chart.now.focus c.args.entry.now.date) (λ i j r. r.same) c.as_slice-places.result.now c.sweep.new.holding.slots c.follow_places.new.slots (subst (λ (p : Plan). Walks (IsFollowed p c.args.history.now (entry_of c.args.entry.now) c.args.since) (IsAble p c.args.chart.now.focus c.args.entry.now.date) c.as_slice-places.result.now c.sweep.new.holding.slots c.follow_places.new.slots) c.plan-plan.ensures.same (subst (λ (f : Bool). Walks (IsFollowed c.plan-plan.result.now c.args.history.now (entry_of c.args.entry.now) c.args.since) (IsAble c.plan-plan.result.now f c.args.entry.now.date) c.as_slice-places.result.now c.sweep.new.holding.slots c.follow_places.new.slots) c.focus.ensures c.follow_places.ensures)) (λ p i is. (tidy.known p i is).of)

pub returns-clause-tidy : goal.returns-clause-tidy
returns-clause-tidy c =
    let tidy = c.sweep.ensures.tidy c.args.chart.now.plan c.args.chart.now.focus c.args.chart.now.hooks c.args.since c.requires.tidy in
    all_tidy c.args.chart.now.plan c.args.chart.now.focus c.plan-plan.ensures.is.proper c.args.chart.now.hooks c.args.since c.args.entry.now.date c.requires.later (let l = c.requires.date in omega arith) c.sweep.new.holding c.sweep.ensures.len tidy c.collect_due.new.calendar c.note_touched.new.waiting c.note_touched.ensures.fresh c.collect_due.new.places.items c.as_slice-places.result.now
    ((c.in_ok-collect_due.ensures {u = tt}).collected) (λ p i. subst (λ (ps : List ℕ). IsIn p ps) (sym c.as_slice-places.ensures.value) (c.sort_places.ensures.kept p (c.note_touched.ensures.kept p i))) ((c.in_ok-collect_due.ensures {u = tt}).later) c.collect_due.ensures.within c.follow_places.new.slots c.settle_places.new.holding (c.in_ok-settle_places.ensures {u = tt}) (IsFollowed c.args.chart.now.plan c.args.history.now (entry_of c.args.entry.now) c.args.since) (λ i j r. (r.same, r.gains)) (subst (λ (p : Plan). Walks (IsFollowed p c.args.history.now (entry_of c.args.entry.now) c.args.since) (IsAble p c.args.chart.now.focus c.args.entry.now.date) c.as_slice-places.result.now c.sweep.new.holding.slots c.follow_places.new.slots) c.plan-plan.ensures.same (subst (λ (f : Bool). Walks (IsFollowed c.plan-plan.result.now c.args.history.now (entry_of c.args.entry.now) c.args.since) (IsAble c.plan-plan.result.now f c.args.entry.now.date) c.as_slice-places.result.now c.sweep.new.holding.slots c.follow_places.new.slots) c.focus.ensures c.follow_places.ensures))

pub returns-clause-renews : goal.returns-clause-renews
returns-clause-renews c =
    let tidy = c.sweep.ensures.tidy c.args.chart.now.plan c.args.chart.now.focus c.args.chart.now.hooks c.args.since c.requires.tidy in
    subst (λ (s : SlotsState). Renews (IsFollowed c.args.chart.now.plan c.args.history.now (entry_of c.args.entry.now) c.args.since) (IsAble c.args.chart.now.plan c.args.chart.now.focus c.args.entry.now.date) (members s.slots) (members c.settle_places.new.holding.slots.slots)) c.sweep.ensures.slots
    (all_renew c.args.chart.now.plan c.args.chart.now.focus c.plan-plan.ensures.is.proper c.args.chart.now.hooks c.args.since c.args.entry.now.date c.requires.later (let l = c.requires.date in omega arith) c.sweep.new.holding c.sweep.ensures.len tidy c.collect_due.new.calendar c.note_touched.new.waiting c.note_touched.ensures.fresh c.collect_due.new.places.items c.as_slice-places.result.now
    ((c.in_ok-collect_due.ensures {u = tt}).collected) (λ p i. subst (λ (ps : List ℕ). IsIn p ps) (sym c.as_slice-places.ensures.value) (c.sort_places.ensures.kept p (c.note_touched.ensures.kept p i))) ((c.in_ok-collect_due.ensures {u = tt}).later) c.collect_due.ensures.within c.follow_places.new.slots c.settle_places.new.holding (c.in_ok-settle_places.ensures {u = tt}) (IsFollowed c.args.chart.now.plan c.args.history.now (entry_of c.args.entry.now) c.args.since) (λ i j r. (r.same, r.gains)) (subst (λ (p : Plan). Walks (IsFollowed p c.args.history.now (entry_of c.args.entry.now) c.args.since) (IsAble p c.args.chart.now.focus c.args.entry.now.date) c.as_slice-places.result.now c.sweep.new.holding.slots c.follow_places.new.slots) c.plan-plan.ensures.same (subst (λ (f : Bool). Walks (IsFollowed c.plan-plan.result.now c.args.history.now (entry_of c.args.entry.now) c.args.since) (IsAble c.plan-plan.result.now f c.args.entry.now.date) c.as_slice-places.result.now c.sweep.new.holding.slots c.follow_places.new.slots) c.focus.ensures c.follow_places.ensures))
    (λ p i apart is. stays_followed c.args.chart.now.plan c.args.chart.now.focus c.args.history.now (entry_of c.args.entry.now) c.args.since c.requires.later i (undue_there c.args.chart.now.plan c.args.chart.now.focus c.plan-plan.ensures.is.proper c.args.chart.now.hooks c.args.since c.args.entry.now.date c.requires.later (let l = c.requires.date in omega arith) c.sweep.new.holding c.sweep.ensures.len tidy c.collect_due.new.calendar c.note_touched.new.waiting c.note_touched.ensures.fresh c.collect_due.new.places.items c.as_slice-places.result.now ((c.in_ok-collect_due.ensures {u = tt}).collected) (λ p i. subst (λ (ps : List ℕ). IsIn p ps) (sym c.as_slice-places.ensures.value) (c.sort_places.ensures.kept p (c.note_touched.ensures.kept p i))) ((c.in_ok-collect_due.ensures {u = tt}).later) c.collect_due.ensures.within c.follow_places.new.slots c.settle_places.new.holding (c.in_ok-settle_places.ensures {u = tt}) p i apart is)
    (untouched c.args.chart.now.plan c.args.chart.now.hooks.windows.items c.plan-plan.ensures.is.hooks.of_windows c.sweep.new.holding.slots c.sweep.new.holding.waiting (entry_of c.args.entry.now) c.args.since c.requires.later c.as_slice-places.result.now
    (touched_within c.args.chart.now.plan c.args.chart.now.hooks.windows.items c.sweep.new.holding.slots (entry_of c.args.entry.now) c.sweep.new.holding.waiting (length c.args.chart.now.plan.chronicle.windows) c.note_touched.new.places.items c.as_slice-places.result.now (λ p i. subst (λ (ps : List ℕ). IsIn p ps) (sym c.as_slice-places.ensures.value) (c.sort_places.ensures.kept p i)) ((c.in_ok-note_touched.ensures {u = tt}).noted)) p (fresh_place c.sweep.new.holding.slots p i c.sweep.ensures.len is) i (tidy.known p i is).armed c.args.chart.now.focus (undue_there c.args.chart.now.plan c.args.chart.now.focus c.plan-plan.ensures.is.proper c.args.chart.now.hooks c.args.since c.args.entry.now.date c.requires.later (let l = c.requires.date in omega arith) c.sweep.new.holding c.sweep.ensures.len tidy c.collect_due.new.calendar c.note_touched.new.waiting c.note_touched.ensures.fresh c.collect_due.new.places.items c.as_slice-places.result.now ((c.in_ok-collect_due.ensures {u = tt}).collected) (λ p i. subst (λ (ps : List ℕ). IsIn p ps) (sym c.as_slice-places.ensures.value) (c.sort_places.ensures.kept p (c.note_touched.ensures.kept p i))) ((c.in_ok-collect_due.ensures {u = tt}).later) c.collect_due.ensures.within c.follow_places.new.slots c.settle_places.new.holding (c.in_ok-settle_places.ensures {u = tt}) p i apart is) apart)))

pub returns-then-is_empty-clause-tidy : goal.returns-then-is_empty-clause-tidy
returns-then-is_empty-clause-tidy c =
    let tidy = c.sweep.ensures.tidy c.args.chart.now.plan c.args.chart.now.focus c.args.chart.now.hooks c.args.since c.requires.tidy in
    let long : length c.note_touched.new.places.items ≡ vec_len c.note_touched.new.places = search rules in
    let none : c.note_touched.new.places.items ≡ [] = nil_from_length c.note_touched.new.places.items (long ∙ eqb-true (vec_len c.note_touched.new.places) 0 (sym c.is_empty.ensures ∙ c.if-is_empty.true)) in
    let held : Holding = record { slots = c.sweep.new.holding.slots; waiting = c.note_touched.new.waiting; dues = c.collect_due.new.calendar; ripe = c.sweep.new.holding.ripe; room = c.sweep.new.holding.room } in
    all_tidy c.args.chart.now.plan c.args.chart.now.focus c.plan-plan.ensures.is.proper c.args.chart.now.hooks c.args.since c.args.entry.now.date c.requires.later (let l = c.requires.date in omega arith) c.sweep.new.holding c.sweep.ensures.len tidy c.collect_due.new.calendar c.note_touched.new.waiting c.note_touched.ensures.fresh c.collect_due.new.places.items []
    ((c.in_ok-collect_due.ensures {u = tt}).collected) (λ p i. subst (λ (ps : List ℕ). IsIn p ps) none (c.note_touched.ensures.kept p i)) ((c.in_ok-collect_due.ensures {u = tt}).later) c.collect_due.ensures.within c.sweep.new.holding.slots held (settles_none c.args.chart.now.plan c.args.chart.now.focus c.args.chart.now.hooks c.args.since c.args.entry.now.date held) (IsFollowed c.args.chart.now.plan c.args.history.now (entry_of c.args.entry.now) c.args.since) (λ i j r. (r.same, r.gains)) (walks_none (IsFollowed c.args.chart.now.plan c.args.history.now (entry_of c.args.entry.now) c.args.since) (IsAble c.args.chart.now.plan c.args.chart.now.focus c.args.entry.now.date) c.sweep.new.holding.slots)

pub returns-then-is_empty-clause-renews : goal.returns-then-is_empty-clause-renews
returns-then-is_empty-clause-renews c =
    let tidy = c.sweep.ensures.tidy c.args.chart.now.plan c.args.chart.now.focus c.args.chart.now.hooks c.args.since c.requires.tidy in
    let long : length c.note_touched.new.places.items ≡ vec_len c.note_touched.new.places = search rules in
    let none : c.note_touched.new.places.items ≡ [] = nil_from_length c.note_touched.new.places.items (long ∙ eqb-true (vec_len c.note_touched.new.places) 0 (sym c.is_empty.ensures ∙ c.if-is_empty.true)) in
    let held : Holding = record { slots = c.sweep.new.holding.slots; waiting = c.note_touched.new.waiting; dues = c.collect_due.new.calendar; ripe = c.sweep.new.holding.ripe; room = c.sweep.new.holding.room } in
    subst (λ (s : SlotsState). Renews (IsFollowed c.args.chart.now.plan c.args.history.now (entry_of c.args.entry.now) c.args.since) (IsAble c.args.chart.now.plan c.args.chart.now.focus c.args.entry.now.date) (members s.slots) (members c.sweep.new.holding.slots.slots)) c.sweep.ensures.slots
    (all_renew c.args.chart.now.plan c.args.chart.now.focus c.plan-plan.ensures.is.proper c.args.chart.now.hooks c.args.since c.args.entry.now.date c.requires.later (let l = c.requires.date in omega arith) c.sweep.new.holding c.sweep.ensures.len tidy c.collect_due.new.calendar c.note_touched.new.waiting c.note_touched.ensures.fresh c.collect_due.new.places.items []
    ((c.in_ok-collect_due.ensures {u = tt}).collected) (λ p i. subst (λ (ps : List ℕ). IsIn p ps) none (c.note_touched.ensures.kept p i)) ((c.in_ok-collect_due.ensures {u = tt}).later) c.collect_due.ensures.within c.sweep.new.holding.slots held (settles_none c.args.chart.now.plan c.args.chart.now.focus c.args.chart.now.hooks c.args.since c.args.entry.now.date held) (IsFollowed c.args.chart.now.plan c.args.history.now (entry_of c.args.entry.now) c.args.since) (λ i j r. (r.same, r.gains)) (walks_none (IsFollowed c.args.chart.now.plan c.args.history.now (entry_of c.args.entry.now) c.args.since) (IsAble c.args.chart.now.plan c.args.chart.now.focus c.args.entry.now.date) c.sweep.new.holding.slots)
    (λ p i apart is. stays_followed c.args.chart.now.plan c.args.chart.now.focus c.args.history.now (entry_of c.args.entry.now) c.args.since c.requires.later i (undue_there c.args.chart.now.plan c.args.chart.now.focus c.plan-plan.ensures.is.proper c.args.chart.now.hooks c.args.since c.args.entry.now.date c.requires.later (let l = c.requires.date in omega arith) c.sweep.new.holding c.sweep.ensures.len tidy c.collect_due.new.calendar c.note_touched.new.waiting c.note_touched.ensures.fresh c.collect_due.new.places.items []
    ((c.in_ok-collect_due.ensures {u = tt}).collected) (λ p i. subst (λ (ps : List ℕ). IsIn p ps) none (c.note_touched.ensures.kept p i)) ((c.in_ok-collect_due.ensures {u = tt}).later) c.collect_due.ensures.within c.sweep.new.holding.slots held (settles_none c.args.chart.now.plan c.args.chart.now.focus c.args.chart.now.hooks c.args.since c.args.entry.now.date held) p i apart is)
    (untouched c.args.chart.now.plan c.args.chart.now.hooks.windows.items c.plan-plan.ensures.is.hooks.of_windows c.sweep.new.holding.slots c.sweep.new.holding.waiting (entry_of c.args.entry.now) c.args.since c.requires.later []
    (subst (λ (ps : List ℕ). HasTouched c.args.chart.now.plan c.args.chart.now.hooks.windows.items c.sweep.new.holding.slots c.sweep.new.holding.waiting (entry_of c.args.entry.now) (length c.args.chart.now.plan.chronicle.windows) ps) none ((c.in_ok-note_touched.ensures {u = tt}).noted)) p (fresh_place c.sweep.new.holding.slots p i c.sweep.ensures.len is) i (tidy.known p i is).armed c.args.chart.now.focus (undue_there c.args.chart.now.plan c.args.chart.now.focus c.plan-plan.ensures.is.proper c.args.chart.now.hooks c.args.since c.args.entry.now.date c.requires.later (let l = c.requires.date in omega arith) c.sweep.new.holding c.sweep.ensures.len tidy c.collect_due.new.calendar c.note_touched.new.waiting c.note_touched.ensures.fresh c.collect_due.new.places.items []
    ((c.in_ok-collect_due.ensures {u = tt}).collected) (λ p i. subst (λ (ps : List ℕ). IsIn p ps) none (c.note_touched.ensures.kept p i)) ((c.in_ok-collect_due.ensures {u = tt}).later) c.collect_due.ensures.within c.sweep.new.holding.slots held (settles_none c.args.chart.now.plan c.args.chart.now.focus c.args.chart.now.hooks c.args.since c.args.entry.now.date held) p i apart is) apart)))
