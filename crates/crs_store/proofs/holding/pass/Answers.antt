use Rattle.std.proofs.Common.{rules, vec_len, ◌∙◌, arith, ◌≡◌, List, [], ℕ, length, sym, subst}
use Rattle.std.proofs.lemmas.Bool.{eqb-true}
use Rattle.std.proofs.lemmas.List.{nil_from_length}
use Rattle.std.specs.Prelude.{Bool}
use Rattle.crs_base.specs.Words.{IsIn}
use Rattle.crs_instance.specs.Instances.{IsOf}
use Rattle.crs_model.specs.declared.plan.Plan.{Plan}
use Rattle.crs_living.specs.PlaceWalks.{Walks}
use Rattle.crs_store.specs.Joins.{Renews}
use Rattle.crs_living.specs.Slots.{SlotsState, members}
use Rattle.crs_store.specs.Tidy.{IsTidyHolding}
use Rattle.crs_living.specs.Windows.{IsPassed, IsAble}
use Rattle.crs_store.specs.declared.holding.Holding.{Holding}
use Rattle.crs_store.proofs.Assembled.{tidy_able}
use Rattle.crs_store.proofs.Born.{passed_nowhere}
use Rattle.crs_store.proofs.Held.{settles_none, walks_none, walked_of, all_tidy, all_renew, undue_there, stays_passed}
use Rattle.crs_store.proofs.holding.pass.Goals as goal

pub collect_due-requires : goal.collect_due-requires
collect_due-requires c = let t = (c.sweep.ensures.tidy c.args.chart.now.plan c.args.chart.now.focus c.args.chart.now.hooks c.args.since c.requires.tidy).stood in let l = c.requires.later in omega arith

pub pass_places-requires-clause-of : goal.pass_places-requires-clause-of
pass_places-requires-clause-of c = λ p i is. subst (λ (q : Plan). IsOf q i) (sym c.plan-plan.ensures.same) ((c.sweep.ensures.tidy c.args.chart.now.plan c.args.chart.now.focus c.args.chart.now.hooks c.args.since c.requires.tidy).known p i is).of

pub settle_places-requires-clause-of : goal.settle_places-requires-clause-of
settle_places-requires-clause-of c =
    let tidy = c.sweep.ensures.tidy c.args.chart.now.plan c.args.chart.now.focus c.args.chart.now.hooks c.args.since c.requires.tidy in
    walked_of c.args.chart.now.plan (IsPassed c.args.chart.now.plan c.args.history.now c.args.since c.args.h) (IsAble c.args.chart.now.plan c.args.chart.now.focus c.args.h) (λ i j r. r.same) c.as_slice-places.result.now c.sweep.new.holding.slots c.pass_places.new.slots (subst (λ (p : Plan). Walks (IsPassed p c.args.history.now c.args.since c.args.h) (IsAble p c.args.chart.now.focus c.args.h) c.as_slice-places.result.now c.sweep.new.holding.slots c.pass_places.new.slots) c.plan-plan.ensures.same (subst (λ (f : Bool). Walks (IsPassed c.plan-plan.result.now c.args.history.now c.args.since c.args.h) (IsAble c.plan-plan.result.now f c.args.h) c.as_slice-places.result.now c.sweep.new.holding.slots c.pass_places.new.slots) c.focus.ensures c.pass_places.ensures)) (λ p i is. (tidy.known p i is).of)

pub returns-clause-tidy : goal.returns-clause-tidy
returns-clause-tidy c =
    let tidy = c.sweep.ensures.tidy c.args.chart.now.plan c.args.chart.now.focus c.args.chart.now.hooks c.args.since c.requires.tidy in
    all_tidy c.args.chart.now.plan c.args.chart.now.focus c.plan-plan.ensures.is.proper c.args.chart.now.hooks c.args.since c.args.h c.requires.later c.requires.small c.sweep.new.holding c.sweep.ensures.len tidy c.collect_due.new.calendar c.sweep.new.holding.waiting (λ k g f w. w) c.collect_due.new.places.items c.as_slice-places.result.now
    ((c.in_ok-collect_due.ensures {u = tt}).collected) (λ p i. subst (λ (ps : List ℕ). IsIn p ps) (sym c.as_slice-places.ensures.value) (c.sort_places.ensures.kept p i)) ((c.in_ok-collect_due.ensures {u = tt}).later) c.collect_due.ensures.within c.pass_places.new.slots c.settle_places.new.holding (c.in_ok-settle_places.ensures {u = tt}) (IsPassed c.args.chart.now.plan c.args.history.now c.args.since c.args.h) (λ i j r. (r.same, r.gains)) (subst (λ (p : Plan). Walks (IsPassed p c.args.history.now c.args.since c.args.h) (IsAble p c.args.chart.now.focus c.args.h) c.as_slice-places.result.now c.sweep.new.holding.slots c.pass_places.new.slots) c.plan-plan.ensures.same (subst (λ (f : Bool). Walks (IsPassed c.plan-plan.result.now c.args.history.now c.args.since c.args.h) (IsAble c.plan-plan.result.now f c.args.h) c.as_slice-places.result.now c.sweep.new.holding.slots c.pass_places.new.slots) c.focus.ensures c.pass_places.ensures))

pub returns-clause-renews : goal.returns-clause-renews
returns-clause-renews c =
    let tidy = c.sweep.ensures.tidy c.args.chart.now.plan c.args.chart.now.focus c.args.chart.now.hooks c.args.since c.requires.tidy in
    subst (λ (s : SlotsState). Renews (IsPassed c.args.chart.now.plan c.args.history.now c.args.since c.args.h) (IsAble c.args.chart.now.plan c.args.chart.now.focus c.args.h) (members s.slots) (members c.settle_places.new.holding.slots.slots)) c.sweep.ensures.slots
    (all_renew c.args.chart.now.plan c.args.chart.now.focus c.plan-plan.ensures.is.proper c.args.chart.now.hooks c.args.since c.args.h c.requires.later c.requires.small c.sweep.new.holding c.sweep.ensures.len tidy c.collect_due.new.calendar c.sweep.new.holding.waiting (λ k g f w. w) c.collect_due.new.places.items c.as_slice-places.result.now
    ((c.in_ok-collect_due.ensures {u = tt}).collected) (λ p i. subst (λ (ps : List ℕ). IsIn p ps) (sym c.as_slice-places.ensures.value) (c.sort_places.ensures.kept p i)) ((c.in_ok-collect_due.ensures {u = tt}).later) c.collect_due.ensures.within c.pass_places.new.slots c.settle_places.new.holding (c.in_ok-settle_places.ensures {u = tt}) (IsPassed c.args.chart.now.plan c.args.history.now c.args.since c.args.h) (λ i j r. (r.same, r.gains)) (subst (λ (p : Plan). Walks (IsPassed p c.args.history.now c.args.since c.args.h) (IsAble p c.args.chart.now.focus c.args.h) c.as_slice-places.result.now c.sweep.new.holding.slots c.pass_places.new.slots) c.plan-plan.ensures.same (subst (λ (f : Bool). Walks (IsPassed c.plan-plan.result.now c.args.history.now c.args.since c.args.h) (IsAble c.plan-plan.result.now f c.args.h) c.as_slice-places.result.now c.sweep.new.holding.slots c.pass_places.new.slots) c.focus.ensures c.pass_places.ensures))
    (λ p i apart is. stays_passed c.args.chart.now.plan c.args.chart.now.focus c.args.history.now c.args.since c.args.h c.requires.later i (undue_there c.args.chart.now.plan c.args.chart.now.focus c.plan-plan.ensures.is.proper c.args.chart.now.hooks c.args.since c.args.h c.requires.later c.requires.small c.sweep.new.holding c.sweep.ensures.len tidy c.collect_due.new.calendar c.sweep.new.holding.waiting (λ k g f w. w) c.collect_due.new.places.items c.as_slice-places.result.now ((c.in_ok-collect_due.ensures {u = tt}).collected) (λ p i. subst (λ (ps : List ℕ). IsIn p ps) (sym c.as_slice-places.ensures.value) (c.sort_places.ensures.kept p i)) ((c.in_ok-collect_due.ensures {u = tt}).later) c.collect_due.ensures.within c.pass_places.new.slots c.settle_places.new.holding (c.in_ok-settle_places.ensures {u = tt}) p i apart is)))

pub returns-then-is_empty-clause-tidy : goal.returns-then-is_empty-clause-tidy
returns-then-is_empty-clause-tidy c =
    let tidy = c.sweep.ensures.tidy c.args.chart.now.plan c.args.chart.now.focus c.args.chart.now.hooks c.args.since c.requires.tidy in
    let long : length c.collect_due.new.places.items ≡ vec_len c.collect_due.new.places = search rules in
    let none : c.collect_due.new.places.items ≡ [] = nil_from_length c.collect_due.new.places.items (long ∙ eqb-true (vec_len c.collect_due.new.places) 0 (sym c.is_empty.ensures ∙ c.if-is_empty.true)) in
    let held : Holding = record { slots = c.sweep.new.holding.slots; waiting = c.sweep.new.holding.waiting; dues = c.collect_due.new.calendar; ripe = c.sweep.new.holding.ripe; room = c.sweep.new.holding.room } in
    all_tidy c.args.chart.now.plan c.args.chart.now.focus c.plan-plan.ensures.is.proper c.args.chart.now.hooks c.args.since c.args.h c.requires.later c.requires.small c.sweep.new.holding c.sweep.ensures.len tidy c.collect_due.new.calendar c.sweep.new.holding.waiting (λ k g f w. w) c.collect_due.new.places.items []
    ((c.in_ok-collect_due.ensures {u = tt}).collected) (λ p i. subst (λ (ps : List ℕ). IsIn p ps) none i) ((c.in_ok-collect_due.ensures {u = tt}).later) c.collect_due.ensures.within c.sweep.new.holding.slots held (settles_none c.args.chart.now.plan c.args.chart.now.focus c.args.chart.now.hooks c.args.since c.args.h held) (IsPassed c.args.chart.now.plan c.args.history.now c.args.since c.args.h) (λ i j r. (r.same, r.gains)) (walks_none (IsPassed c.args.chart.now.plan c.args.history.now c.args.since c.args.h) (IsAble c.args.chart.now.plan c.args.chart.now.focus c.args.h) c.sweep.new.holding.slots)

pub returns-then-is_empty-clause-renews : goal.returns-then-is_empty-clause-renews
returns-then-is_empty-clause-renews c =
    let tidy = c.sweep.ensures.tidy c.args.chart.now.plan c.args.chart.now.focus c.args.chart.now.hooks c.args.since c.requires.tidy in
    let long : length c.collect_due.new.places.items ≡ vec_len c.collect_due.new.places = search rules in
    let none : c.collect_due.new.places.items ≡ [] = nil_from_length c.collect_due.new.places.items (long ∙ eqb-true (vec_len c.collect_due.new.places) 0 (sym c.is_empty.ensures ∙ c.if-is_empty.true)) in
    let held : Holding = record { slots = c.sweep.new.holding.slots; waiting = c.sweep.new.holding.waiting; dues = c.collect_due.new.calendar; ripe = c.sweep.new.holding.ripe; room = c.sweep.new.holding.room } in
    subst (λ (s : SlotsState). Renews (IsPassed c.args.chart.now.plan c.args.history.now c.args.since c.args.h) (IsAble c.args.chart.now.plan c.args.chart.now.focus c.args.h) (members s.slots) (members c.sweep.new.holding.slots.slots)) c.sweep.ensures.slots
    (all_renew c.args.chart.now.plan c.args.chart.now.focus c.plan-plan.ensures.is.proper c.args.chart.now.hooks c.args.since c.args.h c.requires.later c.requires.small c.sweep.new.holding c.sweep.ensures.len tidy c.collect_due.new.calendar c.sweep.new.holding.waiting (λ k g f w. w) c.collect_due.new.places.items []
    ((c.in_ok-collect_due.ensures {u = tt}).collected) (λ p i. subst (λ (ps : List ℕ). IsIn p ps) none i) ((c.in_ok-collect_due.ensures {u = tt}).later) c.collect_due.ensures.within c.sweep.new.holding.slots held (settles_none c.args.chart.now.plan c.args.chart.now.focus c.args.chart.now.hooks c.args.since c.args.h held) (IsPassed c.args.chart.now.plan c.args.history.now c.args.since c.args.h) (λ i j r. (r.same, r.gains)) (walks_none (IsPassed c.args.chart.now.plan c.args.history.now c.args.since c.args.h) (IsAble c.args.chart.now.plan c.args.chart.now.focus c.args.h) c.sweep.new.holding.slots)
    (λ p i apart is. stays_passed c.args.chart.now.plan c.args.chart.now.focus c.args.history.now c.args.since c.args.h c.requires.later i (undue_there c.args.chart.now.plan c.args.chart.now.focus c.plan-plan.ensures.is.proper c.args.chart.now.hooks c.args.since c.args.h c.requires.later c.requires.small c.sweep.new.holding c.sweep.ensures.len tidy c.collect_due.new.calendar c.sweep.new.holding.waiting (λ k g f w. w) c.collect_due.new.places.items []
    ((c.in_ok-collect_due.ensures {u = tt}).collected) (λ p i. subst (λ (ps : List ℕ). IsIn p ps) none i) ((c.in_ok-collect_due.ensures {u = tt}).later) c.collect_due.ensures.within c.sweep.new.holding.slots held (settles_none c.args.chart.now.plan c.args.chart.now.focus c.args.chart.now.hooks c.args.since c.args.h held) p i apart is)))

pub returns-then-since-h-clause-tidy : goal.returns-then-since-h-clause-tidy
returns-then-since-h-clause-tidy c = subst (λ (n : ℕ). IsTidyHolding c.args.chart.now.plan c.args.chart.now.focus c.args.chart.now.hooks c.sweep.new.holding n) c.if-since-h.true (c.sweep.ensures.tidy c.args.chart.now.plan c.args.chart.now.focus c.args.chart.now.hooks c.args.since c.requires.tidy)

pub returns-then-since-h-clause-renews : goal.returns-then-since-h-clause-renews
returns-then-since-h-clause-renews c =
    subst (λ (s : SlotsState). Renews (IsPassed c.args.chart.now.plan c.args.history.now c.args.since c.args.h) (IsAble c.args.chart.now.plan c.args.chart.now.focus c.args.h) (members c.args.holding.now.slots.slots) (members s.slots)) (sym c.sweep.ensures.slots)
    (passed_nowhere c.args.chart.now.plan c.args.chart.now.focus c.args.history.now c.args.since c.args.h c.if-since-h.true (members c.args.holding.now.slots.slots) (tidy_able c.args.chart.now.plan c.args.chart.now.focus c.args.chart.now.hooks c.args.holding.now c.args.since c.requires.tidy))
