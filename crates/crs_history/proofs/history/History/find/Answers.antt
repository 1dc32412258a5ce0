use Rattle.std.proofs.Common.{◌≡◌, ◌≤◌, filter, sym, ap, subst, ◌∙◌, Less}
use Rattle.std.specs.Prelude.{◌≤ℤ◌}
use Rattle.std.specs.Int.{int_max}
use Rattle.std.proofs.lemmas.Int.{to_z-of_z}
use mir.Val.{SFits}
use mir.Syntax.{w64}
use Rattle.crs_base.specs.Entry.{entry_cmp, IsInKeyOrder}
use Rattle.crs_base.proofs.Words.{ordered_filter}
use Rattle.crs_history.specs.Histories.{HistoryState, StandsFor}
use Rattle.crs_history.specs.Holdings.{held_of}
use Rattle.crs_history.specs.Dates.{IsByDate, nat_of}
use Rattle.crs_history.specs.Keyed.{IsLike}
use Rattle.crs_history.specs.Looking.{is_since, is_before, Finds}
use Rattle.crs_history.proofs.Holding.{part, found_held, found_stands}
use Rattle.crs_history.proofs.history.History.find.Goals as goal

pub before-requires : goal.before-requires
before-requires c = subst IsByDate (sym c.since.ensures) (ordered_filter (λ d e. d.date ≤ e.date) (is_since c.to_date.result) c.find-found.result c.find-found.ensures.by_date)

pub returns-clause-in_order : goal.returns-clause-in_order
returns-clause-in_order c =
    let since : IsInKeyOrder c.since.result = subst IsInKeyOrder (sym c.since.ensures) (ordered_filter (λ d e. entry_cmp d e ≡ Less) (is_since c.to_date.result) c.find-found.result c.find-found.ensures.in_order) in
    subst IsInKeyOrder (sym c.before-2.ensures) (ordered_filter (λ d e. entry_cmp d e ≡ Less) (is_before c.to_date-2.result) c.since.result since)

pub returns-clause-held : goal.returns-clause-held
returns-clause-held c =
    let h = c.self.inside.held in
    let floor = c.self.inside.floor in
    let P = IsLike c.args.name c.args.known.now in
    let from = c.args.from in
    let to = c.args.to in
    let found = c.find-found.result in
    let one : c.to_date.result ≡ nat_of from = (let fits : SFits w64 from = c.ranges.from in simp to_z-of_z at c.to_date.ensures) in
    let two : c.to_date-2.result ≡ nat_of to = (let fits : SFits w64 to = c.ranges.to in simp to_z-of_z at c.to_date-2.ensures) in
    let same : c.before-2.result ≡ part P from to floor h.older h.ring found c.self.invariant.before c.self.invariant.since c.find-found.ensures.found found =
    c.before-2.ensures ∙ ap (λ n. filter (is_before n) c.since.result) two ∙ ap (filter (is_before (nat_of to))) (c.since.ensures ∙ ap (λ n. filter (is_since n) found) one) in
    subst (λ (w : HistoryState). Finds P (int_max w.floor from) to w.entries c.before-2.result) c.self.view_is
    (subst (Finds P (int_max floor from) to (held_of h)) (sym same)
    (found_held P from to floor h.older h.ring found c.self.invariant.before c.self.invariant.since c.find-found.ensures.found))

pub returns-clause-stands : goal.returns-clause-stands
returns-clause-stands c = λ le s stands.
    let h = c.self.inside.held in
    let floor = c.self.inside.floor in
    let P = IsLike c.args.name c.args.known.now in
    let from = c.args.from in
    let to = c.args.to in
    let found = c.find-found.result in
    let one : c.to_date.result ≡ nat_of from = (let fits : SFits w64 from = c.ranges.from in simp to_z-of_z at c.to_date.ensures) in
    let two : c.to_date-2.result ≡ nat_of to = (let fits : SFits w64 to = c.ranges.to in simp to_z-of_z at c.to_date-2.ensures) in
    let same : c.before-2.result ≡ part P from to floor h.older h.ring found c.self.invariant.before c.self.invariant.since c.find-found.ensures.found found =
    c.before-2.ensures ∙ ap (λ n. filter (is_before n) c.since.result) two ∙ ap (filter (is_before (nat_of to))) (c.since.ensures ∙ ap (λ n. filter (is_since n) found) one) in
    let late : floor ≤ℤ from = subst (λ (w : HistoryState). w.floor ≤ℤ from) (sym c.self.view_is) le in
    subst (Finds P from to s) (sym same)
    (found_stands P from to floor h.older h.ring found c.self.invariant.before c.self.invariant.since c.find-found.ensures.found s late (subst (StandsFor s) (sym c.self.view_is) stands))

pub returns-clause-all_in_order : goal.returns-clause-all_in_order
returns-clause-all_in_order c = subst (λ (w : HistoryState). IsInKeyOrder w.entries) c.self.view_is c.find-found.ensures.all_in_order
