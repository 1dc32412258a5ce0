use Rattle.std.proofs.Common.{rules, ◌≡◌, ◌∙◌, ◌≤◌, sym, ap, subst, filter}
use Rattle.std.proofs.lemmas.Int.{to_z-of_z}
use mir.Syntax.{w64}
use mir.Val.{SFits}
use Rattle.crs_base.proofs.Words.{ordered_filter}
use Rattle.crs_audit.specs.Runs.{entries_of}
use Rattle.crs_audit.specs.CitedDates.{IsByDate, is_before, is_since, nat_of}
use Rattle.crs_audit.proofs.dates.dated_in.Goals as goal

pub split_by_date-requires-2 : goal.split_by_date-requires-2
split_by_date-requires-2 c = subst IsByDate (sym c.split_by_date.ensures.before)
    (ordered_filter (λ d e. d.date ≤ e.date) (is_before c.to_date.result) (entries_of c.args.items.now) c.requires)

pub returns : goal.returns
returns c =
    let from : SFits w64 c.args.from = search rules in
    let to : SFits w64 c.args.to = search rules in
    let low : c.to_date-2.result ≡ nat_of c.args.from = c.to_date-2.ensures ∙ ap nat_of (to_z-of_z w64 c.args.from from) in
    let high : c.to_date.result ≡ nat_of c.args.to = c.to_date.ensures ∙ ap nat_of (to_z-of_z w64 c.args.to to) in
    c.split_by_date-2.ensures.since ∙ ap (filter (is_since c.to_date-2.result)) c.split_by_date.ensures.before
    ∙ (λ i. filter (is_since (low i)) (filter (is_before (high i)) (entries_of c.args.items.now)))
