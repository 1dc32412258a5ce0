use Rattle.std.proofs.Common.{◌≤◌, ◌++◌, filter, sym, ap, subst, ◌∙◌}
use Rattle.crs_history.specs.Histories.{entries_of}
use Rattle.crs_history.specs.Dates.{IsByDate}
use Rattle.crs_history.specs.Looking.{is_since}
use Rattle.crs_history.proofs.Split.{ordered_front, ordered_back, filter-append}
use Rattle.crs_history.proofs.found.Found.since.Goals as goal

pub split_by_date-requires : goal.split_by_date-requires
split_by_date-requires c = ordered_front (λ d e. d.date ≤ e.date) (entries_of c.self.inside.front.now) (entries_of c.self.inside.back.now) (subst IsByDate (sym c.self.view_is) c.requires)

pub split_by_date-requires-2 : goal.split_by_date-requires-2
split_by_date-requires-2 c = ordered_back (λ d e. d.date ≤ e.date) (entries_of c.self.inside.front.now) (entries_of c.self.inside.back.now) (subst IsByDate (sym c.self.view_is) c.requires)

pub returns : goal.returns
returns c =
    let p = is_since c.args.date in
    let front = entries_of c.self.inside.front.now in
    let back = entries_of c.self.inside.back.now in
    ap (λ w. w ++ entries_of c.split_by_date-2.result.1.now) c.split_by_date.ensures.since ∙ ap (λ w. filter p front ++ w) c.split_by_date-2.ensures.since
    ∙ sym (filter-append p front back) ∙ ap (filter p) c.self.view_is
