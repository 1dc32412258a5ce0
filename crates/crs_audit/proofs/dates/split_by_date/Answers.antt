use Rattle.std.proofs.Common.{rules, of_calls, arith, nat_lt, nat_le, ap, ◌∙◌, ◌≤◌}
use Rattle.std.proofs.lemmas.Fn.{always_returns_same}
use Rattle.crs_base.specs.Seen.{entry_of}
use Rattle.crs_audit.specs.Runs.{entries_of}
use Rattle.crs_audit.specs.CitedDates.{is_before, is_since}
use Rattle.crs_audit.proofs.Dated.{in_places, take_filter, drop_filter, filter_seen, ordered_under, lt_not_le, not_lt_le, lt_down}
use Rattle.crs_audit.proofs.dates.split_by_date.Goals as goal

pub returns-clause-before : goal.returns-clause-before
returns-clause-before c =
    let xs = c.args.items.now in
    let date = c.args.date in
    let sorted = ordered_under (λ r. entry_of r.value) (λ d e. d.date ≤ e.date) xs c.requires in
    let point = c.partition_point-place.ensures.partitioned (λ r. nat_lt r.value.date date) (always_returns_same _ _ _ (λ a r f k. search (rules, of_calls)))
    (λ i j d l m up. lt_down _ _ date (in_places (λ r. r.value.date) xs sorted i j d l m) up) in
    ap entries_of (c.split_at.ensures.front ∙ take_filter (λ r. nat_lt r.value.date date) xs c.partition_point-place.result (λ k d l. point.0 k d (omega arith) l) (λ k d l m. point.1 k d l m))
    ∙ filter_seen (λ r. entry_of r.value) (is_before date) xs

pub returns-clause-since : goal.returns-clause-since
returns-clause-since c =
    let xs = c.args.items.now in
    let date = c.args.date in
    let sorted = ordered_under (λ r. entry_of r.value) (λ d e. d.date ≤ e.date) xs c.requires in
    let point = c.partition_point-place.ensures.partitioned (λ r. nat_lt r.value.date date) (always_returns_same _ _ _ (λ a r f k. search (rules, of_calls)))
    (λ i j d l m up. lt_down _ _ date (in_places (λ r. r.value.date) xs sorted i j d l m) up) in
    ap entries_of (c.split_at.ensures.back ∙ drop_filter (λ r. nat_le date r.value.date) xs c.partition_point-place.result (λ k d l. lt_not_le _ _ (point.0 k d (omega arith) l)) (λ k d l m. not_lt_le _ _ (point.1 k d l m)))
    ∙ filter_seen (λ r. entry_of r.value) (is_since date) xs
