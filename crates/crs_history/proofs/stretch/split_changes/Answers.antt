use Rattle.std.proofs.Common.{rules, of_calls, arith, ◌∙◌, ◌≤◌}
use Rattle.std.proofs.lemmas.Fn.{always_returns_same}
use Rattle.crs_base.specs.Seen.{entry_of}
use Rattle.crs_history.specs.Runs.{is_early, is_late}
use Rattle.crs_history.proofs.Places.{in_places}
use Rattle.crs_history.proofs.Split.{take_filter, drop_filter, ordered_under, lt_not_le, not_lt_le, lt_down}
use Rattle.crs_history.proofs.stretch.split_changes.Goals as goal

pub returns-clause-before : goal.returns-clause-before
returns-clause-before c =
    let xs = c.args.items.now in
    let date = c.args.date in
    let sorted = ordered_under (λ r. entry_of r.entry.value) (λ d e. d.date ≤ e.date) xs c.requires in
    let point = c.partition_point-place.ensures.partitioned (is_early date) (always_returns_same _ _ _ (λ a r f k. search (rules, of_calls)))
    (λ i j d l m up. lt_down _ _ date (in_places (λ r. r.entry.value.date) xs sorted i j d l m) up) in
    c.split_at.ensures.front ∙ take_filter (is_early date) xs c.partition_point-place.result (λ k d l. point.0 k d (omega arith) l) (λ k d l m. point.1 k d l m)

pub returns-clause-since : goal.returns-clause-since
returns-clause-since c =
    let xs = c.args.items.now in
    let date = c.args.date in
    let sorted = ordered_under (λ r. entry_of r.entry.value) (λ d e. d.date ≤ e.date) xs c.requires in
    let point = c.partition_point-place.ensures.partitioned (is_early date) (always_returns_same _ _ _ (λ a r f k. search (rules, of_calls)))
    (λ i j d l m up. lt_down _ _ date (in_places (λ r. r.entry.value.date) xs sorted i j d l m) up) in
    c.split_at.ensures.back ∙ drop_filter (is_late date) xs c.partition_point-place.result (λ k d l. lt_not_le _ _ (point.0 k d (omega arith) l)) (λ k d l m. not_lt_le _ _ (point.1 k d l m))
