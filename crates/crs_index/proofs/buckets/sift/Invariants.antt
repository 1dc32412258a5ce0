use Rattle.std.proofs.Common.{◌≡◌, ◌++◌, map, filter, take, drop}
use Rattle.crs_agenda.specs.Freshness.{is_fresh}
use Rattle.crs_index.specs.Rows.{rows}
use Rattle.crs_index.proofs.buckets.sift.Given as goal

abbrev pub invariant-loop-bucket : goal.invariant-loop-bucket
invariant-loop-bucket l =
    rows l.bucket-items ≡ map (filter (is_fresh l.serials)) (take l.bucket-index (rows l.initial.bucket-items)) ++ drop l.bucket-index (rows l.initial.bucket-items)
