use Rattle.std.proofs.Common.{◌≡◌, ◌++◌, length, map, take, drop}
use Rattle.std.specs.List.{filter}
use Rattle.crs_agenda.specs.Freshness.{is_fresh_pair}
use Rattle.crs_agenda.specs.Places.{pairs_of}
use Rattle.crs_agenda.proofs.rows.keep_fresh.Given as goal

abbrev pub invariant-loop-i : goal.invariant-loop-i
invariant-loop-i l = (l.left ≡ length (pairs_of l.buckets)) × (l.buckets ≡ map (filter (is_fresh_pair l.serials)) (take l.i l.fn.buckets) ++ drop l.i l.fn.buckets)
