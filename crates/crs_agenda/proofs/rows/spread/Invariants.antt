use Rattle.std.proofs.Common.{◌≡◌, ◌++◌, drop, length, take}
use Rattle.std.specs.List.Sorted.{IsPermutation}
use Rattle.crs_agenda.specs.Places.{InPlace, pairs_of}
use Rattle.crs_agenda.proofs.rows.spread.Given as goal

abbrev pub invariant-loop-i : goal.invariant-loop-i
invariant-loop-i l = record {
  all : IsPermutation (take l.i l.source ++ pairs_of l.fn.buckets) (pairs_of l.buckets);
  in_place : InPlace l.base l.buckets;
  rest : drop l.end l.buckets ≡ drop l.end l.fn.buckets;
  len : length l.buckets ≡ length l.fn.buckets;
}
