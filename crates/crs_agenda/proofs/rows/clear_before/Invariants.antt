use Rattle.std.proofs.Common.{◌≡◌, drop, length}
use Rattle.crs_agenda.specs.Places.{AreEmptyBefore}
use Rattle.crs_agenda.proofs.rows.clear_before.Given as goal

abbrev pub invariant-loop-i : goal.invariant-loop-i
invariant-loop-i l = record {
  empty : AreEmptyBefore l.i l.buckets;
  rest : drop l.end l.buckets ≡ drop l.end l.fn.buckets;
  len : length l.buckets ≡ length l.fn.buckets;
}
