use Rattle.crs_import.proofs.Parts.{NoneBelow}
use Rattle.crs_import.proofs.rows.part_len.Given as goal

abbrev pub invariant-loop-i : goal.invariant-loop-i
invariant-loop-i l = NoneBelow l.text l.i
