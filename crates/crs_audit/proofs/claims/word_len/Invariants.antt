use Rattle.std.proofs.Common.{◌≡◌, ◌+◌, drop}
use Rattle.std.specs.List.{prefix_len}
use Rattle.crs_audit.specs.Claims.{is_inner}
use Rattle.crs_audit.proofs.claims.word_len.Given as goal

abbrev pub invariant-loop-i : goal.invariant-loop-i
invariant-loop-i l = l.i + prefix_len is_inner (drop l.i l.bytes) ≡ prefix_len is_inner l.bytes
