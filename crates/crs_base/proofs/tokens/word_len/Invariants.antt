use Rattle.std.proofs.Common.{◌≡◌, ◌+◌, drop}
use Rattle.std.specs.List.{prefix_len}
use Rattle.crs_base.specs.Symbols.{is_symbol_byte}
use Rattle.crs_base.proofs.tokens.word_len.Given as goal

abbrev pub invariant-loop-i : goal.invariant-loop-i
invariant-loop-i l = l.i + prefix_len is_symbol_byte (drop l.i l.bytes) ≡ prefix_len is_symbol_byte l.bytes
