use Rattle.std.proofs.Common.{◌≡◌, ◌≤◌, ◌-◌, ◌+◌, length, drop}
use Rattle.std.specs.List.{prefix_len}
use Rattle.crs_base.specs.Symbols.{is_symbol_byte}
use Rattle.crs_log.proofs.items.walk.word_end.Given as goal

-- the word from here on ends where it all does
abbrev pub invariant-loop-i : goal.invariant-loop-i
invariant-loop-i l = record {
  ends : l.i + prefix_len is_symbol_byte (drop l.i l.line) ≡ l.at + prefix_len is_symbol_byte (drop l.at l.line);
  within : l.i ≤ length l.line;
}

abbrev pub decreases-loop-i : goal.decreases-loop-i
decreases-loop-i l = length l.line - l.i
