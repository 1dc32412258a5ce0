use Rattle.std.proofs.Common.{◌≡◌, ◌+◌, ◌≤◌, map, length}
use Rattle.crs_base.specs.Lines.{lines_of}
use Rattle.crs_parse.specs.Faults as faults
use Rattle.crs_parse.specs.ModelSteps as steps
use Rattle.crs_parse.specs.Grows.{Grows, AreAmong, lines_symbols}
use Rattle.crs_parse.specs.SeenReading as see
use Rattle.crs_parse.proofs.models.read_all.Given as goal

-- the answer for what is left is the answer for all
abbrev pub invariant-loop-rest : goal.invariant-loop-rest
invariant-loop-rest l = record {
  told : faults.after_lines l.symbols.limit l.line (steps.reading_out (map see.name_of l.names.items) (map see.closed_of l.done.items) l.symbols.texts) (lines_of l.rest)
      ≡ faults.after_lines l.fn.symbols.limit 1 (faults.nothing_read l.fn.symbols.texts) (lines_of l.text);
  grows : Grows (lines_symbols (lines_of l.text)) l.fn.symbols.texts l.symbols.texts;
  among : AreAmong (lines_of l.rest) (lines_of l.text);
  limit : l.symbols.limit ≡ l.fn.symbols.limit;
  room : l.line + length l.rest ≤ 1 + length l.text;
}

abbrev pub decreases-loop-rest : goal.decreases-loop-rest
decreases-loop-rest l = length l.rest
