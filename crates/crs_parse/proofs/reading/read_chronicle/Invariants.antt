use Rattle.std.proofs.Common.{◌≡◌, ◌+◌, ◌≤◌, map, length}
use Rattle.crs_base.specs.Lines.{lines_of}
use Rattle.crs_parse.specs.ModelSteps as steps
use Rattle.crs_parse.specs.Grows.{Grows, AreAmong, lines_symbols}
use Rattle.crs_parse.specs.SeenReading as see
use Rattle.crs_parse.proofs.reading.read_chronicle.Given as goal

-- the answer for what is left is the answer for all
abbrev pub invariant-loop-rest : goal.invariant-loop-rest
invariant-loop-rest l = record {
  told : steps.until_close l.symbols.limit (map see.name_of l.names) (map see.closed_of l.done) l.number (see.written_of l.c) l.symbols.texts (lines_of l.rest)
      ≡ steps.until_close l.fn.symbols.limit (map see.name_of l.names) (map see.closed_of l.done) l.line (see.written_of l.fn.c) l.fn.symbols.texts (lines_of l.text);
  grows : Grows (lines_symbols (lines_of l.text)) l.fn.symbols.texts l.symbols.texts;
  among : AreAmong (lines_of l.rest) (lines_of l.text);
  limit : l.symbols.limit ≡ l.fn.symbols.limit;
  room : l.number + length l.rest ≤ l.line + length l.text;
  behind : length l.rest ≤ length l.text;
}

abbrev pub decreases-loop-rest : goal.decreases-loop-rest
decreases-loop-rest l = length l.rest
