use Rattle.std.proofs.Common.{arith, map, ◌∙◌}
use Rattle.crs_parse.specs.SeenReading as see
use Rattle.crs_parse.proofs.Until.{until_step}
use Rattle.crs_base.specs.Lines.{lines_of}
use Rattle.crs_base.specs.SeenLines.{line_seen}
use Rattle.crs_parse.proofs.Grows.{grows_line, among_rest}
use Rattle.crs_parse.proofs.reading.read_chronicle.Goals as goal

pub returns-in-Ok-true-clause-grows : goal.returns-in-Ok-true-clause-grows
returns-in-Ok-true-clause-grows c = grows_line (line_seen c.first_line.result.0) (lines_of c.first_line.result.1.now) (lines_of c.loop-rest.rest.now) (lines_of c.args.text.now) c.args.symbols.now.texts c.loop-rest.symbols.texts c.chronicle_line.new.symbols.texts c.first_line.ensures.line c.loop-rest.invariant.among c.loop-rest.invariant.grows c.in-Ok-true.ensures.grows

pub returns-in-Ok-true-clause-rest : goal.returns-in-Ok-true-clause-rest
returns-in-Ok-true-clause-rest c = among_rest (line_seen c.first_line.result.0) (lines_of c.first_line.result.1.now) (lines_of c.loop-rest.rest.now) (lines_of c.args.text.now) c.first_line.ensures.line c.loop-rest.invariant.among

pub returns-in-Err-Word-clause-grows : goal.returns-in-Err-Word-clause-grows
returns-in-Err-Word-clause-grows c = grows_line (line_seen c.first_line.result.0) (lines_of c.first_line.result.1.now) (lines_of c.loop-rest.rest.now) (lines_of c.args.text.now) c.args.symbols.now.texts c.loop-rest.symbols.texts c.chronicle_line.new.symbols.texts c.first_line.ensures.line c.loop-rest.invariant.among c.loop-rest.invariant.grows c.in-Err-Word.ensures.grows

pub returns-in-Err-Memory-clause-grows : goal.returns-in-Err-Memory-clause-grows
returns-in-Err-Memory-clause-grows c = grows_line (line_seen c.first_line.result.0) (lines_of c.first_line.result.1.now) (lines_of c.loop-rest.rest.now) (lines_of c.args.text.now) c.args.symbols.now.texts c.loop-rest.symbols.texts c.chronicle_line.new.symbols.texts c.first_line.ensures.line c.loop-rest.invariant.among c.loop-rest.invariant.grows c.in-Err-Memory.ensures.grows

pub loop-rest-preserved : goal.loop-rest-preserved
loop-rest-preserved c = record {
  told = until_step c.loop-rest.symbols.limit c.chronicle_line.new.symbols.limit (map see.name_of c.args.names.now) (map see.closed_of c.args.done.now) c.loop-rest.number (see.written_of c.loop-rest.c) (see.written_of c.chronicle_line.new.c) c.loop-rest.symbols.texts c.chronicle_line.new.symbols.texts
      (line_seen c.first_line.result.0) (lines_of c.first_line.result.1.now) (lines_of c.loop-rest.rest.now) c.in-Ok-false.field-0 c.in-Ok-false.ensures.limit c.first_line.ensures.line c.in-Ok-false.ensures.step c.in-Ok-false.field-0-test
      ∙ c.loop-rest.invariant.told;
  grows = grows_line (line_seen c.first_line.result.0) (lines_of c.first_line.result.1.now) (lines_of c.loop-rest.rest.now) (lines_of c.args.text.now) c.args.symbols.now.texts c.loop-rest.symbols.texts c.chronicle_line.new.symbols.texts c.first_line.ensures.line c.loop-rest.invariant.among c.loop-rest.invariant.grows c.in-Ok-false.ensures.grows;
  among = among_rest (line_seen c.first_line.result.0) (lines_of c.first_line.result.1.now) (lines_of c.loop-rest.rest.now) (lines_of c.args.text.now) c.first_line.ensures.line c.loop-rest.invariant.among;
  limit = c.in-Ok-false.ensures.limit ∙ c.loop-rest.invariant.limit;
  room = let h = c.loop-rest.invariant.room in let k = c.first_line.ensures.shorter in omega (arith, h, k);
  behind = let h = c.loop-rest.invariant.behind in let k = c.first_line.ensures.shorter in omega (arith, h, k);
}
