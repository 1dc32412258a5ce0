use Rattle.std.proofs.Common.{arith, map, ap, sym, ◌∙◌}
use Rattle.crs_base.specs.Lines.{lines_of}
use Rattle.crs_parse.specs.Faults.{after_lines}
use Rattle.crs_parse.specs.SeenReading as see
use Rattle.crs_parse.specs.ModelSteps as steps
use Rattle.crs_parse.proofs.Grows.{grows_part, among_then}
use Rattle.crs_parse.proofs.models.read_all.Goals as goal

pub returns-in_err-behind-clause-grows : goal.returns-in_err-behind-clause-grows
returns-in_err-behind-clause-grows c =
    grows_part (lines_of c.loop-rest.rest.now) (lines_of c.args.text.now) c.args.symbols.now.texts c.loop-rest.symbols.texts c.next_part.new.symbols.texts c.loop-rest.invariant.among c.loop-rest.invariant.grows c.in_err-behind.ensures.grows

pub loop-rest-preserved : goal.loop-rest-preserved
loop-rest-preserved c = record {
  told = ap (λ k. after_lines k c.in_ok-behind.next (steps.reading_out (map see.name_of c.next_part.new.names.items) (map see.closed_of c.next_part.new.done.items) c.next_part.new.symbols.texts) (lines_of c.in_ok-behind.behind.now)) c.in_ok-behind.ensures.limit
      ∙ sym c.in_ok-behind.ensures.moved ∙ c.loop-rest.invariant.told;
  grows = grows_part (lines_of c.loop-rest.rest.now) (lines_of c.args.text.now) c.args.symbols.now.texts c.loop-rest.symbols.texts c.next_part.new.symbols.texts c.loop-rest.invariant.among c.loop-rest.invariant.grows c.in_ok-behind.ensures.grows;
  among = among_then (lines_of c.in_ok-behind.behind.now) (lines_of c.loop-rest.rest.now) (lines_of c.args.text.now) c.in_ok-behind.ensures.rest c.loop-rest.invariant.among;
  limit = c.in_ok-behind.ensures.limit ∙ c.loop-rest.invariant.limit;
  room = let h = c.loop-rest.invariant.room in let k = c.in_ok-behind.ensures.counted in omega (arith, h, k);
}
