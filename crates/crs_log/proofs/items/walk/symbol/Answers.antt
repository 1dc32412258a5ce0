use Rattle.std.proofs.Common.{◌≡◌, ◌+◌, ◌-◌, ◌∙◌, sym, arith}
use Rattle.crs_log.proofs.Places.{word_at_place, symbol_at_place}
use Rattle.crs_log.proofs.items.walk.symbol.Goals as goal

pub returns-then-len-le64 : goal.returns-then-len-le64
returns-then-len-le64 c =
    let line = c.args.line.now in
    let start = c.behind_blanks-start.result in
    let n = c.word_end.result - c.behind_blanks-start.result in
    let sum : start + n ≡ c.word_end.result = omega (arith, c.word_end.ensures.value) in
    record {
      stands = record {
        tokens = sym c.behind_blanks-start.ensures.tokens ∙ word_at_place line start n (sum ∙ c.word_end.ensures.value) c.if-len-ge1.true;
        onward = omega arith;
        within = omega arith;
      };
      symbol = symbol_at_place line start n (sum ∙ c.word_end.ensures.value) c.if-len-ge1.true c.if-len-le64.true (omega arith);
    }
