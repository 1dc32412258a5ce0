use Rattle.std.proofs.Common.{◌≡◌, ◌∙◌, sym, cond, None, true, false}
use Rattle.crs_log.specs.ItemOf.{pair_of, symbol_of}
use Rattle.crs_log.proofs.Six.{six_change, token_at, marks_of}
use Rattle.crs_log.proofs.items.parts.change.Goals as goal

pub returns-then-change_marks : goal.returns-then-change_marks
returns-then-change_marks c =
    let line = c.args.line.now in let xs = c.args.tokens.now in
    let marks : marks_of line xs ≡ true = sym (c.change_marks.ensures line) ∙ c.if-change_marks.true in
    c.pair.ensures line ∙ (λ i. pair_of (c.symbol.ensures.text i) (c.symbol-then-change_marks.ensures.text i))
    ∙ sym (six_change line xs c.in-len6.len_at_least c.in-len6.len_below ∙ (λ i. cond (marks i) (pair_of (symbol_of (token_at line xs 2)) (symbol_of (token_at line xs 4))) None))

pub returns-else-change_marks : goal.returns-else-change_marks
returns-else-change_marks c =
    let line = c.args.line.now in let xs = c.args.tokens.now in
    let marks : marks_of line xs ≡ false = sym (c.change_marks.ensures line) ∙ c.if-change_marks.false in
    sym (six_change line xs c.in-len6.len_at_least c.in-len6.len_below ∙ (λ i. cond (marks i) (pair_of (symbol_of (token_at line xs 2)) (symbol_of (token_at line xs 4))) None))
