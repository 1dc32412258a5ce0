use Rattle.std.proofs.Common.{◌≡◌, ◌-◌, map, subst, sym, IfSome}
use Rattle.crs_base.specs.Entry.{args_text}
use Rattle.crs_base.specs.SeenTokens.{word_at}
use Rattle.crs_log.specs.SeenItems.{text_of}
use Rattle.crs_log.proofs.Whole.{some_args}
use Rattle.crs_log.proofs.entries.whole.args_end.Goals as goal

pub returns-then-first-at-clause-text : goal.returns-then-first-at-clause-text
returns-then-first-at-clause-text c =
    let line = c.args.line.now in
    subst (λ xs. IfSome c.more_end.result (λ e. word_at line c.args.at (e - c.args.at) ≡ args_text (map (text_of line) xs))) (sym c.in-Some.ensures.cases.0)
    (some_args line c.args.at c.end_of.result c.in-Some.first.now c.in-Some.more.now (c.has.ensures.within c.if-has.true) (c.has.ensures.byte c.if-has.true) c.if-first-at.true c.end_of.ensures c.more_end.result c.more_end.ensures.text c.more_end.ensures.onward)
