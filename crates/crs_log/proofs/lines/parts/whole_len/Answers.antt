use Rattle.std.proofs.Common.{◌+◌, ◌<◌, ◌∙◌, ap, sym, subst}
use Rattle.std.specs.List.{prefix_len}
use Rattle.crs_base.specs.Lines.{is_no_feed}
use Rattle.crs_log.proofs.Moved.{within_tail}
use Rattle.crs_log.proofs.lines.parts.whole_len.Goals as goal

pub returns-clause-within : goal.returns-clause-within
returns-clause-within c = subst (λ k. c.args.from + k < c.args.tail) (sym (c.line_len.ensures.value ∙ ap (prefix_len is_no_feed) c.split_at.ensures.back)) (within_tail c.args.from c.args.tail c.args.held.now c.requires.tail c.requires.more)
