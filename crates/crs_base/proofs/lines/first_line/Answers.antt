use Rattle.crs_base.proofs.LineSteps.{read_front, read_last}
use Rattle.crs_base.proofs.lines.first_line.Goals as goal

pub returns-then-n-text-clause-line : goal.returns-then-n-text-clause-line
returns-then-n-text-clause-line c = read_front c.args.text.now c.split_at.result.0.now c.split_at-then-n-text.result.1.now c.line_len-n.result c.line_len-n.ensures.value c.if-n-text.true c.split_at.ensures.front c.split_at-then-n-text.ensures.back

pub returns-else-n-text-clause-line : goal.returns-else-n-text-clause-line
returns-else-n-text-clause-line c = read_last c.args.text.now c.split_at-else-n-text.result.0.now c.split_at-else-n-text.result.1.now c.line_len-n.result c.line_len-n.ensures.value c.requires c.line_len-n.ensures.bound c.if-n-text.false c.split_at-else-n-text.ensures.front c.split_at-else-n-text.ensures.back
