use Rattle.std.proofs.Common.{sym, subst, length, ◌≤◌, ◌∙◌}
use Rattle.crs_base.specs.SeenLines.{line_seen}
use Rattle.crs_parse.proofs.Bytes.{bytes_short}
use Rattle.crs_parse.proofs.Premises.{are_read}
use Rattle.crs_parse.specs.Grows.{Grows, read_symbols}
use Rattle.crs_parse.proofs.Grows.{grows_inside}
use Rattle.crs_parse.specs.ModelSteps.{inside_line}
use Rattle.crs_parse.proofs.reading.chronicle_line.Goals as goal

pub step_inside-requires : goal.step_inside-requires
step_inside-requires c = record {
  symbols = are_read c.line_bytes-bytes.result.now;
  short = subst (λ b. length b ≤ 4096) (sym c.line_bytes-bytes.ensures) (bytes_short (line_seen c.args.line) (sym c.is_long.ensures ∙ c.if-is_long.false));
}

pub returns-clause-grows : goal.returns-clause-grows
returns-clause-grows c =
    grows_inside (line_seen c.args.line) c.args.symbols.now.texts c.step_inside.new.symbols.texts
    (subst (λ bs. Grows (read_symbols (inside_line bs)) c.args.symbols.now.texts c.step_inside.new.symbols.texts) c.line_bytes-bytes.ensures c.step_inside.ensures.grows)
