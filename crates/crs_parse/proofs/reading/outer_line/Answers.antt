use Rattle.std.proofs.Common.{sym, subst, length, ◌≤◌, ◌∙◌}
use Rattle.crs_base.specs.SeenLines.{line_seen}
use Rattle.crs_parse.specs.ModelSteps.{HasSymbols}
use Rattle.crs_parse.proofs.Bytes.{bytes_short}
use Rattle.crs_parse.proofs.Premises.{are_declared}
use Rattle.crs_parse.specs.Grows.{Grows, read_symbols}
use Rattle.crs_parse.proofs.Grows.{grows_outside}
use Rattle.crs_parse.specs.ModelSteps.{outside_line}
use Rattle.crs_parse.proofs.reading.outer_line.Goals as goal

pub read_outside-requires : goal.read_outside-requires
read_outside-requires c = subst (λ b. length b ≤ 4096) (sym c.line_bytes-bytes.ensures) (bytes_short (line_seen c.args.line) (sym c.is_long.ensures ∙ c.if-is_long.false))

pub declare_numbered-requires : goal.declare_numbered-requires
declare_numbered-requires c = subst HasSymbols c.in-Ok.ensures (are_declared c.line_bytes-bytes.result.now)

pub returns-in-Ok-clause-grows : goal.returns-in-Ok-clause-grows
returns-in-Ok-clause-grows c =
    grows_outside (line_seen c.args.line) c.args.symbols.now.texts c.declare_numbered.new.symbols.texts
    (subst (λ bs. Grows (read_symbols (outside_line bs)) c.args.symbols.now.texts c.declare_numbered.new.symbols.texts) c.line_bytes-bytes.ensures
    (subst (λ o. Grows (read_symbols o) c.args.symbols.now.texts c.declare_numbered.new.symbols.texts) (sym c.in-Ok.ensures) c.declare_numbered.ensures.grows))
