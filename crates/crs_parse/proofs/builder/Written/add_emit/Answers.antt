use Rattle.crs_parse.proofs.Chains.{emit_named}
use Rattle.crs_parse.proofs.builder.Written.add_emit.Goals as goal

pub returns-in-Some : goal.returns-in-Some
returns-in-Some c = emit_named _ _ _ _ c.in-Some.ensures
