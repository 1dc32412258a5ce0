use Rattle.std.proofs.Common.{sym}
use Rattle.crs_log.proofs.Numbered.{none_among}
use Rattle.crs_log.proofs.naming.is_among.Goals as goal

pub returns-in_default : goal.returns-in_default
returns-in_default c = sym (none_among c.args.symbols.now.texts c.args.value.now c.args.values.now c.requires c.in_default.ensures.number)
