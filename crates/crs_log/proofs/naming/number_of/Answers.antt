use Rattle.crs_log.proofs.Numbered.{number_found}
use Rattle.crs_log.proofs.Parts.{text_found}
use Rattle.crs_log.proofs.naming.number_of.Goals as goal

pub returns-clause-number : goal.returns-clause-number
returns-clause-number c = number_found c.args.symbols.now.texts c.args.text.now c.find.result c.len.ensures.distinct c.find.ensures.number c.find.ensures.known

pub returns-clause-text : goal.returns-clause-text
returns-clause-text c = text_found c.args.symbols.now.texts c.args.text.now c.find.result c.find.ensures.number c.find.ensures.known
