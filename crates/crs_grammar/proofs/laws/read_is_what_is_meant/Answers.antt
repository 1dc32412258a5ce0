use Rattle.crs_grammar.proofs.GivesStatements.{read_is_meant}
use Rattle.crs_grammar.proofs.TakesStatements.{meant_is_read}
use Rattle.crs_grammar.proofs.laws.read_is_what_is_meant.Goals as goal

pub returns : goal.returns
returns c = record { sound = read_is_meant; complete = meant_is_read }
