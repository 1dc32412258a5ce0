use Rattle.crs_compile.proofs.Plain.{together_proper}
use Rattle.crs_language_tests.proofs.compile.together.Goals as goal

pub returns-clause-proper : goal.returns-clause-proper
returns-clause-proper c = together_proper _ (record { symbols = c.requires.symbols; plain = c.requires.plain }) c.new.ensures c.requires.few c.requires.quiet c.requires.proper
