use Rattle.crs_language_tests.proofs.compile.text_of.Goals as goal

pub minimal_text-requires-clause-known : goal.minimal_text-requires-clause-known
minimal_text-requires-clause-known c = rw c.in_ok-plans.ensures.chronicles c.requires.printable
