use Rattle.crs_grammar.proofs.CanonTokens.{canonical_is_read}
use Rattle.crs_grammar.proofs.laws.canonical_statement_is_read.Goals as goal

pub returns : goal.returns
returns c = canonical_is_read
