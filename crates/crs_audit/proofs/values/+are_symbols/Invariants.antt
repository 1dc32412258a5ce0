use Rattle.std.proofs.Common.{length}
use Rattle.crs_audit.proofs.values.+are_symbols.Given as goal

abbrev pub decreases-are_symbols : goal.decreases-are_symbols
decreases-are_symbols l = length l.terms.now
