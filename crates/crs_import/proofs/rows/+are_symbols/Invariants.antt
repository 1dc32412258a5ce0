use Rattle.crs_import.proofs.rows.+are_symbols.Given as goal

abbrev pub decreases-are_symbols : goal.decreases-are_symbols
decreases-are_symbols l = l.room
