use Rattle.crs_hints.proofs.walking.+values.Given as goal

abbrev pub decreases-values : goal.decreases-values
decreases-values l = l.most
