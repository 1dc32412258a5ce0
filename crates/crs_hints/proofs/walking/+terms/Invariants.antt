use Rattle.crs_hints.proofs.walking.+terms.Given as goal

abbrev pub decreases-terms : goal.decreases-terms
decreases-terms l = l.most
