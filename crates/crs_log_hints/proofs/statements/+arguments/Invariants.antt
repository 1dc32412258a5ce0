use Rattle.crs_log_hints.proofs.statements.+arguments.Given as goal

abbrev pub decreases-arguments : goal.decreases-arguments
decreases-arguments l = l.most
