use Rattle.crs_model.proofs.strata.+lag_below.Given as goal

abbrev pub decreases-lag_below : goal.decreases-lag_below
decreases-lag_below l = l.stratum
