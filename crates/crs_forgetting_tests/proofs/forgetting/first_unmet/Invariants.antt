use Rattle.crs_forgetting_tests.proofs.forgetting.first_unmet.Given as goal

abbrev pub ghosts-first_unmet_apart : goal.ghosts-first_unmet_apart
ghosts-first_unmet_apart a = record { name = a.blank.name; parts = a.blank.parts }
