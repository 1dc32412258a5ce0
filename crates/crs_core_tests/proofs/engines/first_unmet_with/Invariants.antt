use Rattle.crs_core_tests.proofs.engines.first_unmet_with.Given as goal

abbrev pub ghosts-first_unmet_apart : goal.ghosts-first_unmet_apart
ghosts-first_unmet_apart a = record { name = a.blank.name; parts = a.blank.parts }
