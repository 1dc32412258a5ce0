use Rattle.crs_core_tests.proofs.instances.bind_first.Given as goal

abbrev pub ghosts-bind_apart : goal.ghosts-bind_apart
ghosts-bind_apart a = record { name = a.blank.name; parts = a.blank.parts }
