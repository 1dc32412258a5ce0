use Rattle.crs_core_tests.proofs.instances.fork_first.Given as goal

abbrev pub ghosts-fork_apart : goal.ghosts-fork_apart
ghosts-fork_apart a = record { name = a.blank.name; parts = a.blank.parts }
