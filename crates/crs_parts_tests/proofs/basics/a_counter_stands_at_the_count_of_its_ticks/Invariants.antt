use Rattle.crs_parts_tests.proofs.basics.a_counter_stands_at_the_count_of_its_ticks.Given as goal

abbrev pub ghosts-count_apart : goal.ghosts-count_apart
ghosts-count_apart a = record { name = a.blank.name; parts = a.blank.parts }
