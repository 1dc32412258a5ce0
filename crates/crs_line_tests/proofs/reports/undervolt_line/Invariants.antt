use Rattle.crs_line_tests.proofs.reports.undervolt_line.Given as goal

abbrev pub ghosts-bound : goal.ghosts-bound
ghosts-bound a = record { name = a.blank.name; parts = a.blank.parts }
