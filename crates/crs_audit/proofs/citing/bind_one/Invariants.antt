use Rattle.crs_audit.proofs.citing.bind_one.Given as goal

abbrev pub ghosts-bind_with : goal.ghosts-bind_with
ghosts-bind_with a = record { name = a.blank.name; parts = a.blank.parts }
