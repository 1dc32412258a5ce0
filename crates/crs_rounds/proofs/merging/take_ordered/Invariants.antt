use Rattle.crs_rounds.proofs.merging.take_ordered.Given as goal

abbrev pub ghosts-take_clock : goal.ghosts-take_clock
ghosts-take_clock a = record { name = a.blank.name; parts = a.blank.parts }

abbrev pub ghosts-take_end : goal.ghosts-take_end
ghosts-take_end a = record { name = a.blank.name; parts = a.blank.parts }
