-- The listeners that the program hands to a command.
use Rattle.std.specs.Prelude.{List, [], ◌∷◌}
use Rattle.crs_report.specs.Listeners.{Member}

-- one of each kind, in the order of their numbers, with no figures yet; the last counts down from ten
abbrev pub one_of_each_kind : List Member
one_of_each_kind = (0, []) ∷ (1, []) ∷ (2, []) ∷ (3, 10 ∷ []) ∷ []
