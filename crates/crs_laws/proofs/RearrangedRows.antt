-- The parts of a log worked by hand, and two logs that are rearranged.
use Rattle.std.proofs.Common.{◌≡◌, [], ◌∷◌, refl, Some, None, rules}
use Rattle.std.specs.Prelude.{codes}
use Rattle.crs_base.specs.Lines.{lines_of}
use Rattle.crs_log.specs.Items.{Event}
use Rattle.crs_laws.specs.Rearranged.{AreRearranged, AtClock, parts_of, items_of}

abbrev a_at_1 : Event
a_at_1 = record { date = 1; name = codes "a"; args = []; change = None }

abbrev b_at_2 : Event
b_at_2 = record { date = 2; name = codes "b"; args = []; change = None }

-- a comment and a blank line give nothing, a delay is told at the next clock, and the last part has no mark behind it
parts : parts_of 0 (items_of (lines_of (codes "# log\n1 a\n\ndelay 4\n2 b\nclock 3\n2 b\ndelay 5\n")))
    ≡ record { events = a_at_1 ∷ b_at_2 ∷ []; ending = Some (AtClock 4 3) } ∷ record { events = b_at_2 ∷ []; ending = None } ∷ []
parts = refl

-- two events before one mark change places, and the delay is set between other events
changed_places : AreRearranged (lines_of (codes "delay 1\n1 a\n2 b\nclock 3\nend\n")) (lines_of (codes "2 b\n# later\ndelay 7\n1 a\ndelay 1\nclock 3\ndelay 2\nend\n"))
changed_places = (
  record { events = record { moves = (0, 1) ∷ []; below = search rules; is = refl }; ending = refl },
  (record { events = record { moves = []; below = search rules; is = refl }; ending = refl }, tt),
)
