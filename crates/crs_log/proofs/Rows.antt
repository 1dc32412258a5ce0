-- Logs worked by hand.
use Rattle.std.proofs.Common.{◌≡◌, ℕ, List, [], ◌∷◌, ◌++◌, refl, None, Some}
use Rattle.std.specs.Prelude.{codes}
use Rattle.crs_base.specs.Lines.{lines_of}
use Rattle.crs_model.specs.Models.{Message}
use Rattle.crs_base.specs.Entry.{canonical}
use Rattle.crs_log.specs.Items.{Event}
use Rattle.crs_log.specs.Known.{entry_of_event}
use Rattle.crs_log.specs.Reading.{numbered}
use Rattle.crs_model.specs.declared.recognition.Mark.TheVariants.{Clock as AtClock, Finish as AtEnd}
use Rattle.crs_log.specs.Run.{Setting, State, at_start, after_lines, outcomes, Passed, Refused, Accepted, Marked, Order, Back, Late, Arity, Form, Full, Values}

abbrev two : Setting
two = record { names = record { name = codes "a"; arity = 0; kind = Message } ∷ record { name = codes "b"; arity = 0; kind = Message } ∷ []; symbols = 100; entries = 100 }

abbrev start : State
start = at_start (codes "a" ∷ codes "b" ∷ codes "c" ∷ codes "t1" ∷ codes "t2" ∷ [])

abbrev lf : List ℕ
lf = 10 ∷ []

abbrev plain : ℕ → List ℕ → Event
plain date name = record { date = date; name = name; args = []; change = None }

-- an item behind the end
out_of_order : outcomes two start (numbered (lines_of (codes "1 a" ++ lf ++ codes "delay 2" ++ lf ++ codes "end" ++ lf ++ codes "2 a" ++ lf)))
    ≡ Accepted (entry_of_event 0 (plain 1 (codes "a"))) ∷ Passed ∷ Marked AtEnd ∷ Refused Order ∷ []
out_of_order = refl

-- a delay that changes: the horizon stays at 11, where a delay of 9 would have it fall, and rises to 14 with no delay
abbrev changed : List ℕ
changed = codes "delay 2\n10 a\nclock 13\ndelay 9\n12 b\nclock 14\n"

stays : (after_lines two start (numbered (lines_of (codes "delay 2\n10 a\nclock 13\n")))).horizon ≡ 11
stays = refl

still : (after_lines two start (numbered (lines_of changed))).horizon ≡ 11
still = refl

rises : (after_lines two start (numbered (lines_of (changed ++ codes "delay 0\nclock 14\n")))).horizon ≡ 14
rises = refl

-- and what is dated before it is late, though the delay has grown
late_still : outcomes two start (numbered (lines_of (codes "delay 2\n10 a\nclock 13\ndelay 9\n10 b\n")))
    ≡ Passed ∷ Accepted (entry_of_event 0 (plain 10 (codes "a"))) ∷ Marked (AtClock 13) ∷ Passed ∷ Refused (Late 10 11) ∷ []
late_still = refl

-- a clock that goes back
back : outcomes two start (numbered (lines_of (codes "clock 20" ++ lf ++ codes "clock 19" ++ lf ++ codes "clock 20"))) ≡ Marked (AtClock 20) ∷ Refused (Back 19 20) ∷ Marked (AtClock 20) ∷ []
back = refl

-- a late event
late : outcomes two start (numbered (lines_of (codes "delay 2" ++ lf ++ codes "clock 14" ++ lf ++ codes "clock 15" ++ lf ++ codes "12 b" ++ lf ++ codes " 13 b" ++ lf)))
    ≡ Passed ∷ Marked (AtClock 14) ∷ Marked (AtClock 15) ∷ Refused (Late 12 13) ∷ Accepted (entry_of_event 0 (plain 13 (codes "b"))) ∷ []
late = refl

-- full tables, arity and form
abbrev one : Setting
one = record { names = record { name = codes "a"; arity = 1; kind = Message } ∷ []; symbols = 4; entries = 1 }

refusals : outcomes one (at_start (codes "a" ∷ codes "c" ∷ codes "x" ∷ codes "t1" ∷ [])) (numbered (lines_of (codes "1 a[p]" ++ lf ++ codes "1 a [ c ]" ++ lf ++ codes "2 a[x]" ++ lf ++ codes "2 a" ++ lf ++ codes "2 a[x" ++ lf ++ codes "#" ++ lf ++ codes "2 z")))
    ≡ Refused (Values 4) ∷ Accepted (entry_of_event 0 (record { date = 1; name = codes "a"; args = codes "c" ∷ []; change = None })) ∷ Refused (Full 1) ∷ Refused Arity ∷ Refused Form ∷ Passed ∷ Passed ∷ []
refusals = refl

-- the canonical text
text : canonical (codes "valve") (codes "s1" ∷ []) (Some (codes "closed", codes "open")) ≡ codes "valve[s1]:(closed,open)"
text = refl
