-- Laws of the definitions.
use Rattle.std.specs.Prelude.{◌≡◌, ℕ, false, List, [], map}
use Rattle.std.specs.List.{AllByRecursion, AllZip}
use Rattle.crs_log.specs.Reading.{Given}
use Rattle.crs_log.specs.Recognitions.{Stays}
use Rattle.crs_log.specs.Run as run
use Rattle.crs_log.specs.Trace as trace
use Rattle.crs_layers.specs.Strata.{Placed, IsPlaced, NoneIsLate}
use Rattle.crs_layers.specs.StrataViews.{view_at}
use Rattle.crs_layers.specs.Runs.{Setting, State, Effect, at_start, horizon_of, views_of, IsRun}

-- Behind any lines of a log, no further line gives a stratum an entry dated before the horizon that the stratum has there.
abbrev pub NoGivenEntryIsLate : Type 0
NoGivenEntryIsLate =
    (c : Setting) (texts : List (List ℕ)) (lines : List Given) (effects : List Effect) (s : State) (further : List Given) (later : List Effect) (t : State)
    → AllByRecursion IsPlaced c.placed → IsRun c (at_start c texts) lines effects s → IsRun c s further later t
    → AllByRecursion (λ e. NoneIsLate (horizon_of c s.log) 0 e.given) later

-- From one state the same lines bring the same effects, and leave the same state.
abbrev pub RunsAreOne : Type 0
RunsAreOne =
    (c : Setting) (s : State) (lines : List Given) (es ds : List Effect) (t u : State) → IsRun c s lines es t → IsRun c s lines ds u → (es ≡ ds) × (t ≡ u)

-- What is settled in a stratum behind any lines of a log stays settled behind any further ones, and what is recognised in it stays recognised.
abbrev pub WhatIsReadStays : Type 0
WhatIsReadStays =
    (c : Setting) (texts : List (List ℕ)) (lines : List Given) (effects : List Effect) (s : State) (further : List Given) (later : List Effect) (t : State)
    → AllByRecursion IsPlaced c.placed → IsRun c (at_start c texts) lines effects s → IsRun c s further later t
    → AllZip Stays (views_of c s) (views_of c t)

-- each chronicle is of stratum 0, and gives nothing
abbrev pub AreAlone : List (Placed (List ℕ)) → Type 0
AreAlone ps = AllByRecursion (λ p. (p.chronicle.emits ≡ []) × (p.stratum ≡ 0)) ps

-- what a line brings, as the log alone has it
abbrev pub flat : Effect → trace.Effect
flat e = record { number = e.number; outcome = e.outcome; was = view_at e.was 0; now = view_at e.now 0; answers = e.answers }

-- Where no chronicle gives entries, a run is the trace of the log alone, and no stratum lacks room.
abbrev pub RunsWithoutEmitsAreOfTheLog : Type 0
RunsWithoutEmitsAreOfTheLog =
    (c : Setting) (texts : List (List ℕ)) (lines : List Given) (effects : List Effect) (t : State) → AreAlone c.placed → IsRun c (at_start c texts) lines effects t
    → AllByRecursion (λ e. e.flood ≡ false) effects × trace.IsTrace c.log (map (λ p. p.chronicle) c.placed) (run.at_start texts) lines (map flat effects) t.log
