-- A run over strata: the fold over the lines of a log, in which each mark gives the higher strata entries of what is new in the lower ones.
use Rattle.std.specs.Prelude.{◌≡◌, ℕ, nat_lt, nat_le, Bool, false, ◌||◌, cond, List, [], ◌∷◌, length, map, replicate}
use Rattle.std.specs.List.{list_any}
use Rattle.crs_base.specs.Entry.{Entry}
use Rattle.crs_log.specs.ItemOf.{What, Empty, Is, Faulty, what_of}
use Rattle.crs_log.specs.Items.{Item, Delay, Clock, Finish, Happens, Event}
use Rattle.crs_log.specs.Known.{Verdict, Other, Named, BadArity, BadValue, known_of}
use Rattle.crs_log.specs.Reading.{Given, Plain, Long, number_of}
use Rattle.crs_log.specs.Recognitions.{View}
use Rattle.crs_log.specs.Run as run
use Rattle.crs_log.specs.Run.{Outcome, Passed, Refused, Accepted, Marked}
use Rattle.crs_log.specs.Trace.{Answer}
use Rattle.crs_log.specs.Walks.{Walks}
use Rattle.crs_layers.specs.Strata.{Placed, Stratum, empty, with_logged, strata_count, behind, horizon_behind, is_flooded, IsMarkFrom}
use Rattle.crs_layers.specs.StrataViews.{views_from}
use Rattle.crs_layers.specs.StrataAnswers.{AreAnswers}

abbrev pub LogEntry : Type 0
LogEntry = Entry (List ℕ)

-- what a log is read with, and the chronicles of the models
pub record Setting : Type 0 where
  pub log : run.Setting
  pub placed : List (Placed (List ℕ))

-- the log's state, and the strata from the lowest on
pub record State : Type 0 where
  pub log : run.State
  pub strata : List (Stratum (List ℕ))

abbrev pub at_start : Setting → List (List ℕ) → State
at_start c texts = record { log = run.at_start texts; strata = replicate (strata_count (map (λ p. p.stratum) c.placed)) empty }

-- some stratum has accepted as many entries as the limit
abbrev pub is_full : {S : Type 0} → ℕ → List (Stratum S) → Bool
is_full limit strata = list_any (λ s. nat_le limit (length s.accepted)) strata

-- The rules of a line are those of a log, but that an event is refused as full where some stratum is.
module _ (c : run.Setting) (full : Bool) where
  abbrev pub after_verdict : run.State → Event → Verdict → run.State × Outcome
  after_verdict s e Other = (s, Passed)
  after_verdict s e BadArity = (s, Refused run.Arity)
  after_verdict s e BadValue = (s, Refused run.Value)
  after_verdict s e (Named place) = cond full (s, Refused (run.Full c.entries)) (run.after_named c s e)

  abbrev pub after_ordered : run.State → Item → run.State × Outcome
  after_ordered s (Delay d) = run.after_ordered c s (Delay d)
  after_ordered s (Clock t) = run.after_ordered c s (Clock t)
  after_ordered s Finish = run.after_ordered c s Finish
  after_ordered s (Happens e) = cond (nat_lt e.date s.horizon) (s, Refused (run.Late e.date s.horizon)) (after_verdict s e (known_of c.names e))

  abbrev pub after_item : run.State → Item → run.State × Outcome
  after_item s item = cond s.ended (s, Refused run.Order) (after_ordered s item)

  abbrev pub after_what : run.State → What → run.State × Outcome
  after_what s Empty = (s, Passed)
  after_what s (Is item) = after_item s item
  after_what s Faulty = (s, Refused run.Form)

  abbrev pub after_line : run.State → Given → run.State × Outcome
  after_line s (Long number) = (s, Refused run.TooLong)
  after_line s (Plain number bytes) = after_what s (what_of bytes)

-- the horizon of stratum j
abbrev pub horizon_of : Setting → run.State → ℕ → ℕ
horizon_of c s j = horizon_behind s.ended s.horizon (behind c.placed j)

-- some stratum was given an entry that it didn't accept
abbrev pub some_flooded : {S : Type 0} → ℕ → List (Stratum S) → List (List (Entry S)) → Bool
some_flooded limit [] all = false
some_flooded limit (s ∷ ss) [] = false
some_flooded limit (s ∷ ss) (given ∷ all) = is_flooded limit s given || some_flooded limit ss all

-- what recognition reads of each stratum
abbrev pub views_of : Setting → State → List View
views_of c s = views_from (horizon_of c s.log) 0 s.strata

-- What a line brings: its number, what became of it, what each stratum was given at it and whether one didn't accept all of that, what recognition
-- read of each stratum before it and reads behind it, and its answers.
pub record Effect : Type 0 where
  pub number : ℕ
  pub outcome : Outcome
  pub given : List (List LogEntry)
  pub flood : Bool
  pub was : List View
  pub now : List View
  pub answers : List Answer

-- what becomes of the strata at a line that has this outcome, and leaves the log's state: each accepts a logged entry, a mark gives entries, and nothing else changes them
abbrev pub IsAfter : Setting → State → run.State → Outcome → List (Stratum (List ℕ)) → List (List LogEntry) → Type 0
IsAfter c s t Passed strata given = (strata ≡ s.strata) × (given ≡ [])
IsAfter c s t (Refused fault) strata given = (strata ≡ s.strata) × (given ≡ [])
IsAfter c s t (Accepted e) strata given = (strata ≡ map (with_logged e) s.strata) × (given ≡ [])
IsAfter c s t (Marked mark) strata given = IsMarkFrom (λ x. x) c.placed c.log.entries (horizon_of c s.log) (horizon_of c t) 0 [] s.strata strata given

-- the line of this number, met in the state s, which becomes of the log's state what `after` says, brings the effect and leaves the state t
pub record IsEffect (c : Setting) (s : State) (n : ℕ) (after : run.State × Outcome) (e : Effect) (t : State) : Type 0 where
  pub number : e.number ≡ n
  pub log : after ≡ (t.log, e.outcome)
  pub strata : IsAfter c s t.log e.outcome t.strata e.given
  pub flood : e.flood ≡ some_flooded c.log.entries s.strata e.given
  pub was : e.was ≡ views_of c s
  pub now : e.now ≡ views_of c t
  pub answers : AreAnswers c.placed e.was e.now e.outcome e.answers

-- so a line that is this item, and doesn't stand behind the end
abbrev pub IsItemEffect : Setting → State → ℕ → Item → Effect → State → Type 0
IsItemEffect c s n item e t = IsEffect c s n (after_ordered c.log (is_full c.log.entries s.strata) s.log item) e t

-- so each line
abbrev pub IsStep : Setting → State → Given → Effect → State → Type 0
IsStep c s line e t = IsEffect c s (number_of line) (after_line c.log (is_full c.log.entries s.strata) s.log line) e t

-- the lines bring these effects, and leave the state t
abbrev pub IsRun : Setting → State → List Given → List Effect → State → Type 0
IsRun c s lines effects t = Walks (IsStep c) s lines effects t
