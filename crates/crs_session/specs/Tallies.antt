-- The numbers of a run: what its lines bring, and how many partial assignments live.
use Rattle.std.specs.Prelude.{◌≡◌, ◌≤◌, ℕ, ◌+◌, ◌-◌, ◌^◌, min, max, Bool, List, [], ◌∷◌, length, map, filter, flat_map, cond}
use Rattle.std.specs.List.{AllZip}
use Rattle.crs_base.specs.Lines.{lines_of}
use Rattle.crs_model.specs.Models.{Chronicle}
use Rattle.crs_model.specs.Order.{AreAll}
use Rattle.crs_model.specs.Partial.{Partial}
use Rattle.crs_log.specs.Recognitions.{View, IsLiveIn}
use Rattle.crs_log.specs.Trace.{Answer}
use Rattle.crs_report.specs.Summaries.{summary_line}
use Rattle.crs_report.specs.declared.summary.Summary.{Summary}
use Rattle.crs_layers.specs.Strata.{Placed}
use Rattle.crs_layers.specs.StrataViews.{view_at}
use Rattle.crs_layers.specs.Runs.{State, Effect, views_of}
use Rattle.crs_session.specs.declared.session.Counts.{Counts}
use Rattle.crs_frames.specs.Frames.{Frame}
use Rattle.crs_session.specs.Texts.{setting_of, start_of, IsTraceOf, has_refused}

-- n partial assignments of the chronicle live, with the levels of its events read or not: they are open, and not recognised
abbrev pub AreLive : Bool → Chronicle (List ℕ) → View → ℕ → Type 0
AreLive focus c v n = (live : List (Partial (List ℕ))) × AreAll (IsLiveIn c focus v) live × (n ≡ length live)

-- of all chronicles together, each by what is read of its stratum
abbrev pub AllLive : Bool → List (Placed (List ℕ)) → List View → ℕ → Type 0
AllLive focus [] views n = n ≡ 0
AllLive focus (p ∷ ps) views n = (first : ℕ) × (rest : ℕ) × AreLive focus p.chronicle (view_at views p.stratum) first × AllLive focus ps views rest × (n ≡ first + rest)

-- all that is new at the marks, in order
abbrev pub answers_in : List Effect → List Answer
answers_in effects = flat_map (λ e. e.answers) effects

-- how many lines were refused, or didn't find room for an entry that they gave, of those that bring this
abbrev pub refused_in : List Effect → ℕ
refused_in effects = length (filter has_refused effects)

-- how many recognitions they bring
abbrev pub recognitions_in : List Effect → ℕ
recognitions_in effects = length (answers_in effects)

-- what recognition reads behind each of them
abbrev pub views_in : List Effect → List (List View)
views_in effects = map (λ e. e.now) effects

-- the greatest of these numbers, and 0 where there are none
abbrev pub peak_of : List ℕ → ℕ
peak_of [] = 0
peak_of (n ∷ ns) = max n (peak_of ns)

-- n, or 2^64 - 1 where it is greater
abbrev pub capped : ℕ → ℕ
capped n = min n (2 ^ 64 - 1)

-- The summary of a whole log, of which this is the trace: its numbers, each up to 2^64 - 1. So many partial assignments live at the start
-- and behind each line, and so many behind all, with the levels of events read or not.
pub record IsSummary (focus : Bool) (f : Frame) (log : List ℕ) (s : Summary) : Type 0 where
  pub effects : List Effect
  pub last : State
  pub trace : IsTraceOf f (lines_of log) effects last
  pub live : List ℕ
  pub all_live : AllZip (AllLive focus f.placed) (views_of (setting_of f) (start_of f) ∷ views_in effects) live
  pub left : ℕ
  pub all_left : AllLive focus f.placed (views_of (setting_of f) last) left
  pub entries : s.entries ≡ capped (length last.log.accepted)
  pub refused : s.refused ≡ capped (refused_in effects)
  pub recognitions : s.recognitions ≡ capped (recognitions_in effects)
  pub kept : s.kept ≡ capped left
  pub peak : s.peak ≡ capped (peak_of live)

-- its line
abbrev pub IsSummaryText : Bool → Frame → List ℕ → List ℕ → Type 0
IsSummaryText focus f log text = (s : Summary) × IsSummary focus f log s × (text ≡ summary_line s)

-- exact numbers: the refused lines, the recognitions, and the greatest number of partial assignments that live
pub record Tally : Type 0 where
  pub refused : ℕ
  pub recognitions : ℕ
  pub peak : ℕ

abbrev pub nothing : Tally
nothing = record { refused = 0; recognitions = 0; peak = 0 }

-- of one and the other
abbrev pub together : Tally → Tally → Tally
together a b = record { refused = a.refused + b.refused; recognitions = a.recognitions + b.recognitions; peak = max a.peak b.peak }

-- at the start n live, and nothing else happened
abbrev pub started : ℕ → Tally
started n = record nothing { peak = n }

-- of a line that brings this, and behind which n live
abbrev pub effect_tally : Effect → ℕ → Tally
effect_tally e n = record { refused = cond (has_refused e) 1 0; recognitions = length e.answers; peak = n }

-- of lines that bring this, behind which so many live
abbrev pub tally_of : List Effect → List ℕ → Tally
tally_of effects live = record { refused = refused_in effects; recognitions = recognitions_in effects; peak = peak_of live }

-- the counts are the numbers of the tally, each up to 2^64 - 1
pub record AreCounts (c : Counts) (t : Tally) : Type 0 where
  pub refused : c.refused ≡ capped t.refused
  pub recognitions : c.recognitions ≡ capped t.recognitions
  pub peak : c.peak ≡ capped t.peak

-- what more was counted, from whatever tally on
abbrev pub Counted : Counts → Counts → Tally → Type 0
Counted old new more = (t : Tally) → AreCounts old t → AreCounts new (together t more)

-- the counts after a refused line
abbrev pub with_refused : Counts → Counts
with_refused c = record c { refused = capped (c.refused + 1) }

-- so where one was refused, or some stratum didn't accept an entry
abbrev pub with_flood : Bool → Counts → Counts
with_flood flood c = cond flood (with_refused c) c

-- the counts after a mark that brings n recognitions, behind which so many are kept
abbrev pub with_mark : Counts → ℕ → ℕ → Counts
with_mark c n kept = record c { recognitions = capped (c.recognitions + n); peak = max c.peak kept }

-- no fewer are counted as the peak than live now
abbrev pub IsPeaked : Bool → List (Placed (List ℕ)) → List View → ℕ → Type 0
IsPeaked focus ps views peak = (n : ℕ) × AllLive focus ps views n × (capped n ≤ peak)
