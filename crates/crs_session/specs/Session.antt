-- What a session stands for, and what one line does to it.
use Rattle.std.specs.Prelude.{◌≡◌, ◌≤◌, ℕ, Bool, true, List, ◌++◌, length, map}
use Rattle.std.specs.List.{AllByRecursion}
use Rattle.crs_model.specs.declared.recognition.Recognition.{Recognition}
use Rattle.crs_report.specs.Listeners.{notice_of}
use Rattle.crs_log.specs.ItemOf.{What, Empty, Is, Faulty}
use Rattle.crs_log.specs.Run as run
use Rattle.crs_log.specs.Run.{Outcome, Passed, Refused}
use Rattle.crs_layers.specs.LayerStates.{accepted_in, kept_in}
use Rattle.crs_layers.specs.Runs.{State, Effect, IsEffect, is_full, views_of, after_ordered}
use Rattle.crs_layers.specs.Standing.{StandFor}
use Rattle.crs_layers.specs.Strata.{strata_count}
use Rattle.crs_session.specs.declared.session.Session.{Session}
use Rattle.crs_session.specs.declared.session.Counts.{Counts}
use Rattle.crs_session.specs.Notices.{notice_in}
use Rattle.crs_session.specs.Tallies.{AllLive, effect_tally, Counted, IsPeaked}
use Rattle.crs_frames.specs.Frames.{Frame}
use Rattle.crs_session.specs.Texts.{setting_of, effect_text}
use Rattle.crs_session.specs.Written.{Written, HasEntry}
use Rattle.crs_frames.specs.TableTexts.{HasModels}

-- the session stands for the state of the run
pub record Represents (f : Frame) (x : Session) (s : State) : Type 0 where
  pub models : HasModels f x.layers.plans x.symbols
  pub stand : StandFor (setting_of f) s x.layers
  pub texts : s.log.texts ≡ x.symbols.texts
  pub strata : length s.strata ≡ strata_count (map (λ p. p.stratum) f.placed)
  pub count : length s.log.accepted ≡ accepted_in x.layers
  pub few : length s.log.accepted ≤ f.entries
  pub most_here : x.entries ≡ f.entries
  pub reached : s.log.horizon ≤ run.end_date
  pub closed : s.log.ended ≡ true → (s.log.horizon ≡ run.end_date) × (s.log.last ≡ run.end_date)
  pub cite : x.cite ≡ f.cite
  pub ended : s.log.ended ≡ x.ended
  pub peaked : IsPeaked x.layers.focus f.placed (views_of (setting_of f) s) x.counts.peak

-- the session stands for some state of some run
abbrev pub IsReady : Session → Type 0
IsReady x = (f : Frame) × (s : State) × Represents f x s

-- nothing is counted yet but what is held at the start
pub record IsUncounted (x : Session) : Type 0 where
  pub refused : x.counts.refused ≡ 0
  pub recognitions : x.counts.recognitions ≡ 0
  pub peak : x.counts.peak ≡ kept_in x.layers

-- What the line of number n brings, met in the state s, which becomes of the log's state what `after` says: the session stands for the state behind
-- it, its text is added and so are the recognitions in it, and it is counted. Levels are read or not as before.
pub record Brings (f : Frame) (focus : Bool) (old : Counts) (new : Session) (n : ℕ) (s : State) (after : run.State × Outcome)
    (out more : Written) : Type 0 where
  pub effect : Effect
  pub next : State
  pub is : IsEffect (setting_of f) s n after effect next
  pub state : Represents f new next
  pub same_focus : new.layers.focus ≡ focus
  pub written : more.text ≡ out.text ++ effect_text f.cite f.entries effect
  pub found : List Recognition
  pub notices : map notice_of found ≡ map notice_in effect.answers
  pub filled : AllByRecursion HasEntry found
  pub added : more.found ≡ out.found ++ found
  pub live : ℕ
  pub all_live : AllLive focus f.placed effect.now live
  pub counted : Counted old new.counts (effect_tally effect live)

-- whatever state of a run the session stands for
abbrev pub BringsAll : Session → Session → ℕ → (Frame → State → run.State × Outcome) → Written → Written → Type 0
BringsAll old new n after out more = (f : Frame) (s : State) → Represents f old s
    → Brings f old.layers.focus old.counts new n s (after f s) out more

-- whether some stratum has accepted as many entries as may be
abbrev pub full_in : Frame → State → Bool
full_in f s = is_full f.entries s.strata

-- what becomes of a line's item that doesn't stand behind the end
abbrev pub ordered_what : run.Setting → Bool → run.State → What → run.State × Outcome
ordered_what c full s Empty = (s, Passed)
ordered_what c full s (Is item) = after_ordered c full s item
ordered_what c full s Faulty = (s, Refused run.Form)
