-- Lines that are taken one after another.
use Rattle.std.specs.Prelude.{◌≡◌, ◌+◌, ℕ, Bool, true, List, [], ◌++◌, length, map}
use Rattle.std.specs.List.{AllByRecursion, AllZip}
use Rattle.crs_model.specs.declared.recognition.Recognition.{Recognition}
use Rattle.crs_log.specs.Reading.{Reader, Given, HasNoLine, ahead}
use Rattle.crs_report.specs.Listeners.{notice_of}
use Rattle.crs_layers.specs.Runs.{State, Effect, IsRun}
use Rattle.crs_session.specs.declared.session.Session.{Session}
use Rattle.crs_session.specs.declared.session.Counts.{Counts}
use Rattle.crs_session.specs.Notices.{notices_of}
use Rattle.crs_session.specs.Session.{Represents}
use Rattle.crs_session.specs.Tallies.{AllLive, Counted, views_in, tally_of}
use Rattle.crs_frames.specs.Frames.{Frame}
use Rattle.crs_session.specs.Texts.{setting_of, text_of}
use Rattle.crs_session.specs.Written.{Written, unwritten, HasEntry}

-- The session stands for the state after these lines, their text is added and so are the recognitions in it, and they are counted. Levels
-- are read or not as before.
pub record Takes (f : Frame) (focus : Bool) (old : Counts) (new : Session) (s : State) (told : List Given)
    (out more : Written) : Type 0 where
  pub effects : List Effect
  pub last : State
  pub trace : IsRun (setting_of f) s told effects last
  pub state : Represents f new last
  pub same_focus : new.layers.focus ≡ focus
  pub written : more.text ≡ out.text ++ text_of f.cite f.entries effects
  pub found : List Recognition
  pub notices : map notice_of found ≡ notices_of effects
  pub filled : AllByRecursion HasEntry found
  pub added : more.found ≡ out.found ++ found
  pub live : List ℕ
  pub all_live : AllZip (AllLive focus f.placed) (views_in effects) live
  pub counted : Counted old new.counts (tally_of effects live)

-- each line that was held whole is taken
pub record TakesLines (old_lines new_lines : Reader) (old new : Session) (out more : Written) : Type 0 where
  pub told : List Given
  pub limit : new_lines.limit ≡ old_lines.limit
  pub finished : new_lines.finished ≡ old_lines.finished
  pub fed : new_lines.fed ≡ old_lines.fed
  pub none : HasNoLine new_lines
  pub ahead_is : (m : List ℕ) → (old_lines.finished ≡ true → m ≡ []) → ahead old_lines m ≡ told ++ ahead new_lines m
  pub takes : (f : Frame) (s : State) → Represents f old s → Takes f old.layers.focus old.counts new s told out more

-- the lines that a piece completes are taken, and their text is made
pub record TakesPiece (old_lines new_lines : Reader) (old new : Session) (piece : List ℕ) (all : Written) : Type 0 where
  pub told : List Given
  pub limit : new_lines.limit ≡ old_lines.limit
  pub finished : new_lines.finished ≡ old_lines.finished
  pub fed : new_lines.fed ≡ old_lines.fed + length piece
  pub none : HasNoLine new_lines
  pub ahead_is : (m : List ℕ) → ahead old_lines (piece ++ m) ≡ told ++ ahead new_lines m
  pub takes : (f : Frame) (s : State) → Represents f old s → Takes f old.layers.focus old.counts new s told unwritten all

-- the last line, which has no line feed, is taken, and its text is made
pub record TakesRest (lines : Reader) (old new : Session) (all : Written) : Type 0 where
  pub told : List Given
  pub ahead_is : ahead lines [] ≡ told
  pub takes : (f : Frame) (s : State) → Represents f old s → Takes f old.layers.focus old.counts new s told unwritten all
