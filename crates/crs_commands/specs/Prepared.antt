-- What a models text prepares.
use Rattle.std.specs.Prelude.{◌≡◌, ℕ, Bool, List}
use Rattle.crs_session.specs.declared.session.Session.{Session}
use Rattle.crs_session.specs.Session.{Represents, IsUncounted}
use Rattle.crs_outcomes.specs.ModelTexts.{IsAccepted}
use Rattle.crs_frames.specs.Frames.{Frame}
use Rattle.crs_session.specs.Texts.{start_of}

-- the session stands for the start of a run with the models that the text means, and reads the levels of events and cites entries, or not
pub record IsPrepared (focus cite : Bool) (symbols entries : ℕ) (text : List ℕ) (x : Session) : Type 0 where
  pub frame : Frame
  pub accepted : IsAccepted cite symbols entries text frame
  pub represents : Represents frame x (start_of frame)
  pub uncounted : IsUncounted x
  pub focus_is : x.layers.focus ≡ focus
