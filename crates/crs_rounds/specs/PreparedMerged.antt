-- What a models text prepares for several logs.
use Rattle.std.specs.Prelude.{◌≡◌, ℕ, List, [], false}
use Rattle.crs_rounds.specs.declared.merged.MergedSession.{MergedSession}
use Rattle.crs_rounds.specs.MergedSession.{StandsBehind, feeds_of}
use Rattle.crs_outcomes.specs.ModelTexts.{IsAcceptedAlone}
use Rattle.crs_frames.specs.Frames.{Frame}

-- the session stands behind no pairs, of so many feeds, with the models that the text means
pub record IsPreparedMerged (symbols entries feeds : ℕ) (text : List ℕ) (x : MergedSession) : Type 0 where
  pub frame : Frame
  pub accepted : IsAcceptedAlone symbols entries text frame
  pub stands : StandsBehind frame x []
  pub count : feeds_of x ≡ feeds
  pub clean : x.refused ≡ false
