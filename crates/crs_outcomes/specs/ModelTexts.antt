-- When a models text is accepted, and by which line and word it is refused.
use Rattle.std.specs.Prelude.{◌≡◌, ◌⊎◌, ℕ, Bool, true, false, List, [], ◌∷◌, Some, Ok, Err}
use Rattle.std.specs.List.{AllByRecursion}
use Rattle.crs_stn.specs.Bound.{IsConsistent}
use Rattle.crs_model.specs.declared.models.ModelRefused.{ModelRefused}
use Rattle.crs_model.specs.declared.models.ModelRefused.TheVariants.{At, Memory as NoMemory}
use Rattle.crs_model.specs.declared.models.ModelWord.{ModelWord}
use Rattle.crs_model.specs.declared.models.ModelWord.TheVariants.{Inconsistent, Lag, Hierarchy}
use Rattle.crs_model.specs.Hierarchy.{IsEmitLine}
use Rattle.crs_model.specs.Models.{Chronicle, Models}
use Rattle.crs_model.specs.ShortLags.{AreInTime, ClosesSlow}
use Rattle.crs_parse.specs.Meant.{models_read}
use Rattle.crs_frames.specs.Frames.{placed_by, Frame}

-- no chronicle gives entries
abbrev pub GiveNothing : Frame → Type 0
GiveNothing f = AllByRecursion (λ c. c.emits ≡ []) f.models.chronicles

-- The text means the models of the frame: it has no fault, whole dates meet each chronicle's bounds, and no lags are too long. Each chronicle has
-- its stratum and its lag. The lines of the log cite entries or not; where they do, no chronicle gives entries.
pub record IsAccepted (cite : Bool) (symbols entries : ℕ) (text : List ℕ) (f : Frame) : Type 0 where
  pub read : models_read symbols [] text ≡ Ok (f.models, f.texts)
  pub consistent : AllByRecursion (λ c. IsConsistent c.bounds) f.models.chronicles
  pub in_time : AreInTime (List ℕ) f.models.chronicles
  pub placed : f.placed ≡ placed_by f.models.chronicles in_time.strata in_time.lags
  pub cited_alone : cite ≡ true → GiveNothing f
  pub symbols_are : f.symbols ≡ symbols
  pub entries_are : f.entries ≡ entries
  pub cite_is : f.cite ≡ cite

-- so it does, and no chronicle gives entries: for several logs, whose lines cite none
pub record IsAcceptedAlone (symbols entries : ℕ) (text : List ℕ) (f : Frame) : Type 0 where
  pub accepted : IsAccepted false symbols entries text f
  pub alone : GiveNothing f

-- The text means these models by the rules of models: it has no fault, whole dates meet each chronicle's bounds, and no lags are too long.
pub record AreModelsIn (symbols : ℕ) (text : List ℕ) (m : Models (List ℕ)) : Type 0 where
  pub texts : List (List ℕ)
  pub read : models_read symbols [] text ≡ Ok (m, texts)
  pub consistent : AllByRecursion (λ c. IsConsistent c.bounds) m.chronicles
  pub in_time : AreInTime (List ℕ) m.chronicles

-- the line closes the first chronicle whose bounds no whole dates meet
abbrev pub ClosesInconsistent : List (Chronicle (List ℕ)) → ℕ → Type 0
ClosesInconsistent [] line = ⊥
ClosesInconsistent (c ∷ cs) line = ((IsConsistent c.bounds → ⊥) × (line ≡ c.line)) ⊎ (IsConsistent c.bounds × ClosesInconsistent cs line)

-- the line and word of a chronicle whose bounds can't be met; or, where all can, of the first one with which the lags are too long
abbrev pub IsUnusable : List (Chronicle (List ℕ)) → ℕ → ModelWord → Type 0
IsUnusable cs line word =
    ((word ≡ Inconsistent) × ClosesInconsistent cs line) ⊎ ((word ≡ Lag) × AllByRecursion (λ c. IsConsistent c.bounds) cs × ClosesSlow (List ℕ) cs line)

-- The text is refused at this line with this word by the rules of models: by its first fault; or, where it has none, by the first chronicle that can't be used.
abbrev pub BreaksRule : ℕ → List ℕ → ℕ → ModelWord → Type 0
BreaksRule symbols text line word =
    (models_read symbols [] text ≡ Err (line, word))
    ⊎ ((m : Models (List ℕ)) × (texts : List (List ℕ)) × (models_read symbols [] text ≡ Ok (m, texts)) × IsUnusable m.chronicles line word)

-- A text that means models is none for several logs, for cited lines or for an audit, where a chronicle of them gives entries: the line closes the
-- first such one.
abbrev pub IsLayered : ℕ → List ℕ → ℕ → ModelWord → Type 0
IsLayered symbols text line word = (word ≡ Hierarchy) × ((m : Models (List ℕ)) × AreModelsIn symbols text m × IsEmitLine m.chronicles (Some line))

-- There the text is refused at this line with this word: by the rules of models, or since a chronicle gives entries.
abbrev pub IsFaulty : ℕ → List ℕ → ℕ → ModelWord → Type 0
IsFaulty symbols text line word = BreaksRule symbols text line word ⊎ IsLayered symbols text line word

-- so a run refuses it whose lines cite entries; another one by the rules of models alone
abbrev pub IsRunFaulty : (cite : Bool) → ℕ → List ℕ → ℕ → ModelWord → Type 0
IsRunFaulty true symbols text line word = IsFaulty symbols text line word
IsRunFaulty false symbols text line word = BreaksRule symbols text line word

-- the text is refused at the line with the word by the rules of models; want of memory has no cause
abbrev pub BreaksRuleText : ℕ → List ℕ → ModelRefused → Type 0
BreaksRuleText symbols text (At line word) = BreaksRule symbols text line word
BreaksRuleText symbols text NoMemory = Unit {0}

-- so it is for several logs, for cited lines and for an audit
abbrev pub IsFaultyText : ℕ → List ℕ → ModelRefused → Type 0
IsFaultyText symbols text (At line word) = IsFaulty symbols text line word
IsFaultyText symbols text NoMemory = Unit {0}

-- so it is for a run, whose lines cite entries or not
abbrev pub IsRunFaultyText : (cite : Bool) → ℕ → List ℕ → ModelRefused → Type 0
IsRunFaultyText cite symbols text (At line word) = IsRunFaulty cite symbols text line word
IsRunFaultyText cite symbols text NoMemory = Unit {0}
