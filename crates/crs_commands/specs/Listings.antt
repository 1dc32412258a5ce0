-- What a command that prints models does to a desk that tells its contents.
use Rattle.std.specs.Prelude.{◌≡◌, ◌⊎◌, ℕ, List, ◌^◌}
use Rattle.crs_desk.specs.Desk.{Told}
use Rattle.crs_model.specs.declared.models.ModelWord.{ModelWord}
use Rattle.crs_model.specs.Models.{Models}
use Rattle.crs_print.specs.CanonicalText.{models_text}
use Rattle.crs_compile.specs.Minimal.{IsMinimalText}
use Rattle.crs_outcomes.specs.declared.status.Status.{Status}
use Rattle.crs_outcomes.specs.declared.status.Status.TheVariants.{Done, Rejected, Memory}
use Rattle.crs_words.specs.declared.command.Listing.{Listing}
use Rattle.crs_words.specs.declared.command.Listing.TheVariants.{Canonical, Minimal}
use Rattle.crs_outcomes.specs.Inputs.{bytes_of}
use Rattle.crs_outcomes.specs.Loads.{EndsWithInput, IsModelLine}
use Rattle.crs_outcomes.specs.ModelTexts.{AreModelsIn, BreaksRule}

-- what is printed of models
abbrev pub IsListing : Listing → Models (List ℕ) → List ℕ → Type 0
IsListing Canonical m text = text ≡ models_text m
IsListing Minimal m text = IsMinimalText (λ s. s) m.chronicles text

-- the models text means models, of which this is printed
abbrev pub IsListed : ℕ → Listing → List ℕ → List ℕ → Type 0
IsListed symbols listing models text = (m : Models (List ℕ)) × AreModelsIn symbols models m × IsListing listing m text

-- a call that opened the models alone printed this listing, or refused them
abbrev pub Prints : ℕ → ℕ → ℕ → Listing → Told → List ℕ → Status → Told → Type 0
Prints base now symbols listing old models status new =
    EndsWithInput base now (2 ^ 20) (IsListed symbols listing (bytes_of old models)) (IsModelLine (BreaksRule symbols (bytes_of old models))) old models status new

-- Where no fault rose, models that are accepted are printed and others are refused, unless memory is wanting.
pub record CompletesPrint (symbols : ℕ) (old : Told) (models : List ℕ) (fault : Type 0) (status : Status) : Type 0 where
  pub accepted : (m : Models (List ℕ)) → AreModelsIn symbols (bytes_of old models) m → (fault → ⊥) → (status ≡ Done) ⊎ (status ≡ Memory)
  pub refused : (line : ℕ) (word : ModelWord) → BreaksRule symbols (bytes_of old models) line word → (fault → ⊥) → (status ≡ Rejected)
      ⊎ (status ≡ Memory)
