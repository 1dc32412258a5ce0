-- What is told of steps, where these grow.
use Rattle.std.proofs.Common.{◌≡◌, ℕ, [], ◌∷◌, Option, Some}
use Rattle.crs_base.specs.declared.symbols.Sym.{Sym}
use Rattle.crs_history.specs.declared.told.ToldNumbers.{ToldNumbers}
use Rattle.crs_history.specs.ListNumbers.{Steps, Grows, step_of}
use Rattle.crs_history.specs.Told.{AreTold}
use Rattle.crs_history.specs.Shortcuts.{pair_of}
use Rattle.crs_history.proofs.Numbering.{number_kept}

-- what f gave, g gives
pub told_more : (f g : ℕ → Sym → Option ℕ) (t : ToldNumbers) → ((n k : ℕ) (s : Sym) → f n s ≡ Some k → g n s ≡ Some k) → AreTold f t → AreTold g t
told_more f g t kept told = λ i d inside tells. kept _ _ _ (told i d inside tells)

pub steps_more : (old new : Steps) (t : ToldNumbers) → Grows old new → AreTold (step_of old) t → AreTold (step_of new) t
steps_more old new t g told = told_more (step_of old) (step_of new) t g.kept told

pub pairs_more : (old new : Steps) (t : ToldNumbers) → Grows old new → AreTold (pair_of old) t → AreTold (pair_of new) t
pairs_more old new t g told = told_more (pair_of old) (pair_of new) t (λ n k s h. number_kept old new g (record { 0 = n } ∷ s ∷ []) 0 k h) told
