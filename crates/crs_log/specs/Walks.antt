-- Lines that are met one after the other, each in the state that the one before it left.
use Rattle.std.specs.Prelude.{◌≡◌, List, [], ◌∷◌}

module _ {S L E : Type 0} where
  -- from the first state to the last one: each line brings its effect, as a step from its state to the next
  abbrev pub Walks : (S → L → E → S → Type 0) → S → List L → List E → S → Type 0
  Walks Step s [] [] last = s ≡ last
  Walks Step s [] (e ∷ es) last = ⊥
  Walks Step s (l ∷ ls) [] last = ⊥
  Walks Step s (l ∷ ls) (e ∷ es) last = (next : S) × Step s l e next × Walks Step next ls es last
