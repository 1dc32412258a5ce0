-- The text of a list parted by commas.
use Rattle.std.proofs.Common.{◌≡◌, ℕ, List, [], ◌∷◌, ◌++◌, sym, ap, ◌∙◌, append_assoc}
use Rattle.std.specs.List.{flat_map}
use Rattle.std.proofs.lemmas.Grind.{flat_map-append}
use Rattle.std.proofs.lemmas.List.{append-nil}
use Rattle.crs_grammar.specs.Forms.{Part, Sign, Gap, listed, symbol_form}
use Rattle.crs_grammar.specs.Canon.{part_text}

pub listed_text : {A : Type 0} (f : A → List Part) (xs : List A) (x : A) → flat_map part_text (listed f (x ∷ xs)) ≡ flat_map part_text (f x) ++ flat_map (λ y. 44 ∷ 32 ∷ flat_map part_text (f y)) xs
listed_text f [] x = sym (append-nil (flat_map part_text (f x)))
listed_text f (y ∷ ys) x = flat_map-append part_text (f x) (Sign 44 ∷ Gap ∷ listed f (y ∷ ys)) ∙ ap (λ l. flat_map part_text (f x) ++ 44 ∷ 32 ∷ l) (listed_text f ys y)

-- the first of a list, and the others
pub listed_step : {A : Type 0} (f : A → List Part) (x : A) (xs : List A) (out mid new : List ℕ) → mid ≡ out ++ flat_map part_text (f x) → new ≡ mid ++ flat_map (λ y. 44 ∷ 32 ∷ flat_map part_text (f y)) xs
    → new ≡ out ++ flat_map part_text (listed f (x ∷ xs))
listed_step f x xs out mid new a b = b ∙ ap (λ l. l ++ flat_map (λ y. 44 ∷ 32 ∷ flat_map part_text (f y)) xs) a
    ∙ append_assoc out (flat_map part_text (f x)) (flat_map (λ y. 44 ∷ 32 ∷ flat_map part_text (f y)) xs) ∙ ap (λ l. out ++ l) (sym (listed_text f xs x))

-- the same of symbols
pub symbols_step : (v w : List ℕ) (vs : List (List ℕ)) (out mid new : List ℕ) → w ≡ v → mid ≡ out ++ w → new ≡ mid ++ flat_map (λ y. 44 ∷ 32 ∷ flat_map part_text (symbol_form y)) vs
    → new ≡ out ++ flat_map part_text (listed symbol_form (v ∷ vs))
symbols_step v w vs out mid new e a b = listed_step symbol_form v vs out mid new (a ∙ ap (λ l. out ++ l) (e ∙ sym (append-nil v))) b
