-- Texts put behind others.
use Rattle.std.proofs.Common.{◌≡◌, ℕ, Bool, true, false, cond, ◌||◌, List, [], ◌∷◌, ◌++◌, refl, ap, ◌∙◌}
use Rattle.std.specs.List.{AllByRecursion}
use Rattle.std.proofs.lemmas.List.Folds.{list_any-append}
use Rattle.std.specs.Prelude.{bytes_eq}
use Rattle.std.proofs.Math.Bool.{or-true}
use Rattle.crs_base.specs.Symbols.{is_known, with_text, with_texts}
use Rattle.crs_base.proofs.Texts.{same_bytes}
use Rattle.crs_base.proofs.Alls.{all_put}

module _ (P : List ℕ → Type 0) where
  with_one : (b : Bool) (texts : List (List ℕ)) (t : List ℕ) → AllByRecursion P texts → P t → AllByRecursion P (cond b texts (texts ++ t ∷ []))
  with_one true texts t h p = h
  with_one false texts t h p = all_put P texts t h p

  pub all_with : (texts ts : List (List ℕ)) → AllByRecursion P texts → AllByRecursion P ts → AllByRecursion P (with_texts texts ts)
  all_with texts [] h k = h
  all_with texts (t ∷ ts) h k = all_with (with_text texts t) ts (with_one (is_known texts t) texts t h k.0) k.1

pub known_left : (texts us : List (List ℕ)) (t : List ℕ) → is_known texts t ≡ true → is_known (texts ++ us) t ≡ true
known_left texts us t h = list_any-append (bytes_eq t) texts us ∙ ap (λ b. b || is_known us t) h

known_one : (b : Bool) (texts : List (List ℕ)) (u t : List ℕ) → is_known texts t ≡ true → is_known (cond b texts (texts ++ u ∷ [])) t ≡ true
known_one true texts u t h = h
known_one false texts u t h = known_left texts (u ∷ []) t h

-- a text that is known stays so
pub known_behind : (texts ts : List (List ℕ)) (t : List ℕ) → is_known texts t ≡ true → is_known (with_texts texts ts) t ≡ true
known_behind texts [] t h = h
known_behind texts (u ∷ us) t h = known_behind (with_text texts u) us t (known_one (is_known texts u) texts u t h)

known_last : (texts : List (List ℕ)) (t : List ℕ) (b : Bool) → is_known texts t ≡ b → is_known (cond b texts (texts ++ t ∷ [])) t ≡ true
known_last texts t true h = h
known_last texts t false h = list_any-append (bytes_eq t) texts (t ∷ []) ∙ ap (λ b. is_known texts t || (b || false)) (same_bytes t) ∙ or-true (is_known texts t)

-- each that is put is known
pub known_put : (texts ts : List (List ℕ)) → AllByRecursion (λ t. is_known (with_texts texts ts) t ≡ true) ts
known_put texts [] = tt
known_put texts (t ∷ ts) = (known_behind (with_text texts t) ts t (known_last texts t (is_known texts t) refl), known_put (with_text texts t) ts)
