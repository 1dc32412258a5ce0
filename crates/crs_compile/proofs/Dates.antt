-- The dates from a place on.
use Rattle.std.proofs.Common.{◌≡◌, ap, ◌∙◌, ℕ, ◌+◌, suc, List, ◌∷◌, ◌++◌, map, drop, Some, add-one, append_assoc}
use Rattle.std.specs.Prelude.{ℤ, slice_get, zip, flat_map}
use Rattle.std.proofs.Math.Seq.{drop-cons}
use Rattle.std.proofs.lemmas.Option.{slice_get_within, get_or_from_slice_get}
use Rattle.crs_base.specs.declared.symbols.Sym.{Sym}
use Rattle.crs_compile.specs.Minimal.{date_text}

pub dropped : {A : Type 0} (xs : List A) (i : ℕ) (x : A) → slice_get xs i ≡ Some x → drop i xs ≡ x ∷ drop (i + 1) xs
dropped xs i x e =
    let inside = slice_get_within xs i x e in
    rw add-one (drop-cons xs i x inside ∙ ap (λ y. y ∷ drop (suc i) xs) (get_or_from_slice_get xs i x x e))

pub dates_step : (text : Sym → List ℕ) (points : List Sym) (p : Sym) (rest : List Sym) (dates : List ℤ) (i : ℕ) (d : ℤ) (old mid new : List ℕ)
    → points ≡ p ∷ rest → slice_get dates i ≡ Some d → mid ≡ old ++ date_text (text p, d) → new ≡ mid ++ flat_map date_text (zip (map text rest) (drop (i + 1) dates))
    → new ≡ old ++ flat_map date_text (zip (map text points) (drop i dates))
dates_step text points p rest dates i d old mid new e f g h =
    rw (e, dropped dates i d f) (h ∙ ap (λ xs. xs ++ flat_map date_text (zip (map text rest) (drop (i + 1) dates))) g ∙ append_assoc old (date_text (text p, d)) (flat_map date_text (zip (map text rest) (drop (i + 1) dates))))
