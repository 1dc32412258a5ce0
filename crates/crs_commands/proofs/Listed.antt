-- What is printed of models that were read and compiled.
use Rattle.std.proofs.Common.{◌≡◌, ◌∙◌, ap, sym, refl, ℕ, List, [], ◌∷◌, ◌++◌, map}
use Rattle.std.specs.List.{AllByRecursion}
use Rattle.std.proofs.lemmas.List.{length-map, map-append}
use Rattle.crs_base.specs.declared.symbols.Sym.{Sym}
use Rattle.crs_model.specs.Models.{Chronicle, EventDef, Window, Anchor}
use Rattle.crs_model.specs.Renaming.{AreKnown, IsChronicleOf, renamed_event, renamed_window, renamed_chronicle}
use Rattle.crs_compile.specs.Minimal.{points_of, point_count, IsChronicleText, IsMinimalText, IsPrintable}
use Rattle.crs_layers.specs.Standing.{HasText}

-- with other symbols the points are the same, and so are the starts of windows
module _ {S : Type 0} (f : S → List ℕ) where
  renamed_points : (vs : List (EventDef S)) → map (λ s. s) (map (λ v. v.point) (map (renamed_event f) vs)) ≡ map f (map (λ v. v.point) vs)
  renamed_points [] = refl
  renamed_points (v ∷ vs) = ap (λ (ps : List (List ℕ)). f v.point ∷ ps) (renamed_points vs)

  same_texts : (ps : List S) → map (λ s. s) (map f ps) ≡ map f ps
  same_texts [] = refl
  same_texts (p ∷ ps) = ap (λ (qs : List (List ℕ)). f p ∷ qs) (same_texts ps)

  points_named : (c : Chronicle S) → map (λ s. s) (points_of (renamed_chronicle f c)) ≡ map f (points_of c)
  points_named c =
      map-append (λ (s : List ℕ). s) (map (λ v. v.point) (map (renamed_event f) c.events)) (map f c.free)
      ∙ ap (λ (ps : List (List ℕ)). ps ++ map (λ s. s) (map f c.free)) (renamed_points c.events)
      ∙ ap (λ (ps : List (List ℕ)). map f (map (λ v. v.point) c.events) ++ ps) (same_texts c.free)
      ∙ sym (map-append f (map (λ v. v.point) c.events) c.free)

  same_starts : (ws : List (Window S)) → map (λ w. w.from) (map (renamed_window f) ws) ≡ map (λ w. w.from) ws
  same_starts [] = refl
  same_starts (w ∷ ws) = ap (λ (starts : List Anchor). w.from ∷ starts) (same_starts ws)

  same_count : (c : Chronicle S) → point_count (renamed_chronicle f c) ≡ point_count c
  same_count c = rw (length-map c.events (renamed_event f), length-map c.free f) refl

  chronicle_text : (c : Chronicle S) (text : List ℕ) → IsChronicleText f c text → IsChronicleText (λ s. s) (renamed_chronicle f c) text
  chronicle_text c text h = record {
    most = h.most;
    reach = h.reach;
    dates = h.dates;
    minimal = rw (same_count c) h.minimal;
    longest = rw (length-map c.events (renamed_event f), same_starts c.windows) h.longest;
    each = rw (same_count c) h.each;
    earliest = rw (same_count c) h.earliest;
    is = rw (points_named c) h.is;
  }

  -- the text of the least bounds is the same by the texts of symbols
  pub minimal_named : (cs : List (Chronicle S)) (text : List ℕ) → IsMinimalText f cs text → IsMinimalText (λ s. s) (map (renamed_chronicle f) cs) text
  minimal_named [] text h = h
  minimal_named (c ∷ cs) text h = (h.0, h.1, chronicle_text c h.0 h.2, minimal_named cs h.1 h.3, h.4)

-- chronicles whose symbols have texts can be printed
module _ (texts : List (List ℕ)) where
  known_points : (vs : List (EventDef Sym)) (free : List Sym) → AllByRecursion (λ v. HasText texts v.point) vs → AllByRecursion (HasText texts) free → AreKnown texts (map (λ v. v.point) vs ++ free)
  known_points [] free h k = k
  known_points (v ∷ vs) free h k = (h.0, known_points vs free h.1 k)

  pub printables : (cs : List (Chronicle Sym)) → AllByRecursion (IsChronicleOf (HasText texts)) cs → AllByRecursion (IsPrintable texts) cs
  printables [] h = tt
  printables (c ∷ cs) h = (record { name = h.0.name; points = known_points c.events c.free h.0.points h.0.free }, printables cs h.1)
