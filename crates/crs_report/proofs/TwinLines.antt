-- The line of an assignment tells no arrival numbers, unless its entries are cited.
use Rattle.std.proofs.Common.{◌≡◌, ℕ, false, List, [], ◌∷◌, ◌++◌, refl}
use Rattle.std.specs.Prelude.{flat_map, zip, decimal, codes}
use Rattle.std.specs.List.{AllZip}
use Rattle.crs_base.specs.Entry.{Entry}
use Rattle.crs_model.specs.declared.recognition.Mark.{Mark}
use Rattle.crs_model.specs.Models.{Chronicle, EventDef}
use Rattle.crs_model.specs.Matching.{Assignment}
use Rattle.crs_model.proofs.Twins.{Twins}
use Rattle.crs_model.proofs.PairedLists.{Paired}
use Rattle.crs_report.specs.OutputLines.{recognition_line, point_text, value_text, mark_text}

module _ (T : Entry (List ℕ) → Entry (List ℕ) → Type 0) (t : Twins T) where
  points_same : (vs : List (EventDef (List ℕ))) (xs ys : List (Entry (List ℕ))) → AllZip T xs ys
      → flat_map point_text (zip vs xs) ≡ flat_map point_text (zip vs ys)
  points_same [] xs ys z = refl
  points_same (v ∷ vs) [] [] z = refl
  points_same (v ∷ vs) [] (y ∷ ys) z = absurd z
  points_same (v ∷ vs) (x ∷ xs) [] z = absurd z
  points_same (v ∷ vs) (x ∷ xs) (y ∷ ys) z =
      λ i. (codes " " ++ v.point ++ codes "=" ++ decimal ((t.same x y z.0).date i)) ++ points_same vs xs ys z.1 i

  pub line_same : (c : Chronicle (List ℕ)) (mark : Mark) (a b : Assignment (List ℕ)) → Paired T a b
      → recognition_line false c mark a ≡ recognition_line false c mark b
  line_same c mark a b p = λ i.
      c.name ++ codes " at " ++ mark_text mark ++ points_same c.events a.entries b.entries p.entries i
      ++ flat_map value_text (zip c.variables (p.values i)) ++ [] ++ 10 ∷ []
