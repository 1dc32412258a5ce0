-- The text of the least bounds of chronicles.
use Rattle.std.specs.Prelude.{◌≡◌, ℕ, ◌+◌, ◌<◌, ℤ, pos, List, [], ◌∷◌, ◌++◌, length, map, zip, flat_map, codes, Option, Some, None, slice_index_or}
use Rattle.std.specs.Fmt.{signed_decimal}
use Rattle.crs_base.specs.declared.symbols.Sym.{Sym}
use Rattle.crs_stn.specs.Network.{IsMinimal, IsEarliest, negated}
use Rattle.crs_model.specs.Models.{Chronicle}
use Rattle.crs_model.specs.Renaming.{AreKnown}
use Rattle.crs_model.specs.Reach.{IsReachOf}

-- a number, or the word for an infinite one
abbrev pub end_text : List ℕ → Option ℤ → List ℕ
end_text infinite None = infinite
end_text infinite (Some d) = signed_decimal d

-- `  Q - P in [LOW, HIGH]`
abbrev pub pair_line : List ℕ → List ℕ → Option ℤ → Option ℤ → List ℕ
pair_line p q low high = codes "  " ++ q ++ codes " - " ++ p ++ codes " in [" ++ end_text (codes "-inf") low ++ codes ", " ++ end_text (codes "inf") high ++ codes "]" ++ 10 ∷ []

-- point i with each of the points from j on
abbrev pub lines_of_point : (ℕ → ℕ → Option ℤ) → ℕ → List ℕ → ℕ → List (List ℕ) → List ℕ
lines_of_point most i p j [] = []
lines_of_point most i p j (q ∷ later) = pair_line p q (negated (most j i)) (most i j) ++ lines_of_point most i p (j + 1) later

-- each of the points from i on with each later one
abbrev pub pair_lines : (ℕ → ℕ → Option ℤ) → ℕ → List (List ℕ) → List ℕ
pair_lines most i [] = []
pair_lines most i (p ∷ later) = lines_of_point most i p (i + 1) later ++ pair_lines most (i + 1) later

-- ` POINT=DATE`
abbrev pub date_text : List ℕ × ℤ → List ℕ
date_text p = codes " " ++ p.0 ++ codes "=" ++ signed_decimal p.1

abbrev pub head_text : List ℕ → Option ℤ → List ℕ
head_text name reach = codes "chronicle " ++ name ++ codes " reach " ++ end_text (codes "inf") reach ++ 10 ∷ []

abbrev pub earliest_text : List (List ℕ) → List ℤ → List ℕ
earliest_text points dates = codes "  earliest" ++ flat_map date_text (zip points dates) ++ 10 ∷ []

-- a chronicle by its name, its reach, its points, their least bounds, and their earliest dates
abbrev pub plan_text : List ℕ → Option ℤ → List (List ℕ) → (ℕ → ℕ → Option ℤ) → List ℤ → List ℕ
plan_text name reach points most dates = head_text name reach ++ pair_lines most 0 points ++ earliest_text points dates

module _ {S : Type 0} where
  -- the points, those of the events first
  abbrev pub points_of : Chronicle S → List S
  points_of c = map (λ v. v.point) c.events ++ c.free

  abbrev pub point_count : Chronicle S → ℕ
  point_count c = length c.events + length c.free

module _ {S : Type 0} (text_of : S → List ℕ) where
  -- the text of the chronicle's least bounds, its reach, and the least dates that meet its bounds with none negative
  pub record IsChronicleText (c : Chronicle S) (text : List ℕ) : Type 0 where
    pub most : ℕ → ℕ → Option ℤ
    pub reach : Option ℤ
    pub dates : List ℤ
    pub minimal : IsMinimal c.bounds (point_count c) most
    pub longest : IsReachOf c most reach
    pub each : length dates ≡ point_count c
    pub earliest : IsEarliest c.bounds (point_count c) (λ p. slice_index_or dates p (pos 0))
    pub is : text ≡ plan_text (text_of c.name) reach (map text_of (points_of c)) most dates

  -- the texts of the chronicles, one after the other
  abbrev pub IsMinimalText : List (Chronicle S) → List ℕ → Type 0
  IsMinimalText [] text = text ≡ []
  IsMinimalText (c ∷ cs) text = (first rest : List ℕ) × IsChronicleText c first × IsMinimalText cs rest × (text ≡ first ++ rest)

-- the chronicle's name and its points have texts
pub record IsPrintable (texts : List (List ℕ)) (c : Chronicle Sym) : Type 0 where
  pub name : c.name.0 < length texts
  pub points : AreKnown texts (points_of c)

-- bytes of which P holds stand behind the old ones
pub record Appends (P : List ℕ → Type 0) (old new : List ℕ) : Type 0 where
  pub text : List ℕ
  pub made : P text
  pub is : new ≡ old ++ text
