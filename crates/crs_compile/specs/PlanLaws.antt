-- Laws of the definitions.
use Rattle.std.specs.Prelude.{◌≡◌, ℕ, ℤ, List, Option}
use Rattle.std.specs.List.{AllByRecursion}
use Rattle.crs_model.specs.Models.{Anchor, Chronicle, Name}
use Rattle.crs_model.specs.ProperModels.{IsProperChronicle}
use Rattle.crs_model.specs.Reach.{IsReach}
use Rattle.crs_model.specs.Hierarchy.{AreInOrder}
use Rattle.crs_model.specs.ShortLags.{AreInTime, ClosesSlow}
use Rattle.crs_compile.specs.Minimal.{IsMinimalText}

-- there is one reach for given least bounds
abbrev pub ReachIsOne : Type 0
ReachIsOne = (n : ℕ) (most : ℕ → ℕ → Option ℤ) (starts : List Anchor) (x y : Option ℤ) → IsReach n most starts x → IsReach n most starts y → x ≡ y

-- proper chronicles have one text of their least bounds
abbrev pub MinimalTextIsOne : Type 0
MinimalTextIsOne = (names : List (Name (List ℕ))) (cs : List (Chronicle (List ℕ))) (x y : List ℕ) → AllByRecursion (IsProperChronicle names) cs → IsMinimalText (λ t. t) cs x → IsMinimalText (λ t. t) cs y → x ≡ y

-- of proper chronicles in order, the lags aren't both short with all and too long with one
abbrev pub LagsDecide : Type 0
LagsDecide = (names : List (Name (List ℕ))) (cs : List (Chronicle (List ℕ))) (line : ℕ) → AllByRecursion (IsProperChronicle names) cs → AreInOrder cs → AreInTime (List ℕ) cs → ClosesSlow (List ℕ) cs line → ⊥
