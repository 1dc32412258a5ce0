-- Instances that come to others, and instances that were judged anew.
use Rattle.std.specs.Prelude.{◌≡◌, ◌⊎◌, List, [], ◌∷◌, ◌++◌}
use Rattle.std.specs.List.{AllZip}
use Rattle.crs_base.specs.Sifted.{Sifts}
use Rattle.crs_base.specs.Words.{IsIn, Ordered}
use Rattle.crs_instance.specs.Instances.{InstanceState}
use Rattle.crs_living.specs.Parts.{parts}

-- no two have the same partial assignment
abbrev pub AreApart : List InstanceState → Type 0
AreApart is = Ordered (λ a b. a ≡ b → ⊥) (parts is)

-- one more
abbrev pub ComesTo : InstanceState → List InstanceState → List InstanceState → Type 0
ComesTo i old new = (front : List InstanceState) × (back : List InstanceState) × (old ≡ front ++ back) × (new ≡ front ++ i ∷ back)

-- all has the ones and the others
pub record Joins (ones others all : List InstanceState) : Type 0 where
  pub first : (i : InstanceState) → IsIn i ones → IsIn i all
  pub second : (i : InstanceState) → IsIn i others → IsIn i all
  pub back : (i : InstanceState) → IsIn i all → IsIn i ones ⊎ IsIn i others
  pub apart : AreApart (ones ++ others) → AreApart all

-- some of the instances, no two the same where that is so of all: what isn't there may be left out
pub record IsPartOf (Out : InstanceState → Type 0) (all some : List InstanceState) : Type 0 where
  pub back : (i : InstanceState) → IsIn i some → IsIn i all
  pub apart : AreApart all → AreApart some
  pub each : (i : InstanceState) → IsIn i all → IsIn i some ⊎ Out i

-- the kept ones are those of the list, in their order, without some that may be left out
abbrev pub LeavesOut : (InstanceState → Type 0) → List InstanceState → List InstanceState → Type 0
LeavesOut Out [] kept = kept ≡ []
LeavesOut Out (x ∷ xs) kept = ((rest : List InstanceState) × (kept ≡ x ∷ rest) × LeavesOut Out xs rest) ⊎ (Out x × LeavesOut Out xs kept)

-- one more, or the same and it may be left out
abbrev pub ComesOrGoes : (InstanceState → Type 0) → InstanceState → List InstanceState → List InstanceState → Type 0
ComesOrGoes Out i old new = ComesTo i old new ⊎ (Out i × (new ≡ old))

-- all has the ones and the others, but that some of the others may be left out
abbrev pub JoinsSome : (InstanceState → Type 0) → List InstanceState → List InstanceState → List InstanceState → Type 0
JoinsSome Out ones others all = (kept : List InstanceState) × LeavesOut Out others kept × Joins ones kept all

-- each instance became what R tells, and those that are able stayed
abbrev pub Renews : (InstanceState → InstanceState → Type 0) → (InstanceState → Type 0) → List InstanceState → List InstanceState → Type 0
Renews R Able old new = (mid : List InstanceState) × AllZip R old mid × Sifts Able mid new
