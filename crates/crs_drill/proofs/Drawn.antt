-- The numbers that are drawn for a line.
use Rattle.std.proofs.Common.{◌≡◌, refl, ℕ, zero, suc, ◌%◌, ◌<◌, ◌==◌, Bool, true, false, cond, List, [], ◌∷◌, get_or, set, arith}
use Rattle.std.specs.Prelude.{replicate}
use Rattle.std.specs.List.{AllByRecursion}
use Rattle.crs_drill.specs.Drill.{State, next, kind_of, behind_kind, drawn, staged, stage_of}

-- each stage is one of the 8
abbrev pub AreStages : List ℕ → Type 0
AreStages stages = AllByRecursion (λ n. n < 8) stages

stage_at : (stages : List ℕ) (i : ℕ) → AreStages stages → get_or stages i 0 < 8
stage_at [] i h = omega arith
stage_at (n ∷ stages) zero h = h.0
stage_at (n ∷ stages) (suc i) h = stage_at stages i h.1

stage_set : (stages : List ℕ) (i v : ℕ) → AreStages stages → v < 8 → AreStages (set stages i v)
stage_set [] i v h l = tt
stage_set (n ∷ stages) zero v h l = (l, h.1)
stage_set (n ∷ stages) (suc i) v h l = (h.0, stage_set stages i v h.1 l)

pub stages_none : (n : ℕ) → AreStages (replicate n 0)
stages_none zero = tt
stages_none (suc n) = (omega arith, stages_none n)

pub kind_below : (unit : ℕ) (d : State) → AreStages d.stages → kind_of unit d < 8
kind_below unit d h = by (d.x % 4 == 0)
  where
    by : (b : Bool) → cond b (next d.x % 8) (stage_of unit d) < 8
    by true = omega arith
    by false = stage_at d.stages unit h

pub kind_stages : (unit : ℕ) (d : State) → AreStages d.stages → AreStages (behind_kind unit d).stages
kind_stages unit d h = by (d.x % 4 == 0)
  where
    by : (b : Bool) → AreStages (cond b (drawn d) (staged unit d)).stages
    by true = h
    by false = stage_set d.stages unit _ h (omega arith)

pub kind_base : (unit : ℕ) (d : State) → (behind_kind unit d).base ≡ d.base
kind_base unit d = by (d.x % 4 == 0)
  where
    by : (b : Bool) → (cond b (drawn d) (staged unit d)).base ≡ d.base
    by true = refl
    by false = refl
