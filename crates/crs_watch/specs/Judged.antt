-- The verdict of a window.
use Rattle.std.specs.Prelude.{◌≡◌, ◌↔◌, ℕ, ℤ, Bool, List}
use Rattle.crs_base.specs.Entry.{Entry}
use Rattle.crs_model.specs.declared.progress.Verdict.{Verdict}
use Rattle.crs_model.specs.declared.progress.Verdict.TheVariants.{Met, Lost, Waiting}
use Rattle.crs_model.specs.Models.{Body, Window}
use Rattle.crs_model.specs.Matching.{Binding}
use Rattle.crs_model.specs.Partial.{Partial}
use Rattle.crs_model.specs.Verdicts.{IsMet, IsLost}
use Rattle.crs_model.specs.HasProgress.{IsMetBy, IsLostBy, IsProgress}

-- the verdict is met exactly where the one is so, lost exactly where the other is, and else it waits
pub record IsExactly (v : Verdict) (M L : Type 0) : Type 0 where
  pub met : v ≡ Met ↔ M
  pub lost : v ≡ Lost ↔ L
  pub waits : v ≡ Waiting ↔ ((M → ⊥) × (L → ⊥))

module _ {S : Type 0} where
  -- as the progress tells it
  abbrev pub IsToldBy : Verdict → Body S → ℤ → ℤ → ℕ → Bool → Type 0
  IsToldBy v body to h count broken = IsExactly v (IsMetBy body to h count broken) (IsLostBy body to h count broken)

  -- its progress hangs on no date: what it is at one, it is at another
  abbrev pub HangsOnNoDate : Body S → Type 0
  HangsOnNoDate body = (entries : List (Entry S)) (look : Binding S) (from to g h : ℤ) (count : ℕ) (broken : Bool) → IsProgress entries look body from to g count broken → IsProgress entries look body from to h count broken

  -- by what met and lost mean
  abbrev pub IsVerdict : Verdict → Binding S → Partial S → List (Entry S) → ℕ → Window S → Type 0
  IsVerdict v look a entries h w = IsExactly v (IsMet look a entries h w) (IsLost look a entries h w)
