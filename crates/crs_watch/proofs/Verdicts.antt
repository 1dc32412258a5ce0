-- Which verdict it is.
use Rattle.std.proofs.Common.{◌≡◌, ◌∙◌, ◌≤◌, ◌<◌, ℕ, Bool, false, true≢false, arith, sym, inl, inr}
use Rattle.std.specs.Prelude.{◌↔◌, ℤ, Option, Some, None, IfSome, IsSomeAnd}
use Rattle.crs_model.specs.declared.progress.Verdict.{Verdict}
use Rattle.crs_model.specs.HasProgress.{IsAbove, IsInRange, IsLostBy}
use Rattle.crs_model.specs.Models.{Body, Hold, NoEvent, Occurs}
use Rattle.crs_watch.specs.Judged.{IsExactly}

pub exactly_as : (M L N K : Type 0) (v : Verdict) → N ↔ M → K ↔ L → IsExactly v M L → IsExactly v N K
exactly_as M L N K v n k e = record {
  met = (λ q. n.1 (e.met.0 q), λ m. e.met.1 (n.0 m));
  lost = (λ q. k.1 (e.lost.0 q), λ l. e.lost.1 (k.0 l));
  waits = (λ q. (λ m. (e.waits.0 q).0 (n.0 m), λ l. (e.waits.0 q).1 (k.0 l)), λ q. e.waits.1 (λ m. q.0 (n.1 m), λ l. q.1 (k.1 l)));
}

module _ {S : Type 0} where
  never_above : (body : Body S) (n : ℕ) → IsInRange body n → IsAbove body n → ⊥
  never_above (NoEvent p) n none some = omega arith
  never_above (Occurs least most p) n r above = by most r.1 above
    where
      by : (o : Option ℕ) → IfSome o (λ m. n ≤ m) → IsSomeAnd o (λ m. m < n) → ⊥
      by None w a = a
      by (Some m) w a = omega arith
  never_above (Hold name terms value) n r above = above

  -- what isn't broken and is in its range isn't lost, at whatever date
  pub safe_never : (body : Body S) (count : ℕ) (broken : Bool) → broken ≡ false → IsInRange body count → (to h : ℤ) → IsLostBy body to h count broken → ⊥
  safe_never body count broken whole r to h (inl out) = out.1 r
  safe_never body count broken whole r to h (inr (inl above)) = never_above body count r above.1
  safe_never body count broken whole r to h (inr (inr b)) = true≢false (sym b ∙ whole)
