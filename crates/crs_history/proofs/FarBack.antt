-- A history that goes far enough back at a date goes so at a later one.
use Rattle.std.proofs.Common.{ℕ, ◌≤◌, inl, inr, arith}
use Rattle.std.specs.Prelude.{ℤ, Option, Some, None}
use Rattle.std.proofs.lemmas.Int.{ints}
use Rattle.crs_history.specs.Histories.{IsFarBack}

pub far_later : (reach : Option ℤ) (g h : ℕ) (floor : ℤ) → g ≤ h → IsFarBack reach g floor → IsFarBack reach h floor
far_later reach g h floor l (inl e) = inl e
far_later None g h floor l (inr k) = absurd k
far_later (Some r) g h floor l (inr k) = inr (omega (arith, ints))
