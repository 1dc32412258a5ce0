-- Facts that hold where a call succeeded.
use Rattle.std.proofs.Common.{◌≡◌, Result, Ok, Err, Bool, true, false, true≢false, sym}
use Rattle.std.specs.Prelude.{OnOk, IsTrue}

pub both_ok : {A E : Type 0} (r : Result A E) (P Q R : Type 0) → OnOk r P → OnOk r Q → (P → Q → R) → OnOk r R
both_ok (Ok x) P Q R p q f = f p q
both_ok (Err e) P Q R p q f = tt

pub not_true : (b : Bool) → b ≡ false → IsTrue b → ⊥
not_true true e h = true≢false e
not_true false e h = true≢false (sym h)
