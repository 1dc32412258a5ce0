-- What holds whatever a call answers, and what holds of each of its answers.
use Rattle.std.proofs.Common.{◌≡◌, refl, Option, Some, None}
use Rattle.std.specs.Prelude.{IfSome, OnErr, OnOk, Result, Ok, Err}

pub on_err : {T E Q : Type 0} (r : Result T E) → Q → OnErr r Q
on_err (Ok x) q = tt
on_err (Err e) q = q

pub if_some : {A : Type 0} (o : Option A) (P : A → Type 0) → ((x : A) → o ≡ Some x → P x) → IfSome o P
if_some None P f = tt
if_some (Some x) P f = f x refl

pub by_result : {T E P Q X : Type 0} (r : Result T E) → OnOk r P → OnErr r Q → (P → X) → (Q → X) → X
by_result (Ok x) p q f g = f p
by_result (Err e) p q f g = g q
