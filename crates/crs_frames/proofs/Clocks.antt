-- What a call says of a clock.
use Rattle.std.proofs.Common.{◌≡◌, Bool, true, false, refl, sym, Ok, true≢false}
use Rattle.std.specs.Prelude.{Some, None, IsSome, if◌then◌else◌}
use Rattle.crs_engine.specs.EngineRefusals.{IsRefusedAs}
use Rattle.crs_engine.specs.declared.refused.Refused.{Refused as Refusal}
use Rattle.crs_engine.specs.declared.refused.Refused.TheVariants.{Stopped}

pub fine_by : {A : Type 0} (stopped early : Bool) (full back : Refusal) (answer : A) → stopped ≡ false
    → IsRefusedAs (if stopped then Some full else (if early then Some back else None)) (Ok answer) → early ≡ false
fine_by true early full back answer e h = absurd (true≢false e)
fine_by false true full back answer e h = cc
fine_by false false full back answer e h = refl

pub same_by : (stopped early : Bool) (back : Refusal) (P : Type 0) → early ≡ true
    → (IsSome (if stopped then Some Stopped else (if early then Some back else None)) → P) → P
same_by true early back P e h = h refl
same_by false true back P e h = h refl
same_by false false back P e h = absurd (true≢false (sym e))
