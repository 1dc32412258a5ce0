-- When an engine refuses a call, and why.
use Rattle.std.specs.Prelude.{◌≡◌, ℕ, Option, Some, None, Result, Ok, Err, if◌then◌else◌, nat_lt, ◌==◌}
use Rattle.crs_engine.specs.declared.refused.Refused.{Refused}
use Rattle.crs_engine.specs.declared.refused.Refused.TheVariants.{Stopped, Late, Full, Back, Memory}
use Rattle.crs_engine.specs.Engines.{EngineState}

-- of a date
abbrev pub test_refusal : EngineState → ℕ → Option Refused
test_refusal e date = if e.stopped then Some Stopped else (if nat_lt date e.horizon then Some (Late date e.horizon) else None)

-- of an entry of that date
abbrev pub accept_refusal : EngineState → ℕ → Option Refused
accept_refusal e date =
    if e.stopped then Some Stopped else (if nat_lt date e.horizon then Some (Late date e.horizon) else (if e.accepted == e.limit then Some (Full e.limit) else None))

-- of a clock
abbrev pub clock_refusal : EngineState → ℕ → Option Refused
clock_refusal e t = if e.stopped then Some Stopped else (if nat_lt t e.last then Some (Back t e.last) else None)

-- of the end
abbrev pub finish_refusal : EngineState → Option Refused
finish_refusal e = if e.stopped then Some Stopped else None

-- the answer where no memory is taken
abbrev pub answer_by : Option Refused → Result (Unit {0}) Refused
answer_by None = Ok tt
answer_by (Some r) = Err r

-- refused for that reason; where there is none, only for want of memory
abbrev pub IsRefusedAs : {A : Type 0} → Option Refused → Result A Refused → Type 0
IsRefusedAs (Some r) result = result ≡ Err r
IsRefusedAs None result = (r : Refused) → result ≡ Err r → r ≡ Memory
