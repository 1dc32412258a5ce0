-- What a mark does to a stratum.
use Rattle.std.specs.Prelude.{◌≡◌, ◌<◌, ◌≤◌, ◌-◌, ◌^◌, Bool, true, false, ℕ, List}
use Rattle.crs_base.specs.declared.symbols.Sym.{Sym}
use Rattle.crs_base.specs.Entry.{Entry}
use Rattle.crs_model.specs.declared.recognition.Mark.{Mark}
use Rattle.crs_model.specs.declared.recognition.Mark.TheVariants.{Clock, Finish}
use Rattle.crs_model.specs.declared.recognition.Recognition.{Recognition}
use Rattle.crs_engine.specs.Engines.{EngineState, StandsFor, HasMoved}
use Rattle.crs_engine.specs.Marks.{AfterMark}

-- the clock of a mark, and the horizon that an engine with this delay moves on to where that is later
abbrev pub clock_of : Mark → ℕ
clock_of (Clock t) = t
clock_of Finish = 2 ^ 42

abbrev pub horizon_for : Mark → ℕ → ℕ
horizon_for (Clock t) delay = t - delay
horizon_for Finish delay = 2 ^ 42

-- whether it is the end
abbrev pub ends : Mark → Bool
ends (Clock t) = false
ends Finish = true

-- a clock is a date, and isn't before the last one
abbrev pub IsInTime : Mark → EngineState → Type 0
IsInTime (Clock t) e = (t < 2 ^ 40) × (e.last ≤ t)
IsInTime Finish e = Unit {0}

-- the engine moved on to the mark, and answered what is new at it
pub record HasMarked (mark : Mark) (old new : EngineState) (answer : List Recognition) : Type 0 where
  pub moved : HasMoved old new (clock_of mark) (horizon_for mark old.delay)
  pub running : new.stopped ≡ false
  pub after : (settled waiting : List (Entry Sym)) → StandsFor old settled waiting → AfterMark old new mark settled waiting answer
