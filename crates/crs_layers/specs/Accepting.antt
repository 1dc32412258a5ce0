-- What becomes of strata as they take in entries.
use Rattle.std.specs.Prelude.{◌≡◌, ◌<◌, ◌≤◌, ◌+◌, false, ℕ, List}
use Rattle.crs_base.specs.declared.symbols.Sym.{Sym}
use Rattle.crs_base.specs.Entry.{Entry}
use Rattle.crs_model.specs.Order.{put_in_order}
use Rattle.crs_engine.specs.Engines.{StandsFor, HasAccepted}
use Rattle.crs_layers.specs.declared.layer.Layer.{Layer}

-- the same stratum, whatever became of its engine
pub record IsSameLayer (old new : Layer) : Type 0 where
  pub numbers : new.numbers ≡ old.numbers
  pub behind : new.behind ≡ old.behind

-- the engine has the delay, and as many ticks more as its horizon lies behind
pub record IsDelayed (d : ℕ) (old new : Layer) : Type 0 where
  pub same : IsSameLayer old new
  pub value : new.engine ≡ record old.engine { delay = d + old.behind }
  pub stands : (settled waiting : List (Entry Sym)) → StandsFor old.engine settled waiting → StandsFor new.engine settled waiting

-- an entry of that date isn't refused there
pub record IsReady (date : ℕ) (l : Layer) : Type 0 where
  pub running : l.engine.stopped ≡ false
  pub due : l.engine.horizon ≤ date
  pub room : l.engine.accepted < l.engine.limit

-- the stratum took in the entry with its next arrival number
pub record HasLogged (x : Entry Sym) (old new : Layer) : Type 0 where
  pub accepted : HasAccepted old.engine new.engine
  pub running : new.engine.stopped ≡ false
  pub stands : (settled waiting : List (Entry Sym)) → StandsFor old.engine settled waiting → StandsFor new.engine settled (put_in_order (record x { arrival = old.engine.accepted }) waiting)
