-- Plans that come of accepted models.
use Rattle.std.specs.Prelude.{◌≡◌, ◌<◌, ◌≤◌, ◌+◌, List, length}
use Rattle.std.specs.List.{AllByRecursion}
use Rattle.crs_base.specs.declared.symbols.Sym.{Sym}
use Rattle.crs_stn.specs.Bound.{IsWithin, IsConsistent}
use Rattle.crs_stn.specs.Network.{IsMinimal}
use Rattle.crs_stn.specs.Table.{most_of}
use Rattle.crs_model.specs.declared.limits.TheConstants.{POINT_LIMIT, EVENT_LIMIT, VARIABLE_LIMIT}
use Rattle.crs_model.specs.declared.plan.Plan.{Plan}
use Rattle.crs_model.specs.Models.{Chronicle, Name}
use Rattle.crs_model.specs.Proper.{IsNamed}
use Rattle.crs_model.specs.ProperModels.{AreShort, IsProperChronicle}
use Rattle.crs_model.specs.Hierarchy.{IsLagOf}
use Rattle.crs_model.specs.Reach.{IsReachOf, IsSmallSpan}
use Rattle.crs_model.specs.Bindings.{PatternIsBelow}
use Rattle.crs_model.specs.SeenModels.{chronicle_of}

abbrev pub chronicle : Plan → Chronicle Sym
chronicle p = chronicle_of p.chronicle

-- the chronicle is proper for some declared names, whole dates meet its bounds, and the network, the reach and the lag are its own
pub record IsProper (p : Plan) : Type 0 where
  pub points : p.network.points ≡ length p.chronicle.events + length p.chronicle.free
  pub few : p.network.points ≤ POINT_LIMIT
  pub events_some : 0 < length p.chronicle.events
  pub events_few : length p.chronicle.events ≤ EVENT_LIMIT
  pub variables_few : length p.chronicle.variables ≤ VARIABLE_LIMIT
  pub within : IsWithin p.network.points p.chronicle.bounds
  pub consistent : IsConsistent p.chronicle.bounds
  pub minimal : IsMinimal p.chronicle.bounds p.network.points (most_of p.network)
  pub named : IsNamed (chronicle p)
  pub below : AllByRecursion (λ v. PatternIsBelow (length p.chronicle.variables) v.pattern) (chronicle p).events
  pub declared : (names : List (Name Sym)) × AreShort names × IsProperChronicle names (chronicle p)
  pub reach : IsReachOf (chronicle p) (most_of p.network) p.reach
  pub small : IsSmallSpan p.reach
  pub lag : IsLagOf (chronicle p) (most_of p.network) p.lag
  pub quick : IsSmallSpan p.lag
