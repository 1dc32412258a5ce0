use Rattle.std.proofs.Common.{take}
use Rattle.std.specs.List.{AllZip, flat_map}
use Rattle.crs_model.specs.Renaming.{text_in}
use Rattle.crs_engine.specs.Engines.{plans_of}
use Rattle.crs_layers.specs.Accepting.{IsSameLayer}
use Rattle.crs_layers.specs.Giving.{HaveTaken, given_of}
use Rattle.crs_layers.proofs.giving.give_found.Given as goal

-- the strata were given what the recognitions so far give
abbrev pub invariant-loop-found : goal.invariant-loop-found
invariant-loop-found l = record {
  same : AllZip IsSameLayer l.fn.above l.above;
  taken : HaveTaken (flat_map (given_of (text_in l.symbols.texts) (plans_of l.plans)) (take l.found-index l.answer)) l.fn.above l.above l.flood;
}
