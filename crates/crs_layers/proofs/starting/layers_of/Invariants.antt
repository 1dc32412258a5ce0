use Rattle.std.proofs.Common.{◌≡◌, map, length}
use Rattle.crs_layers.specs.LayerPlans.{AreNewLayers}
use Rattle.crs_layers.specs.Strata.{strata_count}
use Rattle.crs_layers.proofs.starting.layers_of.Given as goal

abbrev pub invariant-loop-stratum : goal.invariant-loop-stratum
invariant-loop-stratum l = (length l.layers.items ≡ l.stratum) × (l.stratum-end ≡ strata_count l.strata) × AreNewLayers (map (λ r. r.value) l.plans) l.strata l.focus l.limit 0 l.layers.items
