-- The models and the plans that are read of a text.
use Rattle.std.specs.Prelude.{◌≡◌, ◌≤◌, ℕ, List, [], length, map, Ok}
use Rattle.std.specs.List.{AllByRecursion}
use Rattle.crs_base.specs.declared.symbols.Sym.{Sym}
use Rattle.crs_base.specs.Symbols.{Table, AreDistinct}
use Rattle.crs_compile.specs.Compiled.{chronicles_in}
use Rattle.crs_engine.specs.Engines.{plans_of, reaches_of}
use Rattle.crs_layers.specs.Standing.{HasText}
use Rattle.crs_model.specs.declared.models.Models.{Models as CodeModels}
use Rattle.crs_model.specs.declared.plan.Plans.{Plans}
use Rattle.crs_model.specs.Hierarchy.{AreInOrder}
use Rattle.crs_model.specs.Plans.{IsProper, chronicle}
use Rattle.crs_model.specs.ProperModels.{AreProper}
use Rattle.crs_model.specs.Reach.{IsReachOfAll}
use Rattle.crs_model.specs.Renaming.{text_in, renamed_models, AreModelsOf}
use Rattle.crs_model.specs.SeenModels.{models_of}
use Rattle.crs_model.specs.ShortLags.{AreInTime, HaveShortLags}
use Rattle.crs_parse.specs.Meant.{models_read}

-- the models are what the text means, with the symbols of this table, which may hold `symbols` of them
pub record AreReadIn (symbols : ℕ) (text : List ℕ) (m : CodeModels) (table : Table) : Type 0 where
  pub read : models_read symbols [] text ≡ Ok (renamed_models (text_in table.texts) (models_of m), table.texts)
  pub numbered : AreModelsOf (HasText table.texts) (models_of m)
  pub proper : AreProper (models_of m)
  pub distinct : AreDistinct table.texts
  pub limit : table.limit ≡ symbols

-- the plans are those of the models that the text means, with the symbols of this table
pub record ArePlansIn (symbols : ℕ) (text : List ℕ) (plans : Plans) (table : Table) : Type 0 where
  pub models : CodeModels
  pub read : AreReadIn symbols text models table
  pub names : plans.names ≡ models.names
  pub chronicles : chronicles_in plans.plans ≡ models.chronicles
  pub proper : AllByRecursion IsProper (plans_of plans)
  pub few : length plans.plans ≤ 64
  pub in_time : AreInTime Sym (models_of models).chronicles
  pub in_order : AreInOrder (map (λ r. chronicle r.value) plans.plans)
  pub lags : HaveShortLags (plans_of plans)
  pub reach : IsReachOfAll (reaches_of plans) plans.reach

-- none of their chronicles gives entries
abbrev pub AreLonePlans : Plans → Type 0
AreLonePlans plans = AllByRecursion (λ c. c.emits ≡ []) (map (λ r. chronicle r.value) plans.plans)
