-- What a text that is accepted prepares for several logs.
use Rattle.std.proofs.Common.{◌≡◌, ◌∙◌, ap, sym, refl, subst, ℕ, List, [], false, arith, map}
use Rattle.std.specs.List.{AllByRecursion}
use Rattle.crs_base.specs.Symbols.{Table}
use Rattle.crs_compile.specs.Compiled.{chronicles_in}
use Rattle.crs_engine.specs.Engines.{plans_of}
use Rattle.crs_feeds.specs.Standing.{StandAtStart}
use Rattle.crs_feeds.specs.States.{FeedsState}
use Rattle.crs_log.specs.SeenNames.{name_seen}
use Rattle.crs_model.specs.declared.models.Models.{Models as CodeModels}
use Rattle.crs_model.specs.declared.plan.Plans.{Plans}
use Rattle.crs_model.specs.Plans.{IsProper}
use Rattle.crs_model.specs.ShortLags.{HaveShortLags}
use Rattle.crs_rounds.specs.MergedSession.{StandsBehind}
use Rattle.crs_outcomes.specs.ReadPlans.{AreReadIn}
use Rattle.crs_frames.specs.TableTexts.{HasModels}
use Rattle.crs_frames.specs.Frames.{log_setting}
use Rattle.crs_outcomes.proofs.Preparing.{frame, has_models}

module _ (symbols entries : ℕ) (text : List ℕ) (m : CodeModels) (table : Table) (plans : Plans)
    (is : AreReadIn symbols text m table)
    (names : plans.names ≡ m.names) (chronicles : chronicles_in plans.plans ≡ m.chronicles) (made : AllByRecursion IsProper (plans_of plans))
    (lags : HaveShortLags (plans_of plans)) where
  pub stands_at_start : (s : FeedsState) → s.engine.plans ≡ plans → s.engine.limit ≡ entries → StandAtStart s
      → StandsBehind (frame false symbols entries text m table plans is names chronicles made lags) (record { feeds = s; symbols = table; entries = entries; refused = false }) []
  stands_at_start s same limit stands =
      let f = frame false symbols entries text m table plans is names chronicles made lags in
      let h : HasModels f plans table = has_models false symbols entries text m table plans is names chronicles made lags in
      record {
        models = subst (λ (p : Plans). HasModels f p table) (sym same) h;
        stand = stands (log_setting f) table.texts (h.names ∙ ap (λ (p : Plans). map (name_seen table.texts) p.names) (sym same)) (sym limit);
        texts = refl;
        few = omega arith;
        most_here = refl;
      }
