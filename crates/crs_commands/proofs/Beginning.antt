-- A session at the start of a log, with models as they were read and compiled.
use Rattle.std.proofs.Common.{◌≡◌, ◌∙◌, ap, sym, refl, subst, ℕ, zero, suc, ◌≤◌, Bool, List, map, length, replicate, arith, false, true≢false, le_refl}
use Rattle.std.specs.List.{AllByRecursion}
use Rattle.crs_base.specs.Symbols.{Table}
use Rattle.crs_model.specs.declared.models.Models.{Models as CodeModels}
use Rattle.crs_model.specs.declared.plan.Plans.{Plans}
use Rattle.crs_model.specs.Plans.{IsProper}
use Rattle.crs_compile.specs.Compiled.{chronicles_in}
use Rattle.crs_model.specs.ShortLags.{HaveShortLags}
use Rattle.crs_engine.specs.Engines.{plans_of}
use Rattle.crs_layers.specs.Halts.{AreNew}
use Rattle.crs_layers.specs.LayerStates.{LayersState, kept_in}
use Rattle.crs_layers.specs.Standing.{IsRunOf, StandFor, StandAtStart}
use Rattle.crs_layers.specs.Strata.{Stratum, empty, strata_count}
use Rattle.crs_frames.specs.Frames.{Frame}
use Rattle.crs_frames.specs.TableTexts.{HasModels}
use Rattle.crs_session.specs.Session.{Represents}
use Rattle.crs_session.specs.Tallies.{capped}
use Rattle.crs_session.proofs.Living.{held_in, held_live, kept_is}
use Rattle.crs_outcomes.specs.ReadPlans.{AreReadIn}
use Rattle.crs_session.specs.Texts.{setting_of, start_of}
use Rattle.crs_outcomes.proofs.Preparing.{frame, known_plans, has_models}

length_same : (n : ℕ) → length (replicate {A = Stratum (List ℕ)} n empty) ≡ n
length_same zero = refl
length_same (suc n) = ap suc (length_same n)

module _ (cite : Bool) (symbols entries : ℕ) (text : List ℕ) (m : CodeModels) (table : Table) (plans : Plans)
    (is : AreReadIn symbols text m table)
    (names : plans.names ≡ m.names) (chronicles : chronicles_in plans.plans ≡ m.chronicles) (made : AllByRecursion IsProper (plans_of plans))
    (lags : HaveShortLags (plans_of plans)) where
  -- what the models are read as
  abbrev framed : Frame
  framed = frame cite symbols entries text m table plans is names chronicles made lags

  -- the run is of the plans' chronicles
  of_plans : IsRunOf (plans_of plans) lags.0 table.texts (setting_of framed)
  of_plans = record { strata = lags.1; placed = refl; known = known_plans cite symbols entries text m table plans is names chronicles made lags }

  -- the session at the start
  pub represented : (focus : Bool) (x : LayersState) (peak : ℕ) → AreNew plans focus entries x → StandAtStart x → peak ≡ kept_in x
      → Represents framed (record { layers = x; symbols = table; entries = entries; cite = cite; ended = false; counts = record { refused = 0; recognitions = 0; peak = peak } }) (start_of framed)
  represented focus x peak new start is_kept =
      let stand : StandFor (setting_of framed) (start_of framed) x =
      start (setting_of framed) table.texts lags.0 (subst (λ (q : Plans). IsRunOf (plans_of q) lags.0 table.texts (setting_of framed)) (sym new.same_plans) of_plans) new.same_limit in
      let count = length_same (strata_count (map (λ p. p.stratum) framed.placed)) in
      let proper = subst (λ (q : Plans). AllByRecursion IsProper (plans_of q)) (sym new.same_plans) made in
      record {
        models = subst (λ (q : Plans). HasModels framed q table) (sym new.same_plans) (has_models cite symbols entries text m table plans is names chronicles made lags);
        stand = stand;
        texts = refl;
        strata = count;
        count = sym new.none_accepted;
        few = omega arith;
        most_here = refl;
        reached = omega arith;
        closed = λ e. absurd (true≢false (sym e));
        cite = refl;
        ended = refl;
        peaked = (
          held_in x.layers,
          held_live framed x (start_of framed) stand is.distinct proper count,
          subst (λ k. capped (held_in x.layers) ≤ k) (sym (is_kept ∙ kept_is x.layers)) (le_refl (capped (held_in x.layers))),
        );
      }
