-- Claims are judged by plans as by the models that they were made of.
use Rattle.std.proofs.Common.{◌≡◌, ◌∙◌, ap, sym, refl, ℕ, true, List, [], ◌∷◌, map, length, arith, Global}
use Rattle.std.specs.Prelude.{Result, Ok, Err, IfOk}
use Rattle.std.specs.List.{AllByRecursion}
use Rattle.crs_model.specs.declared.models.ModelRefused.{ModelRefused}
use Rattle.std.specs.declared.rc.Rc.{Rc}
use Rattle.std.proofs.lemmas.List.{length-map}
use Rattle.crs_audit.specs.Audited.{CanAudit, ground_in, chronicle_in as audited_in}
use Rattle.crs_base.specs.Symbols.{Table}
use Rattle.crs_model.specs.declared.models.Models.{Models as CodeModels}
use Rattle.crs_model.specs.declared.plan.Plan.{Plan}
use Rattle.crs_model.specs.declared.plan.Plans.{Plans}
use Rattle.crs_model.specs.Models.{Chronicle}
use Rattle.crs_model.specs.Plans.{IsProper, chronicle}
use Rattle.crs_model.specs.Renaming.{IsChronicleOf}
use Rattle.crs_model.specs.SeenModels.{chronicle_of}
use Rattle.crs_model.specs.ShortLags.{HaveShortLags}
use Rattle.crs_compile.specs.Compiled.{chronicles_in}
use Rattle.crs_engine.specs.Engines.{plans_of}
use Rattle.crs_commands.specs.AuditOutcomes.{ground_of, AreAuditPlans}
use Rattle.crs_outcomes.specs.ReadPlans.{AreReadIn, ArePlansIn, AreLonePlans}
use Rattle.crs_layers.specs.Standing.{HasText}
use Rattle.crs_frames.specs.TableTexts.{HasModels, chronicle_in}
use Rattle.crs_outcomes.proofs.Preparing.{by_value, frame, accepted, has_models}

-- the chronicles are the same, behind their references or not
behind : (texts : List (List ℕ)) (rs : List (Rc Plan Global)) → map (audited_in texts) rs ≡ map (chronicle_in texts) (map (λ r. r.value) rs)
behind texts [] = refl
behind texts (r ∷ rs) = ap (λ (cs : List (Chronicle (List ℕ))). chronicle_in texts r.value ∷ cs) (behind texts rs)

-- so many plans as chronicles
plans_count : (plans : List (Rc Plan Global)) → length (chronicles_in plans) ≡ length plans
plans_count plans = length-map (map (λ p. p.value) plans) (λ p. p.chronicle) ∙ length-map plans (λ p. p.value)

module _ (symbols : ℕ) (text : List ℕ) (m : CodeModels) (table : Table) (plans : Plans) (is : AreReadIn symbols text m table)
    (names : plans.names ≡ m.names) (chronicles : chronicles_in plans.plans ≡ m.chronicles) (made : AllByRecursion IsProper (plans_of plans))
    (lags : HaveShortLags (plans_of plans)) (lone : AreLonePlans plans) where
  models_for : (entries : ℕ) → HasModels (frame true symbols entries text m table plans is names chronicles made lags) plans table
  models_for entries = has_models true symbols entries text m table plans is names chronicles made lags

  can_audit : CanAudit plans table
  can_audit =
      let h = models_for 0 in
      record {
        proper = by_value IsProper plans.plans h.proper;
        few_plans = (
            let same : length (chronicles_in plans.plans) ≡ length m.chronicles = ap length chronicles in
            let seen : length (map chronicle_of m.chronicles) ≡ length m.chronicles = length-map m.chronicles chronicle_of in
            omega (arith, same, seen, plans_count plans.plans, is.proper.chronicles_few));
        names_in = h.names_in;
        few = h.names_few;
        arities = h.arities;
        chronicles_in = by_value (λ p. IsChronicleOf (HasText table.texts) (chronicle p)) plans.plans h.chronicles_in;
        distinct = h.distinct;
      }

  same_ground : (entries : ℕ) (log : List ℕ)
      → ground_in plans entries table log ≡ ground_of (frame true symbols entries text m table plans is names chronicles made lags) log
  same_ground entries log =
      let h = models_for entries in
      λ i. record {
        chronicles = (behind table.texts plans.plans ∙ sym h.chronicles) i;
        setting = record { names = sym h.names i; symbols = h.limit i; entries = entries };
        texts = table.texts;
        log = log;
      }

  is_read : AreAuditPlans symbols text plans table
  is_read = record {
    can = can_audit;
    meant = λ entries. (
      frame true symbols entries text m table plans is names chronicles made lags,
      accepted true symbols entries text m table plans is names chronicles made lags (λ e. lone),
      same_ground entries,
    );
  }

-- by plans that were read claims are judged as by the models
pub plans_read : (symbols : ℕ) (text : List ℕ) (plans : Plans) (table : Table) → ArePlansIn symbols text plans table → AreLonePlans plans
    → AreAuditPlans symbols text plans table
plans_read symbols text plans table r lone = is_read symbols text r.models table plans r.read r.names r.chronicles r.proper r.lags lone

pub plans_all : (symbols : ℕ) (text : List ℕ) (r : Result (Plans × Table) ModelRefused) → IfOk r (λ read. ArePlansIn symbols text read.0 read.1 × AreLonePlans read.0)
    → IfOk r (λ read. AreAuditPlans symbols text read.0 read.1)
plans_all symbols text (Ok read) h = plans_read symbols text read.0 read.1 h.0 h.1
plans_all symbols text (Err e) h = tt
