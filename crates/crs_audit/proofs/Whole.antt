-- A log that was read whole is one that claims are judged by, and the ground of an audit.
use Rattle.std.proofs.Common.{◌≡◌, ◌∙◌, ◌<◌, ◌^◌, ◌++◌, ℕ, List, [], ◌∷◌, map, refl, sym, ap, subst, arith}
use Rattle.std.specs.List.{AllByRecursion}
use Rattle.std.specs.declared.rc.Rc.{Rc}
use Rattle.std.proofs.Common.{Global}
use Rattle.crs_base.specs.Lines.{lines_of}
use Rattle.crs_base.specs.Symbols.{Table}
use Rattle.crs_model.specs.declared.plan.Plan.{Plan}
use Rattle.crs_model.specs.declared.plan.Plans.{Plans}
use Rattle.crs_model.specs.Renaming.{text_in, IsChronicleOf}
use Rattle.crs_model.specs.SeenModels.{chronicle_of}
use Rattle.crs_model.proofs.Agreed.{same_chronicle, chronicle_more}
use Rattle.crs_log.specs.Run.{Setting}
use Rattle.crs_audit.specs.declared.run.Log.{Log}
use Rattle.crs_audit.specs.Audited.{CanAudit, chronicle_in, ground_in, IsAuditedAs, IsRefusedAs}
use Rattle.crs_audit.specs.Telling.{TellsClaims, TellsFault}
use Rattle.crs_audit.specs.declared.words.AuditRefused.{AuditRefused}
use Rattle.crs_audit.specs.declared.words.AuditRefused.TheVariants.{At, Memory}
use Rattle.std.specs.Prelude.{Result, Ok, Err, IfOk, IfErr}
use Rattle.crs_audit.specs.JudgedClaims.{CanJudge, IsGroundOf}
use Rattle.crs_audit.specs.Notes.{number_of, last_view}
use Rattle.crs_audit.specs.Runs.{entries_seen, IsSettingOf, HasSetting, IsLogOf}
use Rattle.crs_audit.proofs.Growing.{HasText, has_more, same_text}
use Rattle.crs_audit.proofs.Views.{view_is}

module _ (plans : Plans) (entries : ℕ) (old : Table) (log : List ℕ) (can : CanAudit plans old) where
  abbrev pub setting : Setting
  setting = (ground_in plans entries old log).setting

  pub is_setting : IsSettingOf setting plans.names entries old
  is_setting = record { names_are = refl; names_in = can.names_in; few = can.few; arities = can.arities; distinct = can.distinct; symbols = refl; limit = refl }

  pub has_setting : HasSetting plans.names entries old
  has_setting = record { setting = setting; fits = is_setting }

  module _ (now : Table) (x : Log) (read : IsLogOf setting plans.names entries old now (lines_of log) x) (small : entries < 2 ^ 32) where
    more_there : (ps : List (Rc Plan Global)) → AllByRecursion (λ p. IsChronicleOf (HasText old.texts) (chronicle_of p.value.chronicle)) ps
        → AllByRecursion (λ p. IsChronicleOf (HasText (old.texts ++ read.more)) (chronicle_of p.value.chronicle)) ps
    more_there [] h = tt
    more_there (p ∷ ps) h = (
      chronicle_more (HasText old.texts) (HasText (old.texts ++ read.more)) (λ s k. has_more old.texts read.more s k) (chronicle_of p.value.chronicle) h.0,
      more_there ps h.1,
    )

    same_there : (ps : List (Rc Plan Global)) → AllByRecursion (λ p. IsChronicleOf (HasText old.texts) (chronicle_of p.value.chronicle)) ps
        → map (chronicle_in old.texts) ps ≡ map (chronicle_in (old.texts ++ read.more)) ps
    same_there [] h = refl
    same_there (p ∷ ps) h =
        let first = same_chronicle (text_in old.texts) (text_in (old.texts ++ read.more)) (HasText old.texts) (λ s k. same_text old.texts read.more s k) (chronicle_of p.value.chronicle) h.0 in
        let rest = same_there ps h.1 in
        λ i. first i ∷ rest i

    pub can_judge : CanJudge plans.plans now.texts x
    can_judge = record {
      proper = can.proper;
      chronicles_in = subst (λ (texts : List (List ℕ)). AllByRecursion (λ p. IsChronicleOf (HasText texts) (chronicle_of p.value.chronicle)) plans.plans) (sym read.grown) (more_there plans.plans can.chronicles_in);
      few_chronicles = can.few_plans;
      distinct = read.setting.distinct;
      known = read.known;
      placed = read.placed;
      dated = read.dated;
      few = (let few = read.few in omega arith);
      ascending = read.ascending;
      in_order = read.in_order;
      same = read.same;
    }

    pub is_ground : IsGroundOf plans.plans now.texts x (ground_in plans entries old log)
    is_ground = record {
      chronicles = same_there plans.plans can.chronicles_in ∙ ap (λ (texts : List (List ℕ)). map (chronicle_in texts) plans.plans) (sym read.grown);
      views = λ m. ap (λ notes. last_view notes (number_of m)) (sym read.marks) ∙ view_is (entries_seen now.texts x.entries) x.marks (number_of m);
    }

    pub audited : (output : List ℕ) (n : ℕ) → TellsClaims plans.plans now.texts x output n → IsAuditedAs plans entries old log output n
    audited output n h = h (ground_in plans entries old log) is_ground

    refused : (output : List ℕ) (e : AuditRefused) → TellsFault plans.plans now.texts x output e → IsRefusedAs plans entries old log output e
    refused output (At line word) h = h (ground_in plans entries old log) is_ground
    refused output Memory h = tt

    pub all_audited : (output : List ℕ) (r : Result ℕ AuditRefused) → IfOk r (TellsClaims plans.plans now.texts x output) → IfOk r (IsAuditedAs plans entries old log output)
    all_audited output (Ok n) h = audited output n h
    all_audited output (Err e) h = tt

    pub all_refused : (output : List ℕ) (r : Result ℕ AuditRefused) → IfErr r (TellsFault plans.plans now.texts x output) → IfErr r (IsRefusedAs plans entries old log output)
    all_refused output (Ok n) h = tt
    all_refused output (Err e) h = refused output e h
