-- Models that were read and compiled can be audited by.
use Rattle.std.proofs.Common.{◌≡◌, ◌<◌, ◌≤◌, ◌+◌, List, [], ◌∷◌, length, map, sym, ap, subst, arith, Global}
use Rattle.std.proofs.lemmas.List.{length-map}
use Rattle.std.specs.List.{AllByRecursion}
use Rattle.std.specs.declared.rc.Rc.{Rc}
use Rattle.crs_base.specs.Symbols.{Table, AreDistinct}
use Rattle.crs_base.proofs.Alls.{all_left}
use Rattle.crs_model.specs.declared.chronicle.Chronicle.{Chronicle as CodeChronicle}
use Rattle.crs_model.specs.declared.models.Models.{Models}
use Rattle.crs_model.specs.declared.models.Name.{Name}
use Rattle.crs_model.specs.declared.plan.Plan.{Plan}
use Rattle.crs_model.specs.declared.plan.Plans.{Plans}
use Rattle.crs_model.specs.Plans.{IsProper}
use Rattle.crs_model.specs.ProperModels.{AreProper}
use Rattle.crs_model.specs.Renaming.{IsChronicleOf, AreModelsOf}
use Rattle.crs_model.specs.SeenModels.{models_of, chronicle_of, name_of}
use Rattle.crs_compile.specs.Compiled.{chronicles_in, plans_in}
use Rattle.crs_log.specs.SeenNames.{AreNamesIn}
use Rattle.crs_audit.specs.Audited.{CanAudit}

unmapped : {X Y : Type 0} (f : X → Y) (P : Y → Type 0) (xs : List X) → AllByRecursion P (map f xs) → AllByRecursion (λ x. P (f x)) xs
unmapped f P [] h = tt
unmapped f P (x ∷ xs) h = (h.0, unmapped f P xs h.1)

pub can_audit : (m : Models) (plans : Plans) (t : Table) → AreProper (models_of m) → AreModelsOf (λ s. s.0 < length t.texts) (models_of m) → AreDistinct t.texts
    → plans.names ≡ m.names → chronicles_in plans.plans ≡ m.chronicles → AllByRecursion IsProper (plans_in plans.plans) → CanAudit plans t
can_audit m plans t proper known distinct names chronicles all =
    let long : length (chronicles_in plans.plans) ≡ length m.chronicles = ap length chronicles in
    let a : length (chronicles_in plans.plans) ≡ length (plans_in plans.plans) = length-map (plans_in plans.plans) (λ p. p.chronicle) in
    let b : length (plans_in plans.plans) ≡ length plans.plans = length-map plans.plans _ in
    let d : length (models_of m).chronicles ≡ length m.chronicles = length-map m.chronicles chronicle_of in
    let e : length (models_of m).names ≡ length m.names = length-map m.names name_of in
    let f : length (models_of m).chronicles ≤ 64 = proper.chronicles_few in
    let g : length (models_of m).names + length (models_of m).derived ≤ 256 = proper.names_few in
    record {
      proper = unmapped (λ (r : Rc Plan Global). r.value) IsProper plans.plans all;
      few_plans = omega (arith, long, a, b, d, f);
      names_in = subst (λ (ns : List Name). AreNamesIn t.texts ns) (sym names) known.names;
      few = subst (λ (ns : List Name). length ns ≤ 256) (sym names) (omega (arith, e, g));
      arities = subst (λ (ns : List Name). AllByRecursion (λ n. n.arity ≤ 8) ns) (sym names) (unmapped name_of (λ n. n.arity ≤ 8) m.names (all_left (λ n. n.arity ≤ 8) (map name_of m.names) (map name_of m.derived) proper.arities));
      chronicles_in = unmapped (λ (r : Rc Plan Global). r.value) (λ p. IsChronicleOf (λ s. s.0 < length t.texts) (chronicle_of p.chronicle)) plans.plans
          (unmapped (λ (p : Plan). p.chronicle) (λ c. IsChronicleOf (λ s. s.0 < length t.texts) (chronicle_of c)) (plans_in plans.plans)
          (subst (λ (cs : List CodeChronicle). AllByRecursion (λ c. IsChronicleOf (λ s. s.0 < length t.texts) (chronicle_of c)) cs) (sym chronicles)
          (unmapped chronicle_of (λ c. IsChronicleOf (λ s. s.0 < length t.texts) c) m.chronicles known.chronicles)));
      distinct = distinct;
    }
