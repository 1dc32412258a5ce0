-- Plans, chronicle by chronicle.
use Rattle.std.proofs.Common.{◌≡◌, inl, inr, subst, List, [], ◌∷◌, ◌++◌, map, append_assoc}
use Rattle.std.specs.List.{AllByRecursion}
use Rattle.std.proofs.lemmas.List.{map-append}
use Rattle.crs_model.specs.declared.chronicle.Chronicle.{Chronicle}
use Rattle.crs_model.specs.declared.plan.Plan.{Plan}
use Rattle.crs_model.specs.declared.models.ModelRefused.{ModelRefused}
use Rattle.crs_model.specs.declared.models.ModelRefused.TheVariants.{At, Memory}
use Rattle.crs_base.specs.declared.symbols.Sym.{Sym}
use Rattle.crs_model.specs.Models.{Name}
use Rattle.crs_model.specs.ProperModels.{AreShort, IsProperChronicle}
use Rattle.crs_model.specs.Plans.{IsProper}
use Rattle.crs_model.specs.SeenModels.{chronicle_of}
use Rattle.crs_compile.specs.Compiled.{IsAdded, ClosesFirst, IsRefusal}

-- the plans are those of the first chronicles, and `rest` are the others
pub record IsPlanned (all : List Chronicle) (plans : List Plan) (rest : List Chronicle) : Type 0 where
  pub parts : map (λ p. p.chronicle) plans ++ rest ≡ all
  pub plans_are : AllByRecursion IsProper plans
  pub names : List (Name Sym)
  pub short : AreShort names
  pub proper : AllByRecursion (IsProperChronicle names) (map chronicle_of rest)

all_push : (P : Plan → Type 0) (xs : List Plan) (x : Plan) → AllByRecursion P xs → P x → AllByRecursion P (xs ++ x ∷ [])
all_push P [] x h p = (p, tt)
all_push P (y ∷ ys) x h p = (h.0, all_push P ys x h.1 p)

pub planned_more : (all : List Chronicle) (plans : List Plan) (c : Chronicle) (rest : List Chronicle) (new : List Plan)
    → IsAdded c plans new → IsPlanned all plans (c ∷ rest) → IsPlanned all new rest
planned_more all plans c rest new a h = record {
  parts = rw (a.last, map-append, a.chronicle, append_assoc) h.parts;
  plans_are = rw a.last (all_push IsProper plans a.plan h.plans_are a.proper);
  names = h.names;
  short = h.short;
  proper = h.proper.1;
}

closes_within : (plans : List Plan) (c : Chronicle) (rest : List Chronicle) (line : _) → AllByRecursion IsProper plans
    → ClosesFirst (c ∷ []) line → ClosesFirst (map (λ p. p.chronicle) plans ++ c ∷ rest) line
closes_within [] c rest line h (inl k) = inl k
closes_within [] c rest line h (inr k) = absurd k.1
closes_within (p ∷ ps) c rest line h k = inr (h.0.consistent, closes_within ps c rest line h.1 k)

pub refused_within : (all : List Chronicle) (plans : List Plan) (c : Chronicle) (rest : List Chronicle) (e : ModelRefused)
    → IsPlanned all plans (c ∷ rest) → IsRefusal (c ∷ []) e → IsRefusal all e
refused_within all plans c rest (At line word) h k = (k.0, subst (λ cs. ClosesFirst cs line) h.parts (closes_within plans c rest line h.plans_are k.1))
refused_within all plans c rest Memory h k = tt
