use Rattle.std.proofs.Common.{ℕ, zero, suc, List, [], ◌∷◌, length, map, get_or, refl, sym, ap, subst, ◌∙◌}
use Rattle.std.specs.Prelude.{Option, Some, None, IfSome, cond, replicate, slice_get}
use Rattle.std.proofs.lemmas.List.{length-replicate}
use Rattle.crs_base.specs.Seen.{entry_of}
use Rattle.crs_base.specs.declared.symbols.Sym.{Sym}
use Rattle.crs_instance.proofs.BindAnswers.{pattern_as}
use Rattle.crs_instance.specs.Instances.{IsBoundBy}
use Rattle.crs_model.specs.Bindings.{PatternIsBelow}
use Rattle.crs_model.specs.declared.chronicle.EventDef.{EventDef}
use Rattle.crs_model.specs.SeenModels.{chronicle_of, event_of, pattern_of}
use Rattle.crs_store.proofs.scanning.agreeing.takes.Goals as goal

pub matched-requires : goal.matched-requires
matched-requires g c =
    let n = length c.args.plan.now.chronicle.variables in
    subst (λ (k : ℕ). PatternIsBelow k (pattern_of (get_or c.as_slice.result.now c.args.event c.index-as_slice-event.result).pattern)) (sym (ap length c.requires.none ∙ length-replicate n None))
    (pattern_as n n c.as_slice.result.now c.args.plan.now.chronicle.events c.args.event c.index-as_slice-event.result c.as_slice.ensures refl c.requires.event c.requires.proper.below)

module _ {A B : Type 0} (f : A → B) (P : B → Type 0) (z : A) where
  if_there : (xs : List A) (e : ℕ) → P (f (get_or xs e z)) → IfSome (slice_get (map f xs) e) P
  if_there [] e p = tt
  if_there (x ∷ xs) zero p = p
  if_there (x ∷ xs) (suc e) p = if_there xs e p

pub returns-clause-taken : goal.returns-clause-taken
returns-clause-taken g c =
    let n = length c.args.plan.now.chronicle.variables in
    let x = entry_of c.args.entry.now in
    let o = cond c.matched.result (Some c.matched.new.binding) None in
    let bound = subst (λ (s : List (Option Sym)). IsBoundBy (chronicle_of c.args.plan.now.chronicle) (pattern_of (get_or c.as_slice.result.now c.args.event c.index-as_slice-event.result).pattern) s x o) c.requires.none c.matched.ensures.bound in
    subst (λ (es : List EventDef). IfSome (slice_get (map event_of es) c.args.event) (λ v. IsBoundBy (chronicle_of c.args.plan.now.chronicle) v.pattern (replicate n None) x o)) c.as_slice.ensures
    (if_there event_of (λ v. IsBoundBy (chronicle_of c.args.plan.now.chronicle) v.pattern (replicate n None) x o) c.index-as_slice-event.result c.as_slice.result.now c.args.event bound)
