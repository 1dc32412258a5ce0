-- The recognitions of the whole instances.
use Rattle.std.proofs.Common.{◌≡◌, ℕ, List, [], ◌∷◌, map, refl, ap, subst, ◌∙◌}
use Rattle.std.specs.Prelude.{Option, Some, None, Bool, true, false}
use Rattle.crs_base.specs.declared.symbols.Sym.{Sym}
use Rattle.crs_base.specs.Entry.{Entry}
use Rattle.crs_model.specs.declared.recognition.Mark.{Mark}
use Rattle.crs_model.specs.Partial.{Partial}
use Rattle.std.specs.declared.rc.Rc.{Rc}
use Rattle.std.proofs.Common.{Global}
use Rattle.crs_base.specs.Seen.{entry_of}
use Rattle.crs_base.specs.declared.entry.Entry.{Entry as CodeEntry}
use Rattle.crs_instance.specs.Instances.{InstanceState, AreAllEntries}
use Rattle.crs_model.specs.declared.plan.Plan.{Plan}
use Rattle.crs_living.specs.Done.{is_whole, IsDone}
use Rattle.crs_store.specs.Answers.{IsRecognitionFrom}

pub all_some : (es : List (Entry Sym)) → is_whole (map Some es) ≡ true
all_some [] = refl
all_some (x ∷ es) = all_some es

map-twice : (es : List (Rc CodeEntry Global)) → map (λ (r : Rc CodeEntry Global). Some (entry_of r.value)) es ≡ map Some (map (λ (r : Rc CodeEntry Global). entry_of r.value) es)
map-twice [] = refl
map-twice (r ∷ es) = ap (λ (t : Partial Sym). Some (entry_of r.value) ∷ t) (map-twice es)

-- the recognition that is made of a whole instance
pub made_from : (n : ℕ) (m : Mark) (i : InstanceState) (o : Option (List (Rc CodeEntry Global))) (es : List (Rc CodeEntry Global)) (b : List (Option Sym)) → o ≡ Some es → AreAllEntries i.partial o → b ≡ i.binding →
    IsRecognitionFrom n m i (record { chronicle = n; mark = m; entries = es; binding = b })
made_from n m i o es b e h s = record {
  chronicle = refl;
  mark = refl;
  entries = (let k : AreAllEntries i.partial (Some es) = subst (λ (t : Option (List (Rc CodeEntry Global))). AreAllEntries i.partial t) e h in k ∙ map-twice es);
  binding = s;
}

-- an instance that is done has all entries
pub all_there : (plan : Plan) (h : ℕ) (i : InstanceState) (o : Option (List (Rc CodeEntry Global))) → o ≡ None → AreAllEntries i.partial o → IsDone plan h i → ⊥
all_there plan h i o e is done = no_both (is_whole i.partial) done.0 (subst (λ (t : Option (List (Rc CodeEntry Global))). AreAllEntries i.partial t) e is)
  where
    no_both : (b : Bool) → b ≡ true → b ≡ false → ⊥
    no_both b t f = absurd cc
