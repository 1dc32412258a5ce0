use Rattle.std.proofs.Common.{◌≡◌, ◌∙◌, ℕ, zero, suc, List, [], ◌∷◌, map, sym, ap, append-nil, Global}
use Rattle.std.specs.Prelude.{Some, slice_get}
use Rattle.std.specs.declared.rc.Rc.{Rc}
use Rattle.crs_model.specs.declared.plan.Plan.{Plan}
use Rattle.crs_model.specs.Plans.{chronicle}
use Rattle.crs_model.specs.SeenModels.{emit_of}
use Rattle.crs_layers.specs.Giving.{emits_at}
use Rattle.crs_layers.proofs.giving.emits_of.Goals as goal

emits_there : (rs : List (Rc Plan Global)) (n : ℕ) (r : Rc Plan Global) → slice_get rs n ≡ Some r → emits_at (map (λ q. q.value) rs) n ≡ (chronicle r.value).emits
emits_there [] n r e = absurd cc
emits_there (q ∷ rs) zero r e = append-nil (chronicle q.value).emits ∙ (let same : q ≡ r = cc in ap (λ (x : Rc Plan Global). (chronicle x.value).emits) same)
emits_there (q ∷ rs) (suc n) r e = emits_there rs n r e

pub returns-in-Some : goal.returns-in-Some
returns-in-Some c =
    ap (map emit_of) (c.as_slice.ensures ∙ ap (λ (p : Plan). p.chronicle.emits) c.deref.ensures)
    ∙ sym (emits_there c.args.plans.now.plans c.args.number c.in-Some.plan.now (sym c.in-Some.ensures))
