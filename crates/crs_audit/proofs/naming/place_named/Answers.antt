use Rattle.std.proofs.Common.{◌≡◌, ◌∙◌, ◌<◌, ℕ, zero, suc, true, cond, List, [], ◌∷◌, length, map, drop, get_or, sym, ap, arith, Some}
use Rattle.std.specs.Prelude.{slice_get}
use Rattle.std.specs.Str.{bytes_eq}
use Rattle.std.specs.declared.rc.Rc.{Rc}
use Rattle.std.proofs.Common.{Global}
use Rattle.crs_model.specs.declared.plan.Plan.{Plan}
use Rattle.crs_model.specs.Renaming.{text_in}
use Rattle.crs_audit.specs.Audits.{chronicle_named}
use Rattle.crs_audit.specs.Audited.{chronicle_in}
use Rattle.crs_audit.proofs.naming.place_named.Goals as goal

named_here : (texts : List (List ℕ)) (plans : List (Rc Plan Global)) (name : List ℕ) (i : ℕ) (p : Rc Plan Global) → i < length plans → p ≡ get_or plans i p
    → bytes_eq (text_in texts p.value.chronicle.name) name ≡ true
    → chronicle_named (map (chronicle_in texts) (drop i plans)) name ≡ slice_get (map (chronicle_in texts) plans) i
named_here texts [] name i p lt e b = absurd (omega (arith, lt))
named_here texts (q ∷ plans) name zero p lt e b =
    let same : bytes_eq (text_in texts q.value.chronicle.name) name ≡ true = ap (λ (r : Rc Plan Global). bytes_eq (text_in texts r.value.chronicle.name) name) (sym e) ∙ b in
    λ i. cond (same i) (Some (chronicle_in texts q)) (chronicle_named (map (chronicle_in texts) plans) name)
named_here texts (q ∷ plans) name (suc i) p lt e b = named_here texts plans name i p (omega (arith, lt)) e b

pub returns-then-eq-clause-place : goal.returns-then-eq-clause-place
returns-then-eq-clause-place c =
    let texts = c.args.symbols.now.texts in
    let p = c.index-plans-i.result in
    let named : bytes_eq (text_in texts p.value.chronicle.name) c.args.name.now ≡ true =
    (λ i. bytes_eq (sym (c.text.ensures ∙ ap (λ (q : Plan). text_in texts q.chronicle.name) c.deref.ensures) i) c.args.name.now) ∙ sym c.eq.ensures ∙ c.if-eq.true in
    sym c.loop-i.invariant ∙ named_here texts c.args.plans.now c.args.name.now c.loop-i.i p c.loop-i-test.true c.index-plans-i.is named
