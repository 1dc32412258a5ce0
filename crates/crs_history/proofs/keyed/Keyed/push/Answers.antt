use Rattle.std.proofs.Common.{◌≡◌, [], ◌∷◌, ◌++◌, Some, None, sym, ap, subst, ◌∙◌}
use Rattle.std.proofs.lemmas.Result.{on_ok_weaker, on_err_weaker}
use Rattle.crs_base.specs.Seen.{entry_of}
use Rattle.crs_history.specs.Keyed.{AreKeyed, key_of}
use Rattle.crs_history.specs.Lanes.{lane_of, IsSetTo}
use Rattle.crs_history.proofs.Keying.{alike_keyed, plain_pushed, key_pushed}
use Rattle.crs_history.proofs.Trying.{on_err}
use Rattle.crs_history.proofs.keyed.Keyed.push.Goals as goal

pub returns-in_default-clause-ok : goal.returns-in_default-clause-ok
returns-in_default-clause-ok c = λ ring h.
    let p = c.self.inside.places.items in
    let e = entry_of c.args.entry.now.value in
    let none : key_of p e ≡ None = ap (λ w. key_of w e) (sym c.as_slice.ensures.value) ∙ ap (λ w. key_of c.as_slice.result.now (entry_of w)) (sym c.deref.ensures) ∙ sym c.key_of.ensures ∙ c.in_default.is in
    subst (AreKeyed (ring ++ e ∷ [])) c.self.view_is (plain_pushed p ring e c.self.inside.lanes c.self.inside.lanes none (subst (AreKeyed ring) (sym c.self.view_is) h))

pub returns-in_err-clone-clause-err : goal.returns-in_err-clone-clause-err
returns-in_err-clone-clause-err c = on_err c.from_residual.result (λ ring h. subst (AreKeyed ring) (sym c.self.view_is) h)

pub returns-clause-ok : goal.returns-clause-ok
returns-clause-ok c =
    let p = c.self.inside.places.items in
    let e = entry_of c.args.entry.now.value in
    let old = c.self.inside.lanes in
    let k = c.in-Some.key in
    let is : key_of p e ≡ Some k = ap (λ w. key_of w e) (sym c.as_slice.ensures.value) ∙ ap (λ w. key_of c.as_slice.result.now (entry_of w)) (sym c.deref.ensures) ∙ sym c.key_of.ensures ∙ c.in-Some.is in
    on_ok_weaker c.push.result
    (λ set ring h. key_pushed p ring e old c.push.new.self k is (subst (λ w. IsSetTo old k (lane_of old k ++ entry_of w ∷ []) c.push.new.self) c.in_ok-clone.ensures.cases set) (subst (AreKeyed ring) (sym c.self.view_is) h))
    c.push.ensures.ok

pub returns-clause-err : goal.returns-clause-err
returns-clause-err c =
    let p = c.self.inside.places.items in
    on_err_weaker c.push.result (λ same ring h. alike_keyed p ring (entry_of c.args.entry.now.value) c.self.inside.lanes c.push.new.self same (subst (AreKeyed ring) (sym c.self.view_is) h)) c.push.ensures.err
