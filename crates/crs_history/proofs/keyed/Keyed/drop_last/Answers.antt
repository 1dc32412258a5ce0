use Rattle.std.proofs.Common.{◌≡◌, [], ◌∷◌, ◌++◌, Some, None, sym, ap, subst, ◌∙◌}
use Rattle.crs_base.specs.Seen.{entry_of}
use Rattle.crs_history.specs.Keyed.{AreKeyed, key_of}
use Rattle.crs_history.proofs.Keying.{plain_dropped, key_dropped}
use Rattle.crs_history.proofs.keyed.Keyed.drop_last.Goals as goal

pub returns-in-Some : goal.returns-in-Some
returns-in-Some c = λ ring h.
    let p = c.self.inside.places.items in
    let e = entry_of c.args.entry.now in
    let is : key_of p e ≡ Some c.in-Some.key = ap (λ w. key_of w e) (sym c.as_slice.ensures.value) ∙ sym c.key_of.ensures ∙ c.in-Some.is in
    key_dropped p ring e c.self.inside.lanes c.drop_last.new.self c.in-Some.key is c.drop_last.ensures (subst (AreKeyed (ring ++ e ∷ [])) (sym c.self.view_is) h)

pub returns-in_default : goal.returns-in_default
returns-in_default c = λ ring h.
    let p = c.self.inside.places.items in
    let e = entry_of c.args.entry.now in
    let none : key_of p e ≡ None = ap (λ w. key_of w e) (sym c.as_slice.ensures.value) ∙ sym c.key_of.ensures ∙ c.in_default.is in
    subst (AreKeyed ring) c.self.view_is (plain_dropped p ring e c.self.inside.lanes c.self.inside.lanes none (subst (AreKeyed (ring ++ e ∷ [])) (sym c.self.view_is) h))
