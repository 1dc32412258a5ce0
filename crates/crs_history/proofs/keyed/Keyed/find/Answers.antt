use Rattle.std.proofs.Common.{◌≡◌, Some, sym, ap, subst, ◌∙◌}
use Rattle.crs_history.specs.Dropping.{Drops}
use Rattle.crs_history.specs.Keyed.{AreKeyed, IsLike, key_of, key_for}
use Rattle.crs_history.specs.Lanes.{lane_of}
use Rattle.crs_history.proofs.Keying.{like_key, sifted_all}
use Rattle.crs_history.proofs.keyed.Keyed.find.Goals as goal

pub returns : goal.returns
returns c = λ ring h.
    let p = c.self.inside.places.items in
    let L = IsLike c.args.name c.args.known.now in
    let k = c.in_ok-key.key in
    let is : key_for p c.args.name c.args.known.now ≡ Some k = ap (λ w. key_for w c.args.name c.args.known.now) (sym c.as_slice.ensures.value) ∙ sym c.key_for.ensures ∙ c.in_ok-key.was in
    let all : AreKeyed ring (record { places = p; lanes = c.self.inside.lanes }) = subst (AreKeyed ring) (sym c.self.view_is) h in
    subst (Drops (λ e. L e → ⊥) ring) (sym c.lane.ensures)
    (sifted_all (λ e. key_of p e ≡ Some k) L ring (lane_of c.self.inside.lanes k) (λ e l. like_key p c.args.name c.args.known.now k e is l) (all k))
