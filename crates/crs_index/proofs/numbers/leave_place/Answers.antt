use Rattle.std.proofs.Common.{rules, ◌≡◌, ◌<◌, length, get_or, sym, ◌∙◌}
use Rattle.crs_index.specs.KeyNumbers.{free}
use Rattle.crs_index.proofs.Places.{written_others, free_other, own_open}
use Rattle.crs_index.proofs.numbers.leave_place.Goals as goal

pub returns-then-is_same-clause-others : goal.returns-then-is_same-clause-others
returns-then-is_same-clause-others c = λ k other.
    let within : c.place_of-at.result < length c.args.places.now.items = search rules in
    let is : c.index.result.now ≡ get_or c.args.places.now.items c.place_of-at.result c.index.result.now = search rules in
    written_others c.args.places.now.items c.place_of-at.result c.index.result.now free c.args.key.now k within is (own_open c.index.result.now c.args.key.now (sym c.is_same.ensures ∙ c.if-is_same.true)) (free_other k) other
