use Rattle.std.proofs.Common.{rules, ◌≡◌, vec_len, length, refl, ◌∙◌, arith}
use Rattle.crs_index.proofs.Places.{places_grown}
use Rattle.crs_index.proofs.numbers.open_places.Goals as goal

pub returns-in_ok-resize-clause-same : goal.returns-in_ok-resize-clause-same
returns-in_ok-resize-clause-same c =
    let r = c.in_ok-resize.ensures {u = tt} in
    let was : length c.args.places.now.items ≡ vec_len c.args.places.now = search rules in
    let long : length c.resize.new.self.items ≡ vec_len c.resize.new.self = search rules in
    let few = c.if-len.true in
    let count = c.len.ensures in
    places_grown c.args.places.now.items c.resize.new.self.items 4096 (long ∙ r.len) (λ k d l b. r.by_index.0 k d l (omega arith)) (λ k d b l. r.by_index.1 k d refl (omega arith) l) (omega arith)
