-- The greatest and the least date of a point are determined by what they are.
use Rattle.std.proofs.Common.{◌≡◌, ℕ, List, refl, ap, arith}
use Rattle.std.specs.Prelude.{ℤ, pos, ◌+ℤ◌, ◌-ℤ◌, Option, Some, None}
use Rattle.std.proofs.lemmas.Int.{ints}
use Rattle.crs_stn.specs.declared.bound.Bound.{Bound}
use Rattle.crs_stn.specs.DateWindow.{IsLatest, IsSoonest}

pub latest_is_one : (bounds : List Bound) (given : ℕ → Option ℤ) (r : ℕ) (a b : Option ℤ) → IsLatest bounds given r a → IsLatest bounds given r b → a ≡ b
latest_is_one bounds given r None None h k = refl
latest_is_one bounds given r None (Some b) h k = let w = h (b +ℤ pos 1) in let top = k.0 w.0 w.1 w.2 in let low = w.3 in absurd (omega (arith, ints, top, low))
latest_is_one bounds given r (Some a) None h k = let w = k (a +ℤ pos 1) in let top = h.0 w.0 w.1 w.2 in let low = w.3 in absurd (omega (arith, ints, top, low))
latest_is_one bounds given r (Some a) (Some b) h k =
    let one = k.0 h.1 h.2 h.3 in
    let two = h.0 k.1 k.2 k.3 in
    let at_a = h.4 in
    let at_b = k.4 in
    ap Some (omega (arith, ints, one, two, at_a, at_b))

pub soonest_is_one : (bounds : List Bound) (given : ℕ → Option ℤ) (r : ℕ) (a b : Option ℤ) → IsSoonest bounds given r a → IsSoonest bounds given r b → a ≡ b
soonest_is_one bounds given r None None h k = refl
soonest_is_one bounds given r None (Some b) h k = let w = h (b -ℤ pos 1) in let low = k.0 w.0 w.1 w.2 in let top = w.3 in absurd (omega (arith, ints, top, low))
soonest_is_one bounds given r (Some a) None h k = let w = k (a -ℤ pos 1) in let low = h.0 w.0 w.1 w.2 in let top = w.3 in absurd (omega (arith, ints, top, low))
soonest_is_one bounds given r (Some a) (Some b) h k =
    let one = k.0 h.1 h.2 h.3 in
    let two = h.0 k.1 k.2 k.3 in
    let at_a = h.4 in
    let at_b = k.4 in
    ap Some (omega (arith, ints, one, two, at_a, at_b))
