use Rattle.std.proofs.Common.{rules, ◌≡◌, ◌∙◌, ◌<◌, ◌+◌, ◌^◌, Some, sym, ap, subst, length}
use Rattle.std.specs.Prelude.{ℤ, pos, ◌+ℤ◌, ◌-ℤ◌, ◌≤ℤ◌, Option, slice_set, IfSome, IsSomeAnd}
use Rattle.std.proofs.lemmas.Int.{to_z-of_z}
use mir.Syntax.{w64}
use mir.Val.{SFits, to_z, of_z}
use Rattle.crs_audit.specs.Rounds.{date_in, IsNear}
use Rattle.crs_audit.proofs.Raising.{risen}
use Rattle.crs_audit.proofs.Near.{set_here, set_there, near_of, near_less, near_set}
use Rattle.crs_audit.proofs.bounds.raise.Goals as goal

pub returns-clause-raising : goal.returns-clause-raising
returns-clause-raising c =
    let b = c.args.bound.now in
    let l = c.args.dates.now.of in
    let u = c.in-Some-of.date in
    let m = c.in-Some.most in
    let fu : SFits w64 u = search rules in
    let fm : SFits w64 m = search rules in
    let fd : SFits w64 (to_z w64 (of_z w64 u) -ℤ to_z w64 (of_z w64 m)) = search rules in
    let v : ℤ = to_z w64 (of_z w64 (to_z w64 (of_z w64 u) -ℤ to_z w64 (of_z w64 m))) in
    let e : v ≡ u -ℤ m = to_z-of_z w64 (to_z w64 (of_z w64 u) -ℤ to_z w64 (of_z w64 m)) fd ∙ (λ i. to_z-of_z w64 u fu i -ℤ to_z-of_z w64 m fm i) in
    let lt : b.from < length l = search rules in
    risen b c.args.events (date_in c.args.before.now.of) (date_in l) m u c.in-Some.is c.in-Some-of.is (date_in (slice_set l b.from (Some v)))
    (λ h. let t = c.is_since.ensures.1 (subst (λ (z : ℤ). IsSomeAnd (date_in l b.from) (λ d. z ≤ℤ d)) (sym e) h) in let f = c.if-is_since.false in cc)
    c.if-bound-events.false c.requires.within.from_below (set_here l b.from (Some v) lt ∙ ap Some e) (λ p n. set_there l b.from (Some v) p n)

pub returns-clause-near : goal.returns-clause-near
returns-clause-near c =
    let b = c.args.bound.now in
    let l = c.args.dates.now.of in
    let u = c.in-Some-of.date in
    let m = c.in-Some.most in
    let fu : SFits w64 u = search rules in
    let fm : SFits w64 m = search rules in
    let fd : SFits w64 (to_z w64 (of_z w64 u) -ℤ to_z w64 (of_z w64 m)) = search rules in
    let v : ℤ = to_z w64 (of_z w64 (to_z w64 (of_z w64 u) -ℤ to_z w64 (of_z w64 m))) in
    let e : v ≡ u -ℤ m = to_z-of_z w64 (to_z w64 (of_z w64 u) -ℤ to_z w64 (of_z w64 m)) fd ∙ (λ i. to_z-of_z w64 u fu i -ℤ to_z-of_z w64 m fm i) in
    let lt : b.from < length l = search rules in
    let high : m ≤ℤ pos (2 ^ 40) = subst (λ (o : Option ℤ). IfSome o (λ m. m ≤ℤ pos (2 ^ 40))) c.in-Some.is c.requires.within.not_large in
    let low : pos 0 ≤ℤ (m +ℤ pos (2 ^ 40)) = subst (λ (o : Option ℤ). IfSome o (λ m. pos 0 ≤ℤ (m +ℤ pos (2 ^ 40)))) c.in-Some.is c.requires.within.not_small in
    near_set (c.args.round + 2) l b.from v lt c.requires.near_now
    (subst (IsNear (c.args.round + 2)) (sym e) (near_less c.args.round u m (near_of (date_in c.args.before.now.of b.to) (c.args.round + 1) u c.in-Some-of.is (c.requires.near b.to)) high low))
