use Rattle.std.proofs.Common.{◌≡◌, ℕ, ◌≤◌, ◌<◌, [], subst, sym, arith}
use Rattle.std.specs.Prelude.{ℤ, pos, ◌≤ℤ◌}
use Rattle.std.specs.Int.{int_max}
use Rattle.std.specs.List.{AllByRecursion}
use Rattle.std.proofs.lemmas.Int.{ints, int_max_is, by_lt_z}
use mir.Val.{to_z}
use mir.Syntax.{w64}
use Rattle.crs_history.specs.Histories.{HistoryState, IsKept}
use Rattle.crs_history.proofs.Order.{all_sifted}
use Rattle.crs_parts_tests.proofs.histories.Filled.forget.Goals as goal

not_over : (a z : ℤ) (m : ℕ) → a ≤ℤ pos m → z ≤ℤ pos m → int_max a z ≤ℤ pos m
not_over a z m h k = omega (arith, ints, int_max_is a z)

pub invariant_of-self : goal.invariant_of-self
invariant_of-self c =
    let h = c.self.inside in
    let new = c.forget_before.new.self in
    let z = to_z w64 c.args.date in
    let le : c.args.date ≤ h.last = c.if-date-self.true in
    let under : to_z w64 c.args.date ≤ℤ pos h.last = omega (arith, ints) in (
      by_lt_z h.history.floor (to_z w64 c.args.date)
          (λ up. all_sifted (λ e. (e.date ≤ h.last) × (e.arrival < h.count) × (e.text ≡ [])) (IsKept h.history.entries (to_z w64 c.args.date)) h.history.entries new.entries c.self.invariant.0 (c.forget_before.ensures.held up))
          (λ low. subst (λ (w : HistoryState). AllByRecursion (λ e. (e.date ≤ h.last) × (e.arrival < h.count) × (e.text ≡ [])) w.entries) (sym (c.forget_before.ensures.low low)) c.self.invariant.0),
      subst (λ f. f ≤ℤ pos h.last) (sym c.forget_before.ensures.floor) (not_over h.history.floor (to_z w64 c.args.date) h.last c.self.invariant.1 under),
    )
