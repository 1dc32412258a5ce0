use Rattle.std.proofs.Common.{◌≡◌, ◌<◌, ◌+◌, ◌≤◌, ℕ, suc, length, subst, sym, ap, arith}
use Rattle.crs_model.proofs.Heights.{item_at}
use Rattle.crs_compile.specs.Compiled.{plans_in}
use Rattle.crs_model.specs.ShortLags.{AreSlow, first_lags}
use Rattle.crs_compile.proofs.Slow.{first_same, each_fast}
use Rattle.crs_compile.proofs.lag.+slow_from.Goals as goal

pub returns-then-are_slow : goal.returns-then-are_slow
returns-then-are_slow t c =
    let l : c.args.fast < length c.args.plans.now = omega (arith, c.requires.within, c.if-fast-plans.false) in
    let next : c.args.fast + 1 ≡ suc c.args.fast = omega arith in (
      c.args.fast,
      c.index-plans-fast.result.value,
      item_at (λ r. r.value) c.args.plans.now c.args.fast c.index-plans-fast.result c.index-plans-fast.is l,
      ap (λ p. p.chronicle.line) c.deref.ensures,
      subst (λ (n : ℕ). AreSlow (first_lags n (plans_in c.args.plans.now) c.args.strata.now)) next (subst AreSlow (first_same (c.args.fast + 1) c.args.plans.now c.args.strata.now) (c.are_slow.ensures.yes c.if-are_slow.true)),
      c.requires.fast,
    )

pub slow_from-requires : goal.slow_from-requires
slow_from-requires t c =
    let l : c.args.fast < length c.args.plans.now = omega (arith, c.requires.within, c.if-fast-plans.false) in
    let next : c.args.fast + 1 ≡ suc c.args.fast = omega arith in (
      omega (arith, c.decreases, l),
      (
        c.requires.small,
        (
          c.requires.few,
          (
            c.requires.each,
            (
              omega (arith, l),
              subst (λ (n : ℕ). (k : ℕ) → k ≤ n → AreSlow (first_lags k (plans_in c.args.plans.now) c.args.strata.now) → ⊥) (sym next)
                  (each_fast (plans_in c.args.plans.now) c.args.strata.now c.args.fast c.requires.fast
                  (λ s. c.are_slow.ensures.no c.if-are_slow.false (subst AreSlow (sym (first_same (c.args.fast + 1) c.args.plans.now c.args.strata.now)) (subst (λ (n : ℕ). AreSlow (first_lags n (plans_in c.args.plans.now) c.args.strata.now)) (sym next) s)))),
            ),
          ),
        ),
      ),
    )
