use Rattle.std.proofs.Common.{◌≡◌, ℕ, suc, ◌+◌, ◌≤◌, ◌<◌, ◌∷◌, length, arith, refl, inl, inr, sym, ap, subst, ◌∙◌}
use Rattle.crs_base.specs.Seen.{entry_of}
use Rattle.crs_model.specs.Bindings.{look_of}
use Rattle.crs_model.specs.Matching.{PatternIs}
use Rattle.crs_model.specs.SeenModels.{pattern_of}
use Rattle.crs_model.specs.Verdicts.{Count}
use Rattle.std.specs.Prelude.{pos}
use Rattle.crs_base.proofs.Deciding.{sym_tells}
use Rattle.crs_model.proofs.Progressing.{pattern_tells}
use Rattle.crs_watch.proofs.Counting.{count_more, count_told}
use Rattle.crs_watch.proofs.beginning.count_of.Goals as goal

moved : (a n : ℕ) → a + (n + 1) ≡ a + 1 + n
moved a n = omega arith

none : (a : ℕ) → a + 0 ≡ a
none a = omega arith

within : (a l r n : ℕ) → l ≡ suc r → a + l ≤ n → n < 4294967296 → a < 4294967295
within a l r n e f s = omega arith

less : (a b l r n : ℕ) → l ≡ suc r → a + l ≤ n → b ≤ a + 1 → b + r ≤ n
less a b l r n e f m = omega arith

pub loop-e-preserved-else-count-most : goal.loop-e-preserved-else-count-most
loop-e-preserved-else-count-most c =
    let P = PatternIs (look_of c.args.binding.now) (pattern_of c.args.pattern.now) in
    let x = entry_of c.in-Some.e.now.value in
    let rest = c.next.new.self in
    let step : c.loop-e.e-iterator ≡ x ∷ rest = c.in-Some.ensures.steps in
    let same : length c.loop-e.e-iterator ≡ suc (length rest) = ap length step in
    let few : c.loop-e.count + length c.loop-e.e-iterator ≤ length c.args.found = c.loop-e.invariant.3 in
    let hit : P x = subst (λ w. P (entry_of w)) c.deref.ensures (c.accepts.ensures.0 c.if-accepts.true) in (
      tt,
      tt,
      λ small n h.
          let room : c.loop-e.count < 4294967295 = within _ _ _ _ same few small in
          subst (λ (m : ℕ). Count P c.args.found m) (moved c.loop-e.count n ∙ ap (λ (k : ℕ). k + n) (sym (c.one_more-count.ensures.more room))) (c.loop-e.invariant.2 small (n + 1) (subst (λ w. Count P w (n + 1)) (sym step) (count_more P x rest n hit h))),
      less _ _ _ _ _ same few c.one_more-count.ensures.most,
    )

-- one of them is no more, and none behind it is looked at
pub returns-then-count-most : goal.returns-then-count-most
returns-then-count-most c = λ small.
    let look = look_of c.args.binding.now in
    let p = pattern_of c.args.pattern.now in
    let P = PatternIs look p in
    let x = entry_of c.in-Some.e.now.value in
    let rest = c.next.new.self in
    let step : c.loop-e.e-iterator ≡ x ∷ rest = c.in-Some.ensures.steps in
    let same : length c.loop-e.e-iterator ≡ suc (length rest) = ap length step in
    let few : c.loop-e.count + length c.loop-e.e-iterator ≤ length c.args.found = c.loop-e.invariant.3 in
    let hit : P x = subst (λ w. P (entry_of w)) c.deref.ensures (c.accepts.ensures.0 c.if-accepts.true) in
    let room : c.loop-e.count < 4294967295 = within _ _ _ _ same few small in
    let behind = count_told P (pattern_tells look (pos 0) (pos 0) sym_tells p) rest in
    let all : Count P c.args.found (c.one_more-count.result + behind.0) =
    subst (λ (m : ℕ). Count P c.args.found m) (moved c.loop-e.count behind.0 ∙ ap (λ (k : ℕ). k + behind.0) (sym (c.one_more-count.ensures.more room))) (c.loop-e.invariant.2 small (behind.0 + 1) (subst (λ w. Count P w (behind.0 + 1)) (sym step) (count_more P x rest behind.0 hit behind.1))) in
    inr (c.if-count-most.true, c.one_more-count.result + behind.0, all, omega arith)

pub returns : goal.returns
returns c = λ small.
    let P = PatternIs (look_of c.args.binding.now) (pattern_of c.args.pattern.now) in
    inl (subst (λ (m : ℕ). Count P c.args.found m) (none c.loop-e.count) (c.loop-e.invariant.2 small 0 (subst (λ w. Count P w 0) (sym c.in-None.ensures.steps.0) refl)))
