use Rattle.std.proofs.Common.{◌<◌, ◌≤◌, ◌*◌, ◌^◌, ◌+◌, ℕ, arith}
use Rattle.std.proofs.Math.Nat.{pow-le-pow_right}
use Rattle.crs_base.proofs.numbers.digits.Goals as goal

-- one more digit, and at most 19 of them
bound : (n i : ℕ) → n < 10 ^ i → i ≤ 18 → 10 * n + 10 ≤ 10000000000000000000
bound n i h k = let p : 10 ^ i ≤ 10 ^ 18 = pow-le-pow_right (omega arith) k in omega (arith, p)

pub overflow_mul-n : goal.overflow_mul-n
overflow_mul-n c = let b = bound c.loop-b.n c.loop-b.b-index c.loop-b.invariant.below (omega arith) in omega (arith, b)

pub overflow_add-n : goal.overflow_add-n
overflow_add-n c = let b = bound c.loop-b.n c.loop-b.b-index c.loop-b.invariant.below (omega arith) in omega (arith, b)
