use Rattle.std.proofs.Common.{◌<◌, ◌≤◌, ◌*◌, ◌^◌, ◌+◌, ℕ, arith}
use Rattle.std.proofs.Math.Nat.{pow-le-pow_right}
use Rattle.crs_base.proofs.recent.bits_of.Goals as goal

-- one more byte, and at most 8 of them
bound : (n i : ℕ) → n < 256 ^ i → i ≤ 7 → 256 * n + 256 ≤ 18446744073709551616
bound n i h k = let p : 256 ^ i ≤ 256 ^ 7 = pow-le-pow_right (omega arith) k in omega (arith, p)

pub overflow_mul-bits : goal.overflow_mul-bits
overflow_mul-bits c = let b = bound c.loop-b.bits c.loop-b.b-index c.loop-b.invariant.below (omega arith) in omega (arith, b)

pub overflow_add-bits : goal.overflow_add-bits
overflow_add-bits c = let b = bound c.loop-b.bits c.loop-b.b-index c.loop-b.invariant.below (omega arith) in omega (arith, b)
