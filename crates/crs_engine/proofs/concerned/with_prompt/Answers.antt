use Rattle.std.proofs.Common.{◌≡◌, ℕ, sym, subst}
use Rattle.std.specs.Int.{bit_at}
use Rattle.std.specs.Int.Bits.{bit_or}
use Rattle.crs_engine.proofs.Noted.{or_keeps, or_sets}
use Rattle.crs_engine.proofs.concerned.with_prompt.Goals as goal

pub returns-then-plan-clause-kept : goal.returns-then-plan-clause-kept
returns-then-plan-clause-kept c = or_keeps c.args.bits c.bit.result

pub returns-then-plan-clause-set : goal.returns-then-plan-clause-set
returns-then-plan-clause-set c = λ _. subst (λ (b : ℕ). bit_at (bit_or c.args.bits b) c.args.place ≡ 1) (sym c.bit.ensures) (or_sets c.args.bits c.args.place)
