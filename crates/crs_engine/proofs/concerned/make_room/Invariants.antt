use Rattle.std.proofs.Common.{◌≡◌, ℕ, ◌-◌, suc, get_or}
use Rattle.crs_engine.proofs.concerned.make_room.Given as goal

abbrev pub invariant-loop-looking : goal.invariant-loop-looking
invariant-loop-looking l = (n : ℕ) → get_or l.looking.items n 0 ≡ get_or l.initial.looking.items n 0

abbrev pub decreases-loop-looking : goal.decreases-loop-looking
decreases-loop-looking l = suc l.number - l.looking.len
