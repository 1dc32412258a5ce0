use Rattle.std.proofs.Common.{◌≡◌, ◌+◌, ℕ, length}
use Rattle.std.specs.Prelude.{IfSome, slice_get}
use Rattle.crs_waiting.specs.Links.{hook_at}
use Rattle.crs_waiting.specs.Named.{IsFirst}
use Rattle.crs_waiting.proofs.hooks.nexts_of.Given as goal

abbrev pub invariant-loop-event : goal.invariant-loop-event
invariant-loop-event l = record {
  len : length l.nexts.items ≡ l.event;
  next : (k : ℕ) → IfSome (slice_get l.nexts.items k) (λ e. IsFirst l.events (k + 1) (hook_at l.events k).name.0 e);
}
