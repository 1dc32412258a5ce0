use Rattle.std.proofs.Common.{ℕ, map, ◌-◌, ◌≤◌, length}
use Rattle.crs_report.specs.Listeners.{notice_of}
use Rattle.crs_report.proofs.Members.{ToldTo}
use Rattle.crs_report.proofs.teller.tell_all.Given as goal

abbrev pub decreases-loop-i : goal.decreases-loop-i
decreases-loop-i g l = length l.listeners.items - l.i

abbrev pub invariant-loop-i : goal.invariant-loop-i
invariant-loop-i g l = record {
  within : l.i ≤ length l.listeners.items;
  told : (k : ℕ) × ToldTo k l.i (notice_of l.r)
      (map (λ b. ((goal.Listener-dyn g (b.vtable, b.value)).kind b.value, (goal.Listener-dyn g (b.vtable, b.value)).figures b.value)) l.fn.listeners.items)
      (map (λ b. ((goal.Listener-dyn g (b.vtable, b.value)).kind b.value, (goal.Listener-dyn g (b.vtable, b.value)).figures b.value)) l.listeners.items);
}
