use Rattle.std.proofs.Common.{◌≡◌, ◌<◌, map, drop, length}
use Rattle.std.specs.Prelude.{All}
use Rattle.crs_report.specs.Listeners.{notice_of, members_after}
use Rattle.crs_report.proofs.teller.tell_each.Given as goal

-- the members after what is left are those after all
abbrev pub invariant-loop-r : goal.invariant-loop-r
invariant-loop-r g l = record {
  told : members_after (map notice_of (drop l.r-index l.recognitions)) (map (λ b. ((goal.Listener-dyn g (b.vtable, b.value)).kind b.value, (goal.Listener-dyn g (b.vtable, b.value)).figures b.value)) l.listeners.items)
      ≡ members_after (map notice_of l.recognitions) (map (λ b. ((goal.Listener-dyn g (b.vtable, b.value)).kind b.value, (goal.Listener-dyn g (b.vtable, b.value)).figures b.value)) l.fn.listeners.items);
  some : All (λ r. 0 < length r.entries) (drop l.r-index l.recognitions);
}
