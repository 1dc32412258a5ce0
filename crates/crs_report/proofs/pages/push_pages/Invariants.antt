use Rattle.std.proofs.Common.{◌≡◌, ◌++◌, drop, map}
use Rattle.std.specs.Prelude.{flat_map}
use Rattle.crs_report.specs.Listeners.{page_of}
use Rattle.crs_report.proofs.pages.push_pages.Given as goal

-- what is written and the pages that are left are all
abbrev pub invariant-loop-listener : goal.invariant-loop-listener
invariant-loop-listener g l =
    l.out.items ++ flat_map page_of (map (λ b. ((goal.Listener-dyn g (b.vtable, b.value)).kind b.value, (goal.Listener-dyn g (b.vtable, b.value)).figures b.value)) (drop l.listener-index l.listeners))
    ≡ l.fn.out.items ++ flat_map page_of (map (λ b. ((goal.Listener-dyn g (b.vtable, b.value)).kind b.value, (goal.Listener-dyn g (b.vtable, b.value)).figures b.value)) l.listeners)
