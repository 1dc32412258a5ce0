use Rattle.std.proofs.Common.{arith}
use Rattle.crs_report.specs.Listeners.{page_of}
use Rattle.crs_report.proofs.Lists.{written_next}
use Rattle.crs_report.proofs.pages.push_pages.Goals as goal

pub loop-listener-preserved : goal.loop-listener-preserved
loop-listener-preserved g c =
    written_next page_of (λ b. ((goal.Listener-dyn g (b.vtable, b.value)).kind b.value, (goal.Listener-dyn g (b.vtable, b.value)).figures b.value)) c.args.listeners.now c.loop-listener.listener-index c.listener-item.result
    c.loop-listener.out.items c.push_page.new.out.items _ (omega arith) c.listener-item.is (c.in_ok-push_page.ensures {u = tt}) c.loop-listener.invariant
