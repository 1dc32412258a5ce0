use Rattle.std.proofs.Common.{rules, ◌≡◌, ℕ, subst}
use Rattle.std.specs.Prelude.{Some, None}
use Rattle.crs_agenda.specs.declared.timed.Handle.{Handle}
use Rattle.crs_waiting.specs.Links.{IsLinkedAnew, IsArmedAnew}
use Rattle.crs_waiting.specs.Dues.{AreDue}
use Rattle.crs_living.specs.Slots.{slot_at, handle_at}
use Rattle.crs_store.proofs.Registering.{registered}
use Rattle.crs_store.proofs.holding.register.Goals as goal

pub link_events-requires : goal.link_events-requires
link_events-requires c = record { of = c.requires.of c.in-Some.instance.now (search rules) }

pub put_dues-requires-clause-of : goal.put_dues-requires-clause-of
put_dues-requires-clause-of c = c.requires.of c.in-Some.instance.now (search rules)

pub returns : goal.returns
returns c =
    let is : slot_at c.args.holding.now.slots c.args.place ≡ Some c.in-Some.instance.now = search rules in
    let handle : c.handle-handle.result ≡ handle_at c.args.holding.now.slots c.args.place = c.handle-handle.ensures in
    registered c.args.chart.now.plan c.args.chart.now.focus c.args.chart.now.hooks c.args.h c.args.place c.args.holding.now c.link_events.new.waiting c.arm_windows.new.waiting c.put_dues.new.calendar c.in-Some.instance.now is c.link_events.ensures.grown c.arm_windows.ensures.grown c.put_dues.ensures.kept c.put_dues.ensures.stood
    (subst (λ (n : ℕ). IsLinkedAnew c.args.chart.now.plan c.args.chart.now.focus c.args.chart.now.hooks.events.items c.link_events.new.waiting (handle_at c.args.holding.now.slots c.args.place) None n c.in-Some.instance.now) c.linked_by.ensures (subst (λ (g : Handle). IsLinkedAnew c.args.chart.now.plan c.args.chart.now.focus c.args.chart.now.hooks.events.items c.link_events.new.waiting g None c.linked_by.result c.in-Some.instance.now) handle ((c.in_ok-link_events.ensures {u = tt}).linked)))
    (subst (λ (g : Handle). IsArmedAnew c.args.chart.now.plan c.args.chart.now.hooks.windows.items c.arm_windows.new.waiting g None c.args.h c.in-Some.instance.now) handle ((c.in_ok-arm_windows.ensures {u = tt}).armed))
    (subst (λ (g : Handle). AreDue c.args.chart.now.plan c.args.chart.now.focus c.in-Some.instance.now g c.args.h c.put_dues.new.calendar.pairs) handle ((c.in_ok-put_dues.ensures {u = tt}).put))
