use Rattle.std.proofs.Common.{length, ◌≡◌, ◌<◌, ◌≤◌, ◌+◌, ◌-◌, ◌*◌, false}
use Rattle.crs_base.specs.Seen.{entry_of}
use Rattle.crs_store.specs.Forkings.{KeepsStanding}
use Rattle.crs_waiting.specs.Hooks.{KeepsFresh}
use Rattle.crs_waiting.specs.Links.{hook_at}
use Rattle.crs_waiting.specs.Orders.{IsOvertaken}
use Rattle.crs_living.specs.Slots.{members}
use Rattle.crs_store.proofs.Births.{BringsGathered}
use Rattle.crs_store.proofs.scanning.candidates.forks.Given as goal

abbrev pub invariant-loop-event : goal.invariant-loop-event
invariant-loop-event g l = record {
  gathered : BringsGathered l.arrival.plan.now l.arrival.focus l.arrival.finds (IsOvertaken l.arrival.plan.now l.arrival.focus l.arrival.hooks.now.events.items l.arrival.skips (entry_of l.arrival.entry.now.value)) l.arrival.history.now (entry_of l.arrival.entry.now.value) l.arrival.since l.arrival.until l.slots l.event l.out.instances.items l.fn.out.found.items l.out.found.items;
  fresh : KeepsFresh l.slots.serials l.fn.waiting l.waiting;
  standing : KeepsStanding l.slots l.fn.waiting l.waiting;
  cost : l.arrival.focus ≡ false → l.steps ≤ l.fn.steps + l.event * (2 * length (members l.slots.slots));
  within : l.event ≤ length l.arrival.hooks.now.events.items;
  named : l.event < length l.arrival.hooks.now.events.items → (hook_at l.arrival.hooks.now.events.items l.event).name.0 ≡ (entry_of l.arrival.entry.now.value).name.0;
}

abbrev pub decreases-loop-event : goal.decreases-loop-event
decreases-loop-event g l = length l.arrival.hooks.now.events.items - l.event
