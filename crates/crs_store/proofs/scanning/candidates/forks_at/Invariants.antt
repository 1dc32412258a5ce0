use Rattle.std.proofs.Common.{drop}
use Rattle.crs_base.specs.Seen.{entry_of}
use Rattle.crs_waiting.specs.Orders.{IsOvertaken}
use Rattle.crs_store.proofs.Births.{BringsSwept}
use Rattle.crs_store.proofs.scanning.candidates.forks_at.Given as goal

abbrev pub invariant-loop-place : goal.invariant-loop-place
invariant-loop-place g l = BringsSwept l.arrival.plan.now l.arrival.focus l.arrival.finds (IsOvertaken l.arrival.plan.now l.arrival.focus l.arrival.hooks.now.events.items l.arrival.skips (entry_of l.arrival.entry.now.value)) l.arrival.history.now (entry_of l.arrival.entry.now.value) l.arrival.since l.arrival.until l.slots l.event l.places (drop l.place-index l.places) l.fn.out.instances.items l.out.instances.items l.fn.out.found.items l.out.found.items l.fn.steps l.steps
