-- An entry that comes to the instances, what comes after it, the moments at which a store takes one in, and the horizon to which it moves on.
use Rattle.std.specs.Prelude.{◌≡◌, ◌<◌, ◌≤◌, ◌^◌, ℕ, length, true, false}
use Rattle.crs_base.specs.Seen.{entry_of}
use Rattle.crs_history.specs.Histories.{EndsWith}
use Rattle.crs_model.specs.Plans.{IsProper}
use Rattle.crs_waiting.specs.Hooks.{AreHooks}
use Rattle.crs_waiting.specs.Orders.{AreOrdered}
use Rattle.crs_store.specs.declared.moment.Arrival.{Arrival}
use Rattle.crs_store.specs.declared.moment.Coming.{Coming}
use Rattle.crs_store.specs.declared.moment.Horizon.{Horizon}
use Rattle.crs_store.specs.declared.moment.Moment.{Moment}
use Rattle.crs_store.specs.declared.moment.PromptMoment.{PromptMoment}

-- the plan is proper, with its hooks; recognitions are made where it has no windows; where levels are read the entry is the last of the history; the dates are within their limits
pub record IsArrival (a : Arrival) : Type 0 where
  pub proper : IsProper a.plan.now
  pub hooks : AreHooks a.plan.now a.hooks.now.events.items a.hooks.now.windows.items
  pub order : AreOrdered a.plan.now a.focus a.hooks.now.ranks.value.items a.hooks.now.events.items
  pub windowless : a.finds ≡ true → length a.plan.now.chronicle.windows ≡ 0
  pub last : a.focus ≡ true → EndsWith (entry_of a.entry.now.value) a.history.now.entries
  pub date : a.entry.now.value.date < 2 ^ 40
  pub begun : a.since ≤ 2 ^ 42
  pub small : a.until ≤ 2 ^ 42

-- none of them is dated before the date, and the dates that are told are within their limits
pub record IsComingFrom (date : ℕ) (c : Coming) : Type 0 where
  pub later : date ≤ c.until
  pub small : c.until ≤ 2 ^ 42
  pub near : c.beyond ≤ 2 ^ 42

-- the plan is proper, with its hooks; the entry is the last of the history, and not before `since`; the dates are within their limits
pub record IsMoment (m : Moment) : Type 0 where
  pub proper : IsProper m.plan.now
  pub hooks : AreHooks m.plan.now m.hooks.now.events.items m.hooks.now.windows.items
  pub order : AreOrdered m.plan.now m.focus m.hooks.now.ranks.value.items m.hooks.now.events.items
  pub last : EndsWith (entry_of m.entry.now.value) m.history.now.entries
  pub since : m.since ≤ m.entry.now.value.date
  pub date : m.entry.now.value.date < 2 ^ 40
  pub later : m.entry.now.value.date ≤ m.until
  pub small : m.until ≤ 2 ^ 42
  pub near : m.beyond ≤ 2 ^ 42

-- the plan is proper, with its hooks, and prompt, so that levels aren't read; the entry is not before `since`; the dates are within their limits
pub record IsPromptMoment (m : PromptMoment) : Type 0 where
  pub proper : IsProper m.plan.now
  pub hooks : AreHooks m.plan.now m.hooks.now.events.items m.hooks.now.windows.items
  pub order : AreOrdered m.plan.now m.focus m.hooks.now.ranks.value.items m.hooks.now.events.items
  pub prompt : m.plan.now.chronicle.prompt ≡ true
  pub flat : m.focus ≡ false
  pub early : m.since ≤ m.entry.now.value.date
  pub date : m.entry.now.value.date < 2 ^ 40
  pub near : m.beyond ≤ 2 ^ 42

-- the plan is proper, with its hooks; the horizon is not before `since`, and within its limit
pub record IsHorizon (m : Horizon) : Type 0 where
  pub proper : IsProper m.plan.now
  pub hooks : AreHooks m.plan.now m.hooks.now.events.items m.hooks.now.windows.items
  pub order : AreOrdered m.plan.now m.focus m.hooks.now.ranks.value.items m.hooks.now.events.items
  pub later : m.since ≤ m.h
  pub small : m.h ≤ 2 ^ 42
