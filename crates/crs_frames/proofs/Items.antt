-- A line that was read as an item is not faulty.
use Rattle.std.proofs.Common.{◌≡◌, List, ℕ}
use Rattle.crs_log.specs.declared.items.Item.{Item}
use Rattle.crs_log.specs.declared.items.Item.TheVariants.{Blank, Delay as DelayItem, Clock as ClockItem, Finish as FinishItem, Event as EventItem}
use Rattle.crs_log.specs.SeenItems.{what_seen}
use Rattle.crs_log.specs.ItemOf.{Faulty}

pub not_faulty : (line : List ℕ) (item : Item) → what_seen line item ≡ Faulty → ⊥
not_faulty line Blank e = cc
not_faulty line (DelayItem n) e = cc
not_faulty line (ClockItem n) e = cc
not_faulty line FinishItem e = cc
not_faulty line (EventItem raw) e = cc
