-- Instances over entries: when they are open, and what is known of a fork.
use Rattle.std.proofs.Common.{Bool, ◌≡◌, ℕ, ◌<◌, List, length, inl, inr, arith}
use Rattle.std.specs.Prelude.{ℤ, pos, negsuc, ◌+ℤ◌, ◌-ℤ◌, ◌≤ℤ◌, ◌↔◌, Some, slice_get}
use Rattle.std.proofs.lemmas.Int.{ints}
use Rattle.std.proofs.lemmas.List.{length-map}
use Rattle.crs_base.specs.declared.symbols.Sym.{Sym}
use Rattle.crs_base.specs.Entry.{Entry}
use Rattle.crs_history.specs.Histories.{IsFarBack}
use Rattle.crs_model.specs.declared.plan.Plan.{Plan}
use Rattle.crs_model.specs.Models.{Window}
use Rattle.crs_model.specs.Partial.{at}
use Rattle.crs_model.specs.Plans.{chronicle, IsProper}
use Rattle.crs_model.specs.SeenModels.{event_of}
use Rattle.crs_model.specs.Verdicts.{IsStretch}
use Rattle.crs_model.proofs.Options.{some_if, and_some}
use Rattle.crs_model.proofs.Opened.{in_place}
use Rattle.crs_model.proofs.Parts.{at_within}
use Rattle.crs_model.proofs.Reaching.{reaches_back, starts_in_reach}
use Rattle.crs_instance.specs.Instances.{InstanceState, IsOf}
use Rattle.crs_instance.proofs.Openings.{instance_is_open}
use Rattle.crs_instance.proofs.Stretches.{anchors_of}
use Rattle.crs_living.specs.Windows.{IsAble, IsOver, IsOpenAt, StartsAfter}
use Rattle.crs_focus.specs.PlanLevels.{levels_in}

-- an instance over entries is open exactly where it is able
pub open_able : (plan : Plan) (focus : Bool) (pool entries : List (Entry Sym)) (n : ℕ) (i : InstanceState) → IsOf plan i → IsOver plan focus pool entries n i → IsOpenAt plan focus pool entries n i.partial ↔ IsAble plan focus n i
open_able plan focus pool entries n i of over =
    instance_is_open plan i (levels_in plan focus) pool entries n of over.given over.closed over.follows

-- ---- how far back windows start

low_start : (floor from o : ℤ) (d : ℕ) → floor ≡ negsuc 35184372088831 → from ≡ (pos d +ℤ o) → pos 0 ≤ℤ (o +ℤ pos 1099511627776) → floor ≤ℤ from
low_start floor from o d e f l = omega (arith, ints)

reached_start : (floor from r : ℤ) (d : ℕ) → floor ≤ℤ (pos d -ℤ r) → pos d ≤ℤ (from +ℤ r) → floor ≤ℤ from
reached_start floor from r d l m = omega (arith, ints)

pub starts_after : (plan : Plan) → IsProper plan → (i : InstanceState) → IsOf plan i → (e : ℕ) (x : Entry Sym) → at i.partial e ≡ Some x → (floor : ℤ) → IsFarBack plan.reach x.date floor → (k : ℕ) → StartsAfter plan i.partial k floor
starts_after plan proper i of e x at_e floor far k = some_if (slice_get (chronicle plan).windows k) _ (λ w is from to stretch. by w is from to stretch far)
  where
    inside : e < length (chronicle plan).events
    inside = let l = at_within i.partial e x at_e in let a = of.len in let b = length-map plan.chronicle.events event_of in omega arith

    by : (w : Window Sym) → slice_get (chronicle plan).windows k ≡ Some w → (from to : ℤ) → IsStretch i.partial w from to → IsFarBack plan.reach x.date floor → floor ≤ℤ from
    by w is from to stretch (inl low) =
        let y = and_some (at i.partial w.from.event) _ stretch.starts in
        (low_start floor from w.from.offset (y.0).date low y.2 ((anchors_of plan proper k w is).0).not_small)
    by w is from to stretch (inr some) =
        let r = and_some plan.reach _ some in
        (reached_start floor from r.0 x.date r.2 (starts_in_reach (chronicle plan) r.0 (reaches_back plan proper r.0 r.1) i.partial of.dates e x inside at_e w from to (in_place (chronicle plan).windows k w is) stretch))

pub low_date : (floor : ℤ) (d : ℕ) → floor ≡ negsuc 35184372088831 → floor ≤ℤ pos d
low_date floor d e = omega (arith, ints)

reached_date : (floor r t : ℤ) (d : ℕ) → floor ≤ℤ (pos d -ℤ r) → t ≤ℤ (t +ℤ r) → floor ≤ℤ pos d
reached_date floor r t d l m = omega (arith, ints)

-- the floor isn't after the date
pub floor_early : (plan : Plan) → IsProper plan → (d : ℕ) (floor : ℤ) → IsFarBack plan.reach d floor → floor ≤ℤ pos d
floor_early plan proper d floor (inl low) = low_date floor d low
floor_early plan proper d floor (inr some) =
    let r = and_some plan.reach _ some in
    let inside : 0 < length (chronicle plan).events = let a = proper.events_some in let b = length-map plan.chronicle.events event_of in omega arith in
    (reached_date floor r.0 (proper.consistent.0 0) d r.2 ((reaches_back plan proper r.0 r.1).events proper.consistent.0 proper.consistent.1 0 0 inside inside))
