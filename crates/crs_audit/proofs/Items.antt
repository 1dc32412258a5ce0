-- What an item brings, by whether it stands in order.
use Rattle.std.proofs.Common.{◌≡◌, true, false, cond, List, ℕ, refl, sym, ap, ◌∙◌, true≢false}
use Rattle.std.specs.Prelude.{Option, Some, None}
use Rattle.crs_base.specs.Lines.{Line, bytes_of, is_long, line_limit}
use Rattle.crs_log.specs.declared.items.Item.{Item}
use Rattle.crs_log.specs.declared.items.Item.TheVariants.{Blank, Delay as DelayItem, Clock as ClockItem, Finish as FinishItem, Event as EventItem}
use Rattle.crs_log.specs.SeenItems.{what_seen, IsFaulty}
use Rattle.crs_log.specs.ItemOf.{What, Empty, Is, Faulty, what_is, what_of, item_of}
use Rattle.crs_log.proofs.GivenLaw.{given_line_law}
use Rattle.crs_log.proofs.ItemLaw.{item_sound}
use Rattle.crs_log.specs.Reading.{given_line}
use Rattle.crs_log.specs.Run as run
use Rattle.crs_log.specs.Run.{Setting, State, Outcome, after_what, after_line}
use Rattle.crs_audit.specs.Ordered.{is_blank_what, ordered_what, after_raw}

-- an item that stands in order becomes what it does in order
pub in_order : (c : Setting) (s : State) (w : What) → is_blank_what w ≡ false → s.ended ≡ false → (w ≡ Faulty → ⊥) → ordered_what c s w ≡ after_what c s w
in_order c s Empty b o n = absurd (true≢false b)
in_order c s (Is item) b o n = λ i. cond (sym o i) (s, run.Refused run.Order) (run.after_ordered c s item)
in_order c s Faulty b o n = absurd (n refl)

pub out_of_order : (c : Setting) (s : State) (w : What) → is_blank_what w ≡ false → s.ended ≡ true → (w ≡ Faulty → ⊥) → after_what c s w ≡ (s, run.Refused run.Order)
out_of_order c s Empty b o n = absurd (true≢false b)
out_of_order c s (Is item) b o n = λ i. cond (o i) (s, run.Refused run.Order) (run.after_ordered c s item)
out_of_order c s Faulty b o n = absurd (n refl)

pub blank_passes : (c : Setting) (s : State) (w : What) → is_blank_what w ≡ true → after_what c s w ≡ (s, run.Passed)
blank_passes c s Empty b = refl
blank_passes c s (Is item) b = absurd (true≢false (sym b))
blank_passes c s Faulty b = absurd (true≢false (sym b))

pub not_faulty : (line : List ℕ) (item : Item) → what_seen line item ≡ Faulty → ⊥
not_faulty line Blank e = cc
not_faulty line (DelayItem n) e = cc
not_faulty line (ClockItem n) e = cc
not_faulty line FinishItem e = cc
not_faulty line (EventItem raw) e = cc

no_item : (bytes : List ℕ) (o : Option _) → item_of bytes ≡ o → IsFaulty bytes → o ≡ None
no_item bytes None e h = refl
no_item bytes (Some item) e h = absurd (h.1 item (item_sound bytes item e))

-- a line's number changes nothing
pub of_any_number : (c : Setting) (s : State) (n : ℕ) (l : Line) → after_raw c s l ≡ after_line c s (given_line line_limit n l)
of_any_number c s n l = given_line_law c s 1 l ∙ sym (given_line_law c s n l)

-- a long line, one that is no item, and another
pub long_is : (c : Setting) (s : State) (l : Line) → is_long l ≡ true → after_raw c s l ≡ (s, run.Refused run.TooLong)
long_is c s l e = given_line_law c s 1 l ∙ (λ i. cond (e i) (s, run.Refused run.TooLong) (after_what c s (what_of (bytes_of l))))

pub short_is : (c : Setting) (s : State) (l : Line) (w : What) → is_long l ≡ false → w ≡ what_of (bytes_of l) → after_what c s w ≡ after_raw c s l
short_is c s l w e k = ap (after_what c s) k ∙ (λ i. cond (sym e i) (s, run.Refused run.TooLong) (after_what c s (what_of (bytes_of l)))) ∙ sym (given_line_law c s 1 l)

pub faulty_is : (c : Setting) (s : State) (l : Line) (bytes : List ℕ) → is_long l ≡ false → bytes ≡ bytes_of l → IsFaulty bytes → after_raw c s l ≡ (s, run.Refused run.Form)
faulty_is c s l bytes e k h =
    let w : what_of bytes ≡ Faulty = (λ i. cond (h.0 i) Empty (what_is (item_of bytes))) ∙ ap what_is (no_item bytes (item_of bytes) refl h) in
    sym (short_is c s l Faulty e (sym w ∙ ap what_of k))
