-- What each line of a log leaves to a cited line: entries with few digits, and a mark that is early.
use Rattle.std.proofs.Common.{◌≡◌, ◌∙◌, ap, sym, refl, subst, ℕ, ◌+◌, ◌<◌, ◌^◌, nat_lt, nat_le, Bool, true, false, cond, List, length, Option, Some, None, ltb-true}
use Rattle.std.specs.List.{AllByRecursion}
use Rattle.crs_base.specs.Entry.{Entry}
use Rattle.crs_base.specs.Lines.{is_passed_over}
use Rattle.crs_base.proofs.Alls.{all_put}
use Rattle.crs_model.specs.declared.recognition.Mark.{Mark}
use Rattle.crs_model.specs.declared.recognition.Mark.TheVariants.{Clock as AtClock, Finish as AtEnd}
use Rattle.crs_log.specs.Items.{Item, Delay, Clock, Finish, Happens, Event}
use Rattle.crs_log.specs.ItemOf.{What, Empty, Is, Faulty, what_of, what_is, item_of}
use Rattle.crs_log.specs.Known.{Verdict, Other, Named, BadArity, BadValue, known_of, entry_of_event, texts_of, new_texts}
use Rattle.crs_log.specs.Reading.{Given, Plain, Long}
use Rattle.crs_log.specs.Run.{Setting, State, Outcome, Passed, Refused, Accepted, Marked, TooLong, Form, Order, Back, Late, Arity, Value, Full, Values, horizon_at, with_entry, after_named, after_verdict, after_ordered, after_what, after_line}
use Rattle.crs_log.proofs.ItemLaw.{item_sound}
use Rattle.crs_log.proofs.Staying.{in_range, clock_read}
use Rattle.crs_laws.proofs.CitedWords.{IsEarly}

event_in : (line : List ℕ) (o : Option Item) → item_of line ≡ o → (e : Event) → what_is o ≡ Is (Happens e) → e.date < 2 ^ 40
event_in line None k e h = absurd cc
event_in line (Some item) k e h =
    let same : item ≡ Happens e = cc in
    let is = item_sound line (Happens e) (k ∙ ap Some same) in
    in_range (is.2).date e.date (is.2).dated

event_read : (line : List ℕ) (e : Event) → what_of line ≡ Is (Happens e) → e.date < 2 ^ 40
event_read line e = by (is_passed_over line)
  where
    by : (b : Bool) → cond b Empty (what_is (item_of line)) ≡ Is (Happens e) → e.date < 2 ^ 40
    by true h = absurd cc
    by false h = event_in line (item_of line) refl e h

-- dated below 2^40, and one of the first entries
pub record IsSmallEntry (limit : ℕ) (e : Entry (List ℕ)) : Type 0 where
  pub date : e.date < 2 ^ 40
  pub number : e.arrival < limit

abbrev pub AreSmallEntries : ℕ → List (Entry (List ℕ)) → Type 0
AreSmallEntries limit es = AllByRecursion (IsSmallEntry limit) es

pub record Leaves (limit : ℕ) (s : State) (r : State × Outcome) : Type 0 where
  pub small : AreSmallEntries limit s.accepted → AreSmallEntries limit r.0.accepted
  pub early : (m : Mark) → r.1 ≡ Marked m → IsEarly m

-- an event is dated below 2^40, and so is a clock
record IsDated (w : What) : Type 0 where
  event : (e : Event) → w ≡ Is (Happens e) → e.date < 2 ^ 40
  clock : (t : ℕ) → w ≡ Is (Clock t) → t < 2 ^ 40

module _ (c : Setting) (s : State) where
  refused : (fault : _) → Leaves c.entries s (s, Refused fault)
  refused fault = record { small = λ h. h; early = λ m e. absurd cc }

  passed : (t : State) → t.accepted ≡ s.accepted → Leaves c.entries s (t, Passed)
  passed t e = record { small = subst (AreSmallEntries c.entries) (sym e); early = λ m e. absurd cc }

  by_room : (e : Event) → e.date < 2 ^ 40 → Leaves c.entries s (after_named c s e)
  by_room e date = by (nat_lt (length s.accepted) c.entries) (nat_le (length s.texts + length (new_texts s.texts (texts_of e))) c.symbols) refl
    where
      by : (a b : Bool) → nat_lt (length s.accepted) c.entries ≡ a → Leaves c.entries s (cond {A = State × Outcome} a (cond b (with_entry s (entry_of_event (length s.accepted) e) e, Accepted (entry_of_event (length s.accepted) e)) (s, Refused (Values c.symbols))) (s, Refused (Full c.entries)))
      by true true room = record {
        small = λ h. all_put (IsSmallEntry c.entries) s.accepted (entry_of_event (length s.accepted) e) h (record { date = date; number = ltb-true (length s.accepted) c.entries room });
        early = λ m e. absurd cc;
      }
      by true false room = refused (Values c.symbols)
      by false b room = refused (Full c.entries)

  by_verdict : (e : Event) → e.date < 2 ^ 40 → (v : Verdict) → Leaves c.entries s (after_verdict c s e v)
  by_verdict e date Other = passed s refl
  by_verdict e date BadArity = refused Arity
  by_verdict e date BadValue = refused Value
  by_verdict e date (Named place) = by_room e date

  same_mark : (m n : Mark) → Marked n ≡ Marked m → n ≡ m
  same_mark m n e = cc

  by_order : (item : Item) → IsDated (Is item) → Leaves c.entries s (after_ordered c s item)
  by_order (Delay d) dated = passed (record s { delay = d }) refl
  by_order (Clock t) dated = by (nat_lt t s.last)
    where
      by : (b : Bool) → Leaves c.entries s (cond {A = State × Outcome} b (s, Refused (Back t s.last)) (record s { last = t; horizon = horizon_at s.delay s.horizon t; marked = length s.accepted }, Marked (AtClock t)))
      by true = refused (Back t s.last)
      by false = record { small = λ h. h; early = λ m e. subst IsEarly (same_mark m (AtClock t) e) (dated.clock t refl) }
  by_order Finish dated = record { small = λ h. h; early = λ m e. subst IsEarly (same_mark m AtEnd e) tt }
  by_order (Happens e) dated = by (nat_lt e.date s.horizon)
    where
      by : (b : Bool) → Leaves c.entries s (cond {A = State × Outcome} b (s, Refused (Late e.date s.horizon)) (after_verdict c s e (known_of c.names e)))
      by true = refused (Late e.date s.horizon)
      by false = by_verdict e (dated.event e refl) (known_of c.names e)

  by_end : (item : Item) → IsDated (Is item) → (b : Bool) → Leaves c.entries s (cond {A = State × Outcome} b (s, Refused Order) (after_ordered c s item))
  by_end item dated true = refused Order
  by_end item dated false = by_order item dated

  by_what : (w : What) → IsDated w → Leaves c.entries s (after_what c s w)
  by_what Empty dated = passed s refl
  by_what Faulty dated = refused Form
  by_what (Is item) dated = by_end item dated s.ended

  pub leaves : (g : Given) → Leaves c.entries s (after_line c s g)
  leaves (Long n) = refused TooLong
  leaves (Plain n bytes) = by_what (what_of bytes) (record { event = event_read bytes; clock = clock_read bytes })
