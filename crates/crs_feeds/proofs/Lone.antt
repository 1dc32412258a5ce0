-- What a line does to the clocks of its feed, and the event that is accepted, as the feed alone tells it.
use Rattle.std.proofs.Common.{◌≡◌, ℕ, ◌+◌, Bool, true, false, cond, length, nat_lt, nat_le, refl, sym, ap, subst, ◌∙◌}
use Rattle.std.proofs.Common.{arith, true≢false, Option, Some, None}
use Rattle.crs_base.specs.Entry.{Key}
use Rattle.crs_model.proofs.Ties.{tie, said, ties, ties_last}
use Rattle.crs_model.specs.declared.recognition.Mark.TheVariants as marks
use Rattle.crs_log.specs.Items.{Item, Delay, Clock, Finish, Happens, Event}
use Rattle.crs_log.specs.ItemOf.{What, Empty, Is, Faulty, what_of}
use Rattle.crs_log.specs.Reading.{Given, Plain, Long}
use Rattle.crs_log.specs.Known.{Verdict, Other, Named, BadArity, BadValue, known_of, entry_of_event, texts_of, new_texts}
use Rattle.crs_log.specs.Run as run
use Rattle.crs_log.specs.Run.{Setting, State, Outcome, Passed, Refused, Accepted, Marked, horizon_at, end_date, with_entry}
use Rattle.crs_log.specs.Run.{after_line, after_what, after_ordered, after_verdict}
use Rattle.crs_log.proofs.Canonicals.{IsOfSymbols}
use Rattle.crs_log.proofs.ReadEntries.{AreAccepted, one_accepted, line_read}
use Rattle.crs_feeds.specs.declared.feed.Feed.{Feed}
use Rattle.crs_feeds.specs.Merged.{feed_in, clocked, closed}
use Rattle.crs_feeds.specs.Laws.{wants_room, is_out_of_room}

-- how often an event's entry says it
abbrev pub weight : Key → Option Event → ℕ
weight z None = 0
weight z (Some e) = tie z (said (entry_of_event 0 e))

-- an event is accepted whose name is declared, with the right arguments and value
abbrev pub taken : Event → Verdict → Option Event
taken e Other = None
taken e (Named place) = Some e
taken e BadArity = None
taken e BadValue = None

module _ (c : Setting) where
  abbrev pub lone_item : Feed → Item → Feed × Option Event
  lone_item f (Delay d) = (record f { delay = d }, None)
  lone_item f (Clock t) = cond (nat_lt t f.last) (f, None) (clocked t f, None)
  lone_item f Finish = (closed f, None)
  lone_item f (Happens e) = cond (nat_lt e.date f.horizon) (f, None) (f, taken e (known_of c.names e))

  abbrev pub lone_what : Feed → What → Feed × Option Event
  lone_what f Empty = (f, None)
  lone_what f (Is item) = cond f.ended (f, None) (lone_item f item)
  lone_what f Faulty = (f, None)

  abbrev pub lone_line : Feed → Given → Feed × Option Event
  lone_line f (Long number) = (f, None)
  lone_line f (Plain number bytes) = lone_what f (what_of bytes)

  -- the clocks that a line leaves, and the entry that it adds
  pub record Tells (s after : State) (o : Feed × Option Event) : Type 0 where
    pub feed : feed_in after ≡ o.0
    pub accepted : AreAccepted s.accepted → AreAccepted after.accepted
    pub ties : (z : Key) → ties z after.accepted ≡ ties z s.accepted + weight z o.1

  -- so it is where there is room
  abbrev Lone : State → State × Outcome → Feed × Option Event → Type 0
  Lone s r o = is_out_of_room r.1 ≡ false → Tells s r.0 o

  module _ (s : State) where
    stays : (o : Outcome) → Lone s (s, o) (feed_in s, None)
    stays o = λ _. record { feed = refl; accepted = λ a. a; ties = λ z. omega arith }

    moves : (after : State) (o : Outcome) → after.accepted ≡ s.accepted → Lone s (after, o) (feed_in after, None)
    moves after o same = λ _. record {
      feed = refl;
      accepted = λ a. subst AreAccepted (sym same) a;
      ties = λ z. ap (ties z) same ∙ (let k : ties z s.accepted ≡ ties z s.accepted + 0 = omega arith in k);
    }

    both : (b : Bool) (r q : State × Outcome) (o p : Feed × Option Event) → Lone s r o → Lone s q p → Lone s (cond b r q) (cond b o p)
    both true r q o p h k = h
    both false r q o p h k = k

    provided : (b : Bool) (f : run.Fault) (r : State × Outcome) (o : Feed × Option Event) → wants_room f ≡ true → Lone s r o
        → Lone s (cond b r (s, Refused f)) o
    provided true f r o w h = h
    provided false f r o w h = λ room. absurd (true≢false (sym w ∙ room))

    adds : (e : Event) (o : Outcome) → IsOfSymbols e → Lone s (with_entry s (entry_of_event (length s.accepted) e) e, o) (feed_in s, Some e)
    adds e o k = λ _. record {
      feed = refl;
      accepted = one_accepted e s.accepted k;
      ties = λ z. ties_last z s.accepted (entry_of_event (length s.accepted) e);
    }

    verdict : (e : Event) (v : Verdict) → IsOfSymbols e → Lone s (after_verdict c s e v) (feed_in s, taken e v)
    verdict e Other k = stays Passed
    verdict e BadArity k = stays (Refused run.Arity)
    verdict e BadValue k = stays (Refused run.Value)
    verdict e (Named place) k =
        let new = entry_of_event (length s.accepted) e in
        let fits = nat_le (length s.texts + length (new_texts s.texts (texts_of e))) c.symbols in
        let adding : State × Outcome = (with_entry s new e, Accepted new) in
        provided (nat_lt (length s.accepted) c.entries) (run.Full c.entries) (cond fits adding (s, Refused (run.Values c.symbols))) (feed_in s, Some e) refl
        (provided fits (run.Values c.symbols) adding (feed_in s, Some e) refl (adds e (Accepted new) k))

    ordered : (item : Item) → ((e : Event) → Is item ≡ Is (Happens e) → IsOfSymbols e) → Lone s (after_ordered c s item) (lone_item (feed_in s) item)
    ordered (Delay d) k = moves (record s { delay = d }) Passed refl
    ordered (Clock t) k =
        let now : State = record s { last = t; horizon = horizon_at s.delay s.horizon t; marked = length s.accepted } in
        let o : Outcome = Marked (marks.Clock t) in
        both (nat_lt t s.last) (s, Refused (run.Back t s.last)) (now, o) (feed_in s, None) (feed_in now, None)
        (stays (Refused (run.Back t s.last))) (moves now o refl)
    ordered Finish k = moves (record s { last = end_date; horizon = end_date; ended = true; marked = length s.accepted }) (Marked marks.Finish) refl
    ordered (Happens e) k =
        both (nat_lt e.date s.horizon) (s, Refused (run.Late e.date s.horizon)) (after_verdict c s e (known_of c.names e))
        (feed_in s, None) (feed_in s, taken e (known_of c.names e)) (stays (Refused (run.Late e.date s.horizon)))
        (verdict e (known_of c.names e) (k e refl))

    what : (w : What) → ((e : Event) → w ≡ Is (Happens e) → IsOfSymbols e) → Lone s (after_what c s w) (lone_what (feed_in s) w)
    what Empty k = stays Passed
    what Faulty k = stays (Refused run.Form)
    what (Is item) k =
        both s.ended (s, Refused run.Order) (after_ordered c s item) (feed_in s, None) (lone_item (feed_in s) item) (stays (Refused run.Order)) (ordered item k)

    -- where there is room, a line becomes what its feed alone tells
    pub lone : (g : Given) → Lone s (after_line c s g) (lone_line (feed_in s) g)
    lone (Long number) = stays (Refused run.TooLong)
    lone (Plain number bytes) = what (what_of bytes) (line_read bytes)
