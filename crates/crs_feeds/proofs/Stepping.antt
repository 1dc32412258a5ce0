-- What a line of a feed does to a merged run, as the clocks of the feed tell it.
use Rattle.std.proofs.Common.{◌≡◌, ℕ, zero, suc, ◌+◌, ◌<◌, ◌≤◌, Bool, true, false, cond, List, [], ◌∷◌, ◌++◌, length, get_or, set, slice_get, nat_lt, nat_le, refl, sym, ap, ◌∙◌, arith}
use Rattle.std.proofs.Common.{Option, Some, le_refl}
use Rattle.std.proofs.lemmas.Bool.{le-ltb}
use Rattle.crs_base.specs.Entry.{Entry}
use Rattle.crs_base.specs.Symbols.{with_texts}
use Rattle.crs_log.specs.Items.{Item, Delay, Clock, Finish, Happens, Event}
use Rattle.crs_log.specs.ItemOf.{What, Empty, Is, Faulty, what_of}
use Rattle.crs_log.specs.Known.{Verdict, Other, Named, BadArity, BadValue, known_of, entry_of_event, texts_of, new_texts}
use Rattle.crs_log.specs.Reading.{Given, Plain, Long}
use Rattle.crs_model.specs.declared.recognition.Mark.{Mark}
use Rattle.crs_model.specs.declared.recognition.Mark.TheVariants as marks
use Rattle.crs_log.specs.Run as run
use Rattle.crs_log.specs.Run.{Setting, State, Outcome, Passed, Refused, Accepted, Marked, with_entry, after_line, after_what, after_item, after_ordered, after_verdict}
use Rattle.crs_feeds.specs.declared.feed.Feed.{Feed}
use Rattle.crs_feeds.specs.Merged.{Merged, Pair, new_feed, seen_by, with_feeds, with_state, after_met, after_pair, after_pairs, clocked, closed, common}
use Rattle.crs_feeds.specs.Standing.{IsItemOf}

-- the run behind one more pair
pub one_more_pair : (c : Setting) (m : Merged) (ps : List Pair) (p : Pair) → after_pairs c m (ps ++ p ∷ []) ≡ (after_pair c (after_pairs c m ps) p).0
one_more_pair c m [] p = refl
one_more_pair c m (q ∷ ps) p = one_more_pair c (after_pair c m q).0 ps p

pub got : (fs : List Feed) (n : ℕ) → n < length fs → slice_get fs n ≡ Some (get_or fs n new_feed)
got [] n l = absurd (omega (arith, l))
got (f ∷ fs) zero l = refl
got (f ∷ fs) (suc n) l = got fs n (omega (arith, l))

set_same : (fs : List Feed) (n : ℕ) (f : Feed) → slice_get fs n ≡ Some f → set fs n f ≡ fs
set_same [] n f e = refl
set_same (g ∷ fs) zero f e = let same : g ≡ f = cc in λ i. sym same i ∷ fs
set_same (g ∷ fs) (suc n) f e = ap (λ (gs : List Feed). g ∷ gs) (set_same fs n f e)

module _ (c : Setting) (m : Merged) (n : ℕ) (f : Feed) (here : slice_get m.feeds n ≡ Some f) where
  -- what a line of feed n leaves
  leaves : (g : Given) → (after_pair c m (record { feed = n; line = g })).0 ≡ with_state m n (after_line c (seen_by m f) g).0
  leaves g = ap (λ (o : Option Feed). (after_met c m n g o).0) here

  becomes : (g : Given) → (after_pair c m (record { feed = n; line = g })).1 ≡ (after_line c (seen_by m f) g).1
  becomes g = ap (λ (o : Option Feed). (after_met c m n g o).1) here

  line_is : (item : Item) (g : Given) → IsItemOf item g → after_line c (seen_by m f) g ≡ after_item c (seen_by m f) item
  line_is item (Long number) is = absurd is
  line_is item (Plain number bytes) is = ap (after_what c (seen_by m f)) is

  module _ (running : f.ended ≡ false) where
    ordered_is : (item : Item) → after_item c (seen_by m f) item ≡ after_ordered c (seen_by m f) item
    ordered_is item = λ i. cond (running i) (seen_by m f, Refused run.Order) (after_ordered c (seen_by m f) item)

    item_leaves : (item : Item) (g : Given) → IsItemOf item g
        → (after_pair c m (record { feed = n; line = g })).0 ≡ with_state m n (after_ordered c (seen_by m f) item).0
    item_leaves item g is = leaves g ∙ ap (λ (r : State × Outcome). with_state m n r.0) (line_is item g is ∙ ordered_is item)

    pub delay_leaves : (d : ℕ) (g : Given) → IsItemOf (Delay d) g
        → (after_pair c m (record { feed = n; line = g })).0 ≡ with_feeds m (set m.feeds n (record f { delay = d }))
    delay_leaves d g is = item_leaves (Delay d) g is

    in_time : (t : ℕ) → f.last ≤ t → after_ordered c (seen_by m f) (Clock t)
        ≡ (record (seen_by m f) { last = t; horizon = run.horizon_at f.delay f.horizon t; marked = length m.accepted }, Marked (marks.Clock t))
    in_time t l = λ i. cond (le-ltb t f.last l i) (seen_by m f, Refused (run.Back t f.last))
        (record (seen_by m f) { last = t; horizon = run.horizon_at f.delay f.horizon t; marked = length m.accepted }, Marked (marks.Clock t))

    pub clock_leaves : (t : ℕ) (g : Given) → f.last ≤ t → IsItemOf (Clock t) g
        → (after_pair c m (record { feed = n; line = g })).0 ≡ with_feeds m (set m.feeds n (clocked t f))
    clock_leaves t g l is =
        item_leaves (Clock t) g is
        ∙ ap (λ (r : State × Outcome). with_state m n r.0) (in_time t l)

    pub end_leaves : (g : Given) → IsItemOf Finish g → (after_pair c m (record { feed = n; line = g })).0 ≡ with_feeds m (set m.feeds n (closed f))
    end_leaves g is = item_leaves Finish g is

-- an event that is accepted adds its entry and its texts
abbrev IsAdded : State → State × Outcome → Type 0
IsAdded s r = (x : Entry (List ℕ)) → r.1 ≡ Accepted x → (e : Event) × (r.0 ≡ with_entry s x e) × (x ≡ entry_of_event (length s.accepted) e)

module _ (c : Setting) (s : State) where
  passes : (after : State) → IsAdded s (after, Passed)
  passes after x h = cc

  refuses : (after : State) (f : run.Fault) → IsAdded s (after, Refused f)
  refuses after f x h = cc

  marks_it : (after : State) (k : Mark) → IsAdded s (after, Marked k)
  marks_it after k x h = cc

  adds : (e : Event) → IsAdded s (with_entry s (entry_of_event (length s.accepted) e) e, Accepted (entry_of_event (length s.accepted) e))
  adds e x h =
      let same : entry_of_event (length s.accepted) e ≡ x = cc in
      (e, ap (λ (y : Entry (List ℕ)). with_entry s y e) same, sym same)

  both : (b : Bool) (r q : State × Outcome) → IsAdded s r → IsAdded s q → IsAdded s (cond b r q)
  both true r q h k = h
  both false r q h k = k

  verdict_adds : (e : Event) (v : Verdict) → IsAdded s (after_verdict c s e v)
  verdict_adds e Other = passes s
  verdict_adds e BadArity = refuses s run.Arity
  verdict_adds e BadValue = refuses s run.Value
  verdict_adds e (Named place) =
      let fits = nat_le (length s.texts + length (new_texts s.texts (texts_of e))) c.symbols in
      let adding : State × Outcome = (with_entry s (entry_of_event (length s.accepted) e) e, Accepted (entry_of_event (length s.accepted) e)) in
      both (nat_lt (length s.accepted) c.entries) (cond fits adding (s, Refused (run.Values c.symbols))) (s, Refused (run.Full c.entries))
      (both fits adding (s, Refused (run.Values c.symbols)) (adds e) (refuses s (run.Values c.symbols)))
      (refuses s (run.Full c.entries))

  ordered_adds : (item : Item) → IsAdded s (after_ordered c s item)
  ordered_adds (Delay d) = passes (record s { delay = d })
  ordered_adds (Clock t) =
      let now : State = record s { last = t; horizon = run.horizon_at s.delay s.horizon t; marked = length s.accepted } in
      both (nat_lt t s.last) (s, Refused (run.Back t s.last)) (now, Marked (marks.Clock t)) (refuses s (run.Back t s.last)) (marks_it now (marks.Clock t))
  ordered_adds Finish =
      marks_it (record s { last = run.end_date; horizon = run.end_date; ended = true; marked = length s.accepted }) marks.Finish
  ordered_adds (Happens e) =
      both (nat_lt e.date s.horizon) (s, Refused (run.Late e.date s.horizon)) (after_verdict c s e (known_of c.names e))
      (refuses s (run.Late e.date s.horizon)) (verdict_adds e (known_of c.names e))

  what_adds : (w : What) → IsAdded s (after_what c s w)
  what_adds Empty = passes s
  what_adds Faulty = refuses s run.Form
  what_adds (Is item) = both s.ended (s, Refused run.Order) (after_ordered c s item) (refuses s run.Order) (ordered_adds item)

  line_adds : (g : Given) → IsAdded s (after_line c s g)
  line_adds (Long number) = refuses s run.TooLong
  line_adds (Plain number bytes) = what_adds (what_of bytes)

-- a common horizon that stays is no rise
pub no_rise : (m : Merged) (fs : List Feed) → common fs ≤ common m.feeds → (with_feeds m fs).marked ≡ m.marked
no_rise m fs l = ap (λ (b : Bool). cond b (length m.accepted) m.marked) (le-ltb (common m.feeds) (common fs) l)

pub with_same_feeds : (m : Merged) → with_feeds m m.feeds ≡ m
with_same_feeds m = λ i. record m { marked = no_rise m m.feeds (le_refl (common m.feeds)) i }

-- what the run is behind a line of feed n that is accepted
pub record IsOneMore (m now : Merged) (x : Entry (List ℕ)) : Type 0 where
  pub event : Event
  pub entry : x ≡ entry_of_event (length m.accepted) event
  pub is : now ≡ record m { texts = with_texts m.texts (texts_of event); accepted = m.accepted ++ x ∷ [] }

pub entry_leaves : (c : Setting) (m : Merged) (n : ℕ) (f : Feed) → slice_get m.feeds n ≡ Some f → (g : Given) (x : Entry (List ℕ))
    → (after_pair c m (record { feed = n; line = g })).1 ≡ Accepted x → IsOneMore m (after_pair c m (record { feed = n; line = g })).0 x
entry_leaves c m n f here g x is =
    let added = line_adds c (seen_by m f) g x (sym (becomes c m n f here g) ∙ is) in
    let more : Merged = record m { texts = with_texts m.texts (texts_of added.0); accepted = m.accepted ++ x ∷ [] } in
    record {
      event = added.0;
      entry = added.2;
      is =
          leaves c m n f here g
          ∙ ap (with_state m n) added.1
          ∙ ap (with_feeds more) (set_same m.feeds n f here)
          ∙ with_same_feeds more;
    }
