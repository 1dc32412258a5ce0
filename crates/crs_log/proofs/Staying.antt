-- What is settled behind some lines stays so behind further ones, and what is recognised stays recognised.
use Rattle.std.proofs.Common.{◌≡◌, ℕ, ◌+◌, ◌<◌, ◌≤◌, ◌^◌, Bool, true, false, cond, List, [], ◌∷◌, ◌++◌, length, refl, sym, ap, subst, ◌∙◌, inl, inr, arith, append_assoc, append-nil, length-append, Less}
use Rattle.std.specs.Prelude.{nat_lt, nat_le, Option, Some, None}
use Rattle.std.proofs.lemmas.Bool.{cases_lt}
use Rattle.std.proofs.Common.{ltb-true, lt-ltb, le-ltb}
use Rattle.crs_base.specs.Entry.{Entry, entry_cmp}
use Rattle.crs_base.specs.Lines.{Line, line_limit}
use Rattle.crs_base.specs.Words.{IsIn, Ordered}
use Rattle.crs_base.proofs.KeyOrder.{entry_total, in_dates}
use Rattle.crs_base.proofs.Words.{in_append, in_append_left, in_filter, in_filter_back, ordered_filter}
use Rattle.crs_model.specs.Models.{Chronicle}
use Rattle.crs_model.specs.Matching.{Assignment}
use Rattle.crs_model.specs.Open.{before, pool_among, IsRecognised}
use Rattle.crs_model.specs.declared.recognition.Mark.TheVariants.{Clock as AtClock}
use Rattle.crs_model.specs.Order.{arrived}
use Rattle.crs_model.proofs.Marks.{parted}
use Rattle.crs_model.proofs.Settled.{of_settled, settled_of, settled_in_order}
use Rattle.crs_model.proofs.Stays.{stays}
use Rattle.crs_model.proofs.Ties.{ordered_members}
use Rattle.crs_base.proofs.Unique.{same_members}
use Rattle.crs_base.specs.Numbers.{number_of}
use Rattle.crs_base.specs.Lines.{is_passed_over}
use Rattle.crs_log.proofs.ItemLaw.{item_sound, chained, guarded}
use Rattle.crs_log.specs.Items.{in_dates as in_log_dates, log_number_of, Item, Delay, Clock, Finish, Happens, Event}
use Rattle.crs_log.specs.ItemOf.{What, Empty, Is, Faulty, what_of, what_is, item_of}
use Rattle.crs_log.specs.Known.{Verdict, Other, Named, BadArity, BadValue, known_of, entry_of_event, texts_of, new_texts}
use Rattle.crs_log.specs.Reading.{Given, Plain, Long, given_line, given_lines, numbered}
use Rattle.crs_log.specs.Recognitions.{view_of, IsRecognisedIn, Stays}
use Rattle.crs_log.specs.Run.{Setting, State, Outcome, Refused, Accepted, Marked, Order, Back, Full, Values, at_start, end_date, horizon_at, with_entry, after_line, after_lines, after_named, after_ordered, after_verdict, after_what, settled, marked_entries}
use Rattle.crs_log.proofs.Canonicals.{IsOfSymbols}
use Rattle.crs_log.proofs.ReadEntries.{AreAccepted, none_accepted, one_accepted, line_read}

-- what holds of each state of a run: the accepted entries are numbered, those by the last mark are among them, and no horizon is after the end's
pub record IsSound (s : State) : Type 0 where
  pub accepted : AreAccepted s.accepted
  pub counted : s.marked ≤ length s.accepted
  pub within : s.horizon ≤ end_date

-- what further lines do: entries come behind those that were accepted, none of them late, and neither the horizon nor what had come by the last mark falls
pub record Follows (s t : State) : Type 0 where
  pub new : List (Entry (List ℕ))
  pub more : t.accepted ≡ s.accepted ++ new
  pub on_time : (e : Entry (List ℕ)) → IsIn e new → s.horizon ≤ e.date
  pub later : s.horizon ≤ t.horizon
  pub marked : s.marked ≤ t.marked

pub follows_itself : (s : State) → Follows s s
follows_itself s = record { new = []; more = sym (append-nil s.accepted); on_time = λ e i. absurd i; later = omega arith; marked = omega arith }

pub follows_on : (s t u : State) → Follows s t → Follows t u → Follows s u
follows_on s t u a b = record {
  new = a.new ++ b.new;
  more = b.more ∙ ap (λ (xs : List (Entry (List ℕ))). xs ++ b.new) a.more ∙ append_assoc s.accepted a.new b.new;
  on_time = λ e i. elim (in_append a.new b.new e i) [ inl k ↦ a.on_time e k | inr k ↦ (let l = b.on_time e k in let m = a.later in omega arith) ];
  later = let l = a.later in let m = b.later in omega arith;
  marked = let l = a.marked in let m = b.marked in omega arith;
}

-- ---- one line

abbrev pub Leads : State → State → Type 0
Leads s t = IsSound t × Follows s t

stands : (s : State) → IsSound s → Leads s s
stands s k = (k, follows_itself s)

-- a number of a log is below 2^40
pub in_range : (word : List ℕ) (t : ℕ) → log_number_of word ≡ Some t → t < 2 ^ 40
in_range word t e =
    let c = chained in_log_dates (number_of word) t e in
    let g = guarded (nat_lt c.0 1099511627776) (Some c.0) t c.2 in
    let l = ltb-true c.0 1099511627776 g.0 in
    let same : c.0 ≡ t = (let s : Some c.0 ≡ Some t = g.1 in cc) in
    omega arith

clock_in : (line : List ℕ) (o : Option Item) → item_of line ≡ o → (t : ℕ) → what_is o ≡ Is (Clock t) → t < 2 ^ 40
clock_in line None k t h = absurd cc
clock_in line (Some item) k t h =
    let same : item ≡ Clock t = cc in
    let is = item_sound line (Clock t) (k ∙ ap Some same) in
    in_range (is.2).0 t (is.2).2

pub clock_read : (line : List ℕ) (t : ℕ) → what_of line ≡ Is (Clock t) → t < 2 ^ 40
clock_read line t = by (is_passed_over line)
  where
    by : (b : Bool) → cond b Empty (what_is (item_of line)) ≡ Is (Clock t) → t < 2 ^ 40
    by true h = absurd cc
    by false h = clock_in line (item_of line) refl t h

-- an event is read from symbols, and a clock is below 2^40
record IsSmall (w : What) : Type 0 where
  event : (e : Event) → w ≡ Is (Happens e) → IsOfSymbols e
  clock : (t : ℕ) → w ≡ Is (Clock t) → t < 2 ^ 40

module _ (c : Setting) (s : State) (sound : IsSound s) where
  added : (e : Event) → IsOfSymbols e → s.horizon ≤ e.date → (t : State) → t.accepted ≡ s.accepted ++ entry_of_event (length s.accepted) e ∷ [] → t.marked ≡ s.marked → t.horizon ≡ s.horizon → Leads s t
  added e symbols date t accepted marked horizon =
      let new : Entry (List ℕ) = entry_of_event (length s.accepted) e in
      let long : length (s.accepted ++ new ∷ []) ≡ length s.accepted + 1 = length-append s.accepted (new ∷ []) in
      let same : length t.accepted ≡ length (s.accepted ++ new ∷ []) = ap (λ (xs : List (Entry (List ℕ))). length xs) accepted in
      let counted = sound.counted in
      let within = sound.within in (
        record {
          accepted = subst AreAccepted (sym accepted) (one_accepted e s.accepted symbols sound.accepted);
          counted = omega arith;
          within = omega arith;
        },
        record {
          new = new ∷ [];
          more = accepted;
          on_time = λ x i. elim i [ inl q ↦ subst (λ (y : Entry (List ℕ)). s.horizon ≤ y.date) (sym q) date | inr never ↦ absurd never ];
          later = omega arith;
          marked = omega arith;
        },
      )

  by_room : (e : Event) → IsOfSymbols e → s.horizon ≤ e.date → Leads s (after_named c s e).0
  by_room e symbols date = by (nat_lt (length s.accepted) c.entries) (nat_le (length s.texts + length (new_texts s.texts (texts_of e))) c.symbols)
    where
      by : (a b : Bool) → Leads s (cond {A = State × Outcome} a (cond b (with_entry s (entry_of_event (length s.accepted) e) e, Accepted (entry_of_event (length s.accepted) e)) (s, Refused (Values c.symbols))) (s, Refused (Full c.entries))).0
      by true true = added e symbols date (with_entry s (entry_of_event (length s.accepted) e) e) refl refl refl
      by true false = stands s sound
      by false b = stands s sound

  by_verdict : (e : Event) → IsOfSymbols e → s.horizon ≤ e.date → (v : Verdict) → Leads s (after_verdict c s e v).0
  by_verdict e symbols date Other = stands s sound
  by_verdict e symbols date BadArity = stands s sound
  by_verdict e symbols date BadValue = stands s sound
  by_verdict e symbols date (Named place) = by_room e symbols date

  by_order : (item : Item) → IsSmall (Is item) → Leads s (after_ordered c s item).0
  by_order (Delay d) small = (
    record { accepted = sound.accepted; counted = sound.counted; within = sound.within },
    record { new = []; more = sym (append-nil s.accepted); on_time = λ e i. absurd i; later = omega arith; marked = omega arith },
  )
  by_order (Clock t) small = by (nat_lt t s.last)
    where
      by : (b : Bool) → Leads s (cond {A = State × Outcome} b (s, Refused (Back t s.last)) (record s { last = t; horizon = horizon_at s.delay s.horizon t; marked = length s.accepted }, Marked (AtClock t))).0
      by true = stands s sound
      by false =
          let below = small.clock t refl in
          let within = sound.within in
          let counted = sound.counted in (
            record { accepted = sound.accepted; counted = omega arith; within = omega arith },
            record { new = []; more = sym (append-nil s.accepted); on_time = λ e i. absurd i; later = omega arith; marked = omega arith },
          )
  by_order Finish small =
      let within = sound.within in
      let counted = sound.counted in (
        record { accepted = sound.accepted; counted = omega arith; within = omega arith },
        record { new = []; more = sym (append-nil s.accepted); on_time = λ e i. absurd i; later = omega arith; marked = omega arith },
      )
  by_order (Happens e) small = elim (cases_lt e.date s.horizon) [
    | inl late ↦ rw (lt-ltb e.date s.horizon late) (stands s sound)
    | inr date ↦ rw (le-ltb e.date s.horizon date) (by_verdict e (small.event e refl) date (known_of c.names e))
  ]

  by_end : (item : Item) → IsSmall (Is item) → (b : Bool) → Leads s (cond {A = State × Outcome} b (s, Refused Order) (after_ordered c s item)).0
  by_end item small true = stands s sound
  by_end item small false = by_order item small

  by_what : (w : What) → IsSmall w → Leads s (after_what c s w).0
  by_what Empty small = stands s sound
  by_what Faulty small = stands s sound
  by_what (Is item) small = by_end item small s.ended

  pub by_line : (g : Given) → Leads s (after_line c s g).0
  by_line (Long n) = stands s sound
  by_line (Plain n bytes) = by_what (what_of bytes) (record { event = line_read bytes; clock = clock_read bytes })

-- ---- further lines

pub further : (c : Setting) (s : State) → IsSound s → (gs : List Given) → Leads s (after_lines c s gs)
further c s sound [] = stands s sound
further c s sound (g ∷ gs) =
    let one = by_line c s sound g in
    let rest = further c (after_line c s g).0 one.0 gs in
    (rest.0, follows_on s (after_line c s g).0 (after_lines c (after_line c s g).0 gs) one.1 rest.1)

-- ---- what stays

module _ (s t : State) (sound : IsSound s) (sound_then : IsSound t) (f : Follows s t) where
  accepted_then : (x : Entry (List ℕ)) → IsIn x s.accepted → IsIn x t.accepted
  accepted_then x i = subst (IsIn x) (sym f.more) (in_append_left s.accepted f.new x i)

  settled_then : (x : Entry (List ℕ)) → IsIn x (settled s) → IsIn x (settled t)
  settled_then x i =
      let k = of_settled entry_total s.horizon s.accepted x i in
      let l = k.1 in
      let later = f.later in
      settled_of entry_total t.horizon t.accepted x (accepted_then x k.0) (omega arith)

  arrived_then : (x : Entry (List ℕ)) → IsIn x (marked_entries s) → IsIn x (marked_entries t)
  arrived_then x i =
      let k = in_filter_back (λ e. nat_lt e.arrival s.marked) s.accepted x ((ordered_members (arrived s.marked s.accepted)).there x i) in
      let l = ltb-true x.arrival s.marked k.1 in
      let m = f.marked in
      (ordered_members (arrived t.marked t.accepted)).back x (in_filter (λ e. nat_lt e.arrival t.marked) t.accepted x (accepted_then x k.0) (lt-ltb x.arrival t.marked (omega arith)))

  up : Ordered (λ a b. entry_cmp a b ≡ Less) (settled t)
  up = settled_in_order entry_total t.horizon t.accepted sound_then.accepted.distinct

  -- those dated before the horizon that was are those that were settled then
  front : before s.horizon (settled t) ≡ settled s
  front = same_members entry_total (before s.horizon (settled t)) (settled s)
      (ordered_filter (λ a b. entry_cmp a b ≡ Less) (λ e. nat_lt e.date s.horizon) (settled t) up)
      (settled_in_order entry_total s.horizon s.accepted sound.accepted.distinct)
      (λ x i.
      let k = in_filter_back (λ e. nat_lt e.date s.horizon) (settled t) x i in
      let early = ltb-true x.date s.horizon k.1 in
      elim (in_append s.accepted f.new x (subst (IsIn x) f.more (of_settled entry_total t.horizon t.accepted x k.0).0)) [
        | inl old ↦ settled_of entry_total s.horizon s.accepted x old early
        | inr new ↦ (let late = f.on_time x new in absurd (omega arith))
      ])
      (λ x i. in_filter (λ e. nat_lt e.date s.horizon) (settled t) x (settled_then x i) (lt-ltb x.date s.horizon (of_settled entry_total s.horizon s.accepted x i).1))

  pool_then : (c : Chronicle (List ℕ)) → (x : Entry (List ℕ)) → IsIn x (pool_among c (settled s) (marked_entries s)) → IsIn x (pool_among c (settled t) (marked_entries t))
  pool_then c x = by c.prompt
    where
      by : (b : Bool) → IsIn x (cond b (marked_entries s) (settled s)) → IsIn x (cond b (marked_entries t) (settled t))
      by true i = arrived_then x i
      by false i = settled_then x i

  recognised_then : (c : Chronicle (List ℕ)) (b : Assignment (List ℕ)) → IsRecognisedIn c (view_of s) b → IsRecognisedIn c (view_of t) b
  recognised_then c b r =
      let p = parted s.horizon (settled t) (in_dates (settled t) up) in
      let is : settled t ≡ settled s ++ p.0 = p.1 ∙ ap (λ (xs : List (Entry (List ℕ))). xs ++ p.0) front in
      subst (λ (xs : List (Entry (List ℕ))). IsRecognised c (pool_among c (settled t) (marked_entries t)) xs t.horizon b) (sym is)
      (stays c (pool_among c (settled s) (marked_entries s)) (pool_among c (settled t) (marked_entries t)) (settled s) p.0 s.horizon t.horizon b f.later (pool_then c) p.2 r)

  pub all_stay : Stays (view_of s) (view_of t)
  all_stay = record { settled = settled_then; recognised = recognised_then }

-- ---- lines of a log

pub begins_sound : (texts : List (List ℕ)) → IsSound (at_start texts)
begins_sound texts = record { accepted = none_accepted; counted = omega arith; within = omega arith }

lines_on : (c : Setting) (s : State) (gs hs : List Given) → after_lines c s (gs ++ hs) ≡ after_lines c (after_lines c s gs) hs
lines_on c s [] hs = refl
lines_on c s (g ∷ gs) hs = lines_on c (after_line c s g).0 gs hs

numbered_on : (limit n : ℕ) (xs ys : List Line) → given_lines limit n (xs ++ ys) ≡ given_lines limit n xs ++ given_lines limit (n + length xs) ys
numbered_on limit n [] ys = ap (λ k. given_lines limit k ys) (omega arith)
numbered_on limit n (x ∷ xs) ys = ap (λ (gs : List Given). given_line limit (n + 1) x ∷ gs) (numbered_on limit (n + 1) xs ys ∙ ap (λ k. given_lines limit (n + 1) xs ++ given_lines limit k ys) (omega arith))

-- behind some lines, and behind those and any further ones
pub stays_behind : (c : Setting) (texts : List (List ℕ)) (lines more : List Line) → Stays (view_of (after_lines c (at_start texts) (numbered lines))) (view_of (after_lines c (at_start texts) (numbered (lines ++ more))))
stays_behind c texts lines more =
    let s : State = after_lines c (at_start texts) (numbered lines) in
    let rest : List Given = given_lines line_limit (0 + length lines) more in
    let one = further c (at_start texts) (begins_sound texts) (numbered lines) in
    let two = further c s one.0 rest in
    subst (λ (t : State). Stays (view_of s) (view_of t))
    (sym (ap (after_lines c (at_start texts)) (numbered_on line_limit 0 lines more) ∙ lines_on c (at_start texts) (numbered lines) rest))
    (all_stay s (after_lines c s rest) one.0 two.0 two.1)
