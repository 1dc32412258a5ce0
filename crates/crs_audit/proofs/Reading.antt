-- What each line of a log does to a run.
use Rattle.std.proofs.Common.{◌≡◌, ◌∙◌, ◌<◌, ◌≤◌, ◌^◌, ℕ, ◌+◌, Bool, true, false, cond, List, [], ◌∷◌, ◌++◌, length, map, take, refl, sym, ap, subst, arith, append-nil, append_assoc, length-append, nat_lt, nat_le, lt-ltb}
use Rattle.std.proofs.lemmas.Bool.{le-ltb}
use Rattle.std.proofs.lemmas.List.{length-map, map-append, take-append-le, take_all}
use Rattle.std.specs.List.{AllByRecursion}
use Rattle.std.specs.declared.rc.Rc.{Rc}
use Rattle.std.proofs.Common.{Global}
use Rattle.crs_base.specs.declared.entry.Entry.{Entry as CodeEntry}
use Rattle.crs_base.specs.declared.symbols.Sym.{Sym}
use Rattle.crs_base.specs.Entry.{Entry}
use Rattle.crs_base.specs.Seen.{entry_of}
use Rattle.crs_base.specs.Symbols.{Table, AreDistinct, with_texts}
use Rattle.std.proofs.Common.{inl, inr}
use Rattle.crs_base.specs.Words.{Ordered}
use Rattle.crs_base.proofs.Words.{in_from_each, ordered_append}
use Rattle.crs_base.proofs.Alls.{all_append}
use Rattle.crs_base.proofs.DistinctTexts.{with_apart}
use Rattle.crs_model.specs.declared.models.Name.{Name as CodeName}
use Rattle.crs_model.specs.declared.recognition.Mark.{Mark}
use Rattle.crs_model.specs.declared.recognition.Mark.TheVariants.{Clock as AtClock, Finish as AtEnd}
use Rattle.crs_model.specs.Order.{HaveSameMembers}
use Rattle.crs_model.specs.Renaming.{text_in, renamed_entry, IsEntryOf}
use Rattle.crs_model.proofs.Agreed.{same_entries, entries_more}
use Rattle.crs_log.specs.Items.{Event, Happens, Clock, Finish, Delay}
use Rattle.crs_log.specs.Known.{Verdict, known_of, new_texts, texts_of, entry_of_event}
use Rattle.crs_log.specs.Run as run
use Rattle.crs_log.specs.Run.{Setting, State, Outcome, Passed, Refused, Accepted, Marked, after_named, after_ordered, after_verdict, after_line, after_lines, with_entry, end_date, horizon_at}
use Rattle.crs_log.specs.SeenNames.{name_seen, entry_seen, IsEntryIn, AreNamesIn}
use Rattle.crs_audit.specs.declared.run.Run.{Run}
use Rattle.crs_audit.specs.declared.run.Log.{Log}
use Rattle.crs_base.specs.Lines.{Line, line_limit}
use Rattle.crs_log.specs.Reading.{Given, given_line, given_lines}
use Rattle.crs_audit.specs.declared.run.Stand.{Stand}
use Rattle.crs_audit.specs.Marked.{marked_at}
use Rattle.crs_audit.specs.Notes.{Note, number_of, note_of, notes_of}
use Rattle.crs_audit.specs.Ordered.{after_raw}
use Rattle.crs_audit.specs.Runs.{entries_of, entries_seen, ArePlaced, marked_by, state_seen, view_with, stand_seen, stands_seen, IsSettingOf, IsSound, Takes, ReadsOn, IsLogOf, IsKeyed}
use Rattle.crs_audit.proofs.Items.{of_any_number}
use Rattle.crs_audit.proofs.Keyed.{in_key_order, same_members, few_sorted}
use Rattle.crs_audit.proofs.Growing.{HasText, texts_grow, has_more, same_text, names_more, names_same}

-- a line that changes nothing
pub stays : (c : Setting) (names : List CodeName) (entries : ℕ) (t : Table) (x : Run) → IsSettingOf c names entries t → IsSound t.texts entries x
    → (after : State × Outcome) → (s : State) (o : Outcome) → after ≡ (s, o) → state_seen t.texts x ≡ s → note_of s o ≡ [] → Takes c names entries t t x x after
stays c names entries t x fits sound after s o is same none =
    subst (Takes c names entries t t x x) (sym is) (record {
      setting = fits;
      sound = sound;
      state = same;
      marks = sym (append-nil (stands_seen t.texts x)) ∙ ap (λ (ns : List Note). stands_seen t.texts x ++ ns) (sym none);
      more = [];
      grown = sym (append-nil t.texts);
    })

-- the delay changes, and nothing else
pub delays : (c : Setting) (names : List CodeName) (entries : ℕ) (t : Table) (x : Run) (d : ℕ) → IsSettingOf c names entries t → IsSound t.texts entries x
    → Takes c names entries t t x (record x { delay = d }) (after_ordered c (state_seen t.texts x) (Delay d))
delays c names entries t x d fits sound = record {
  setting = fits;
  sound = record { known = sound.known; placed = sound.placed; dated = sound.dated; few = sound.few; marked = sound.marked; ascending = sound.ascending; latest = sound.latest; clock = sound.clock };
  state = refl;
  marks = sym (append-nil (stands_seen t.texts x));
  more = [];
  grown = sym (append-nil t.texts);
}

-- so many entries were accepted by the last mark
marked_last : (n : ℕ) (ss : List Stand) (s : Stand) → marked_by n (ss ++ s ∷ []) ≡ s.accepted
marked_last n [] s = refl
marked_last n (r ∷ ss) s = marked_last r.accepted ss s

-- the first entries are the same
stands_same : (xs : List (Entry (List ℕ))) (e : Entry (List ℕ)) (ss : List Stand) (n : ℕ) → n ≡ length xs → AllByRecursion (λ s. s.accepted ≤ n) ss
    → map (stand_seen (xs ++ e ∷ [])) ss ≡ map (stand_seen xs) ss
stands_same xs e [] n q h = refl
stands_same xs e (s ∷ ss) n q h =
    let first : take s.accepted (xs ++ e ∷ []) ≡ take s.accepted xs = take-append-le s.accepted xs (e ∷ []) (omega (arith, q, h.0)) in
    λ i. (s.number, view_with s.horizon s.accepted (first i)) ∷ stands_same xs e ss n q h.1 i

more_marked : (ss : List Stand) (n m : ℕ) → n ≤ m → AllByRecursion (λ s. s.accepted ≤ n) ss → AllByRecursion (λ s. s.accepted ≤ m) ss
more_marked [] n m le h = tt
more_marked (s ∷ ss) n m le h = (omega (arith, le, h.0), more_marked ss n m le h.1)

up_to : (ss : List Stand) (n m : ℕ) → n ≤ m → AllByRecursion (λ s. s.number ≤ n) ss → AllByRecursion (λ s. s.number ≤ m) ss
up_to [] n m le h = tt
up_to (s ∷ ss) n m le h = (omega (arith, le, h.0), up_to ss n m le h.1)

-- one more stands at its place
placed_last : (n : ℕ) (es : List (Entry Sym)) (e : Entry Sym) → ArePlaced n es → e.arrival ≡ n + length es → ArePlaced n (es ++ e ∷ [])
placed_last n [] e p q = (omega (arith, q), tt)
placed_last n (x ∷ es) e p q = (p.0, placed_last (n + 1) es e p.1 (omega (arith, q)))

count_seen : (texts : List (List ℕ)) (es : List (Rc CodeEntry Global)) → length (entries_seen texts es) ≡ length es
count_seen texts es = length-map (entries_of es) (renamed_entry (text_in texts)) ∙ length-map es (λ r. entry_of r.value)

module _ (c : Setting) (names : List CodeName) (entries : ℕ) (t : Table) (x : Run) (fits : IsSettingOf c names entries t) (sound : IsSound t.texts entries x) where
  -- there is room for no further entry
  pub full_is : (e : Event) → entries ≤ length x.entries → after_named c (state_seen t.texts x) e ≡ (state_seen t.texts x, Refused (run.Full c.entries))
  full_is e le =
      let s : State = state_seen t.texts x in
      let no : nat_lt (length s.accepted) c.entries ≡ false = le-ltb (length s.accepted) c.entries (omega (arith, count_seen t.texts x.entries, le, fits.limit)) in
      λ i. cond (no i) (cond (nat_le (length s.texts + length (new_texts s.texts (texts_of e))) c.symbols) (with_entry s (entry_of_event (length s.accepted) e) e, Accepted (entry_of_event (length s.accepted) e)) (s, Refused (run.Values c.symbols))) (s, Refused (run.Full c.entries))

  room_is : length x.entries < entries → nat_lt (length (entries_seen t.texts x.entries)) c.entries ≡ true
  room_is lt = lt-ltb (length (entries_seen t.texts x.entries)) c.entries (omega (arith, count_seen t.texts x.entries, lt, fits.limit))

  -- the event's texts don't fit
  pub values_is : (e : Event) → length x.entries < entries → t.limit < length t.texts + length (new_texts t.texts (texts_of e))
      → after_named c (state_seen t.texts x) e ≡ (state_seen t.texts x, Refused (run.Values c.symbols))
  values_is e lt over =
      let s : State = state_seen t.texts x in
      let big : nat_le (length s.texts + length (new_texts s.texts (texts_of e))) c.symbols ≡ false = grind (arith, fits.symbols, over) in
      λ i. cond (room_is lt i) (cond (big i) (with_entry s (entry_of_event (length s.accepted) e) e, Accepted (entry_of_event (length s.accepted) e)) (s, Refused (run.Values c.symbols))) (s, Refused (run.Full c.entries))

  module _ (e : Event) (new : Table) (r : Rc CodeEntry Global) (lt : length x.entries < entries) (fit : length t.texts + length (new_texts t.texts (texts_of e)) ≤ t.limit)
      (texts : new.texts ≡ with_texts t.texts (texts_of e)) (limit : new.limit ≡ t.limit)
      (seen : entry_seen new.texts r.value ≡ entry_of_event (length x.entries) e) (known : IsEntryIn new.texts r.value) (small : e.date < 2 ^ 40) where
    abbrev s : State
    s = state_seen t.texts x

    abbrev entry : Entry (List ℕ)
    entry = entry_of_event (length s.accepted) e

    abbrev y : Run
    y = record x { entries = x.entries ++ r ∷ [] }

    abbrev more : List (List ℕ)
    more = (texts_grow t.texts (texts_of e)).0

    grown : new.texts ≡ t.texts ++ more
    grown = texts ∙ (texts_grow t.texts (texts_of e)).1

    before_same : entries_seen new.texts x.entries ≡ s.accepted
    before_same = ap (λ (ts : List (List ℕ)). entries_seen ts x.entries) grown
        ∙ sym (same_entries (text_in t.texts) (text_in (t.texts ++ more)) (HasText t.texts) (same_text t.texts more) (entries_of x.entries) sound.known)

    entry_is : entry_seen new.texts r.value ≡ entry
    entry_is = seen ∙ ap (λ n. entry_of_event n e) (sym (count_seen t.texts x.entries))

    accepted_is : entries_seen new.texts y.entries ≡ s.accepted ++ entry ∷ []
    accepted_is =
        ap (map (renamed_entry (text_in new.texts))) (map-append (λ q. entry_of q.value) x.entries (r ∷ []))
        ∙ map-append (renamed_entry (text_in new.texts)) (entries_of x.entries) (entry_of r.value ∷ [])
        ∙ (λ i. before_same i ++ entry_is i ∷ [])

    after_is : after_named c s e ≡ (with_entry s entry e, Accepted entry)
    after_is =
        let small : nat_le (length s.texts + length (new_texts s.texts (texts_of e))) c.symbols ≡ true = grind (arith, fits.symbols, fit) in
        λ i. cond (room_is lt i) (cond (small i) (with_entry s entry e, Accepted entry) (s, Refused (run.Values c.symbols))) (s, Refused (run.Full c.entries))

    known_now : AllByRecursion (IsEntryOf (HasText new.texts)) (entries_of y.entries)
    known_now = subst (AllByRecursion (IsEntryOf (HasText new.texts))) (sym (map-append (λ q. entry_of q.value) x.entries (r ∷ [])))
        (all_append (IsEntryOf (HasText new.texts)) (entries_of x.entries) (entry_of r.value ∷ [])
        (subst (λ (ts : List (List ℕ)). AllByRecursion (IsEntryOf (HasText ts)) (entries_of x.entries)) (sym grown)
        (entries_more (HasText t.texts) (HasText (t.texts ++ more)) (has_more t.texts more) (entries_of x.entries) sound.known))
        (known, tt))

    placed_now : ArePlaced 0 (entries_of y.entries)
    placed_now = subst (ArePlaced 0) (sym (map-append (λ q. entry_of q.value) x.entries (r ∷ [])))
        (placed_last 0 (entries_of x.entries) (entry_of r.value) sound.placed
        (let a : (entry_of r.value).arrival ≡ length x.entries = ap (λ (z : Entry (List ℕ)). z.arrival) seen in
        let n : length (entries_of x.entries) ≡ length x.entries = length-map x.entries (λ q. entry_of q.value) in
        omega (arith, a, n)))

    dated_now : AllByRecursion (λ d. d.date < 2 ^ 40) (entries_of y.entries)
    dated_now = subst (AllByRecursion (λ d. d.date < 2 ^ 40)) (sym (map-append (λ q. entry_of q.value) x.entries (r ∷ [])))
        (all_append (λ (d : Entry Sym). d.date < 2 ^ 40) (entries_of x.entries) (entry_of r.value ∷ []) sound.dated
        ((let a : (entry_of r.value).date ≡ e.date = ap (λ (z : Entry (List ℕ)). z.date) seen in omega (arith, a, small)), tt))

    count_now : length y.entries ≡ length x.entries + 1
    count_now = length-append x.entries (r ∷ [])

    setting_now : IsSettingOf c names entries new
    setting_now = record {
      names_are = fits.names_are ∙ names_same t.texts more names fits.names_in ∙ ap (λ (ts : List (List ℕ)). map (name_seen ts) names) (sym grown);
      names_in = subst (λ (ts : List (List ℕ)). AreNamesIn ts names) (sym grown) (names_more t.texts more names fits.names_in);
      few = fits.few;
      arities = fits.arities;
      distinct = subst AreDistinct (sym texts) (with_apart t.texts (texts_of e) fits.distinct);
      symbols = limit ∙ fits.symbols;
      limit = fits.limit;
    }

    -- the event is accepted
    pub accepts : Takes c names entries t new x y (after_named c s e)
    accepts = subst (Takes c names entries t new x y) (sym after_is) (record {
      setting = setting_now;
      sound = record {
        known = known_now;
        placed = placed_now;
        dated = dated_now;
        few = omega (arith, count_now, lt);
        marked = more_marked x.marks (length x.entries) (length y.entries) (omega (arith, count_now)) sound.marked;
        ascending = sound.ascending;
        latest = sound.latest;
        clock = sound.clock;
      };
      state = λ i. record {
        texts = texts i;
        delay = x.delay;
        last = x.last;
        horizon = x.horizon;
        accepted = accepted_is i;
        marked = marked_by 0 x.marks;
        ended = x.ended;
      };
      marks = ap (λ (es : List (Entry (List ℕ))). map (stand_seen es) x.marks) accepted_is
          ∙ stands_same s.accepted entry x.marks (length x.entries) (sym (count_seen t.texts x.entries)) sound.marked
          ∙ sym (append-nil (stands_seen t.texts x));
      more = more;
      grown = grown;
    })

  -- the state behind a mark: the clock stands there, and all accepted entries had arrived by it
  abbrev marked_state : ℕ → ℕ → Bool → State
  marked_state n h there = record (state_seen t.texts x) { last = n; horizon = h; marked = length (entries_seen t.texts x.entries); ended = there }

  -- a mark is accepted: the number, the horizon and whether it is the end
  pub marks_now : (n h : ℕ) (there : Bool) (mark : Mark) (after : State × Outcome) → x.last ≤ n → n ≤ end_date → number_of mark ≡ n
      → (marked_state n h there, Marked mark) ≡ after → Takes c names entries t t x (marked_at (record x { ended = there }) n h) after
  marks_now n h there mark after le small is_number is = subst (Takes c names entries t t x (marked_at (record x { ended = there }) n h)) is (record {
    setting = fits;
    sound = record {
      known = sound.known;
      placed = sound.placed;
      dated = sound.dated;
      few = sound.few;
      marked = all_append (λ z. z.accepted ≤ length x.entries) x.marks (record { number = n; horizon = h; accepted = length x.entries } ∷ []) sound.marked (omega arith, tt);
      ascending = ordered_append (λ r s. r.number ≤ s.number) x.marks (record { number = n; horizon = h; accepted = length x.entries } ∷ []) sound.ascending (tt, tt)
          (λ r s i j. elim j [
            | inl q ↦ (let a = in_from_each (λ z. z.number ≤ x.last) x.marks sound.latest r i in let b : s.number ≡ n = ap (λ z. z.number) q in omega (arith, a, b, le))
            | inr k ↦ absurd k
          ]);
      latest = all_append (λ z. z.number ≤ n) x.marks (record { number = n; horizon = h; accepted = length x.entries } ∷ []) (up_to x.marks x.last n le sound.latest) (omega arith, tt);
      clock = small;
    };
    state = λ i. record (marked_state n h there) { marked = (marked_last 0 x.marks (record { number = n; horizon = h; accepted = length x.entries }) ∙ sym (count_seen t.texts x.entries)) i };
    marks =
        let es = entries_seen t.texts x.entries in
        let all : take (length x.entries) es ≡ es = take_all (length x.entries) es (omega (arith, count_seen t.texts x.entries)) in
        map-append (stand_seen es) x.marks (record { number = n; horizon = h; accepted = length x.entries } ∷ [])
        ∙ (λ i. stands_seen t.texts x ++ (sym is_number i, view_with h (sym (count_seen t.texts x.entries) i) (all i)) ∷ []);
    more = [];
    grown = sym (append-nil t.texts);
  })

  -- an event that is late
  pub late_is : (e : Event) → e.date < x.horizon → after_ordered c (state_seen t.texts x) (Happens e) ≡ (state_seen t.texts x, Refused (run.Late e.date x.horizon))
  late_is e lt =
      let is : nat_lt e.date x.horizon ≡ true = lt-ltb e.date x.horizon lt in
      λ i. cond (is i) (state_seen t.texts x, Refused (run.Late e.date x.horizon)) (after_verdict c (state_seen t.texts x) e (known_of c.names e))

  -- an event that isn't late becomes what is known of its name
  pub verdict_is : (e : Event) (v : Verdict) → x.horizon ≤ e.date → known_of (map (name_seen t.texts) names) e ≡ v
      → after_ordered c (state_seen t.texts x) (Happens e) ≡ after_verdict c (state_seen t.texts x) e v
  verdict_is e v le says =
      let no : nat_lt e.date x.horizon ≡ false = le-ltb e.date x.horizon le in
      let known : known_of c.names e ≡ v = ap (λ ns. known_of ns e) fits.names_are ∙ says in
      λ i. cond (no i) (state_seen t.texts x, Refused (run.Late e.date x.horizon)) (after_verdict c (state_seen t.texts x) e (known i))

  -- a clock before the last is refused, and another is accepted
  pub back_is : (n : ℕ) → n < x.last → after_ordered c (state_seen t.texts x) (Clock n) ≡ (state_seen t.texts x, Refused (run.Back n x.last))
  back_is n lt =
      let is : nat_lt n x.last ≡ true = lt-ltb n x.last lt in
      λ i. cond (is i) (state_seen t.texts x, Refused (run.Back n x.last)) (marked_state n (horizon_at x.delay x.horizon n) x.ended, Marked (AtClock n))

  pub clock_takes : (n h : ℕ) → n < 2 ^ 40 → x.last ≤ n → h ≡ horizon_at x.delay x.horizon n → Takes c names entries t t x (marked_at x n h) (after_ordered c (state_seen t.texts x) (Clock n))
  clock_takes n h small le is =
      let no : nat_lt n x.last ≡ false = le-ltb n x.last le in
      let after : (marked_state n h x.ended, Marked (AtClock n)) ≡ after_ordered c (state_seen t.texts x) (Clock n) =
      (λ i. cond (sym no i) (state_seen t.texts x, Refused (run.Back n x.last)) (marked_state n (is i) x.ended, Marked (AtClock n))) in
      marks_now n h x.ended (AtClock n) (after_ordered c (state_seen t.texts x) (Clock n)) le (omega (arith, small)) refl after

  pub end_takes : Takes c names entries t t x (marked_at (record x { ended = true }) (2 ^ 42) (2 ^ 42)) (after_ordered c (state_seen t.texts x) Finish)
  end_takes = marks_now (2 ^ 42) (2 ^ 42) true AtEnd (after_ordered c (state_seen t.texts x) Finish) sound.clock (omega arith) refl refl

-- at the start nothing was read
pub reads_start : (c : Setting) (names : List CodeName) (entries : ℕ) (t : Table) (x : Run) (all : List Line) → IsSettingOf c names entries t
    → x ≡ record { entries = []; marks = []; delay = 0; last = 0; horizon = 0; ended = false } → ReadsOn c names entries t t x all all
reads_start c names entries t x all fits e = subst (λ (y : Run). ReadsOn c names entries t t y all all) (sym e) (record {
  setting = fits;
  sound = record { known = tt; placed = tt; dated = tt; few = omega arith; marked = tt; ascending = tt; latest = tt; clock = omega arith };
  read = 0;
  state = refl;
  marks = refl;
  more = [];
  grown = sym (append-nil t.texts);
})

-- one line more
pub reads_next : (c : Setting) (names : List CodeName) (entries : ℕ) (old now new : Table) (x y : Run) (all ls left : List Line) (l : Line) → left ≡ l ∷ ls
    → ReadsOn c names entries old now x all left → Takes c names entries now new x y (after_raw c (state_seen now.texts x) l) → ReadsOn c names entries old new y all ls
reads_next c names entries old now new x y all ls left l e r k =
    let s : State = state_seen now.texts x in
    let a : State × Outcome = after_raw c s l in
    let gs : List Given = given_lines line_limit (r.read + 1) ls in
    let lines : List Line → List Given = given_lines line_limit r.read in
    let one : a ≡ after_line c s (given_line line_limit (r.read + 1) l) = of_any_number c s (r.read + 1) l in
    record {
      setting = k.setting;
      sound = k.sound;
      read = r.read + 1;
      state = (λ i. after_lines c ((k.state ∙ ap (λ (z : State × Outcome). z.0) one) i) gs) ∙ ap (λ (left : List Line). after_lines c s (lines left)) (sym e) ∙ r.state;
      marks =
          (λ i. k.marks i ++ notes_of c (k.state i) gs)
          ∙ append_assoc (stands_seen now.texts x) (note_of a.0 a.1) (notes_of c a.0 gs)
          ∙ (λ i. stands_seen now.texts x ++ (note_of (one i).0 (one i).1 ++ notes_of c (one i).0 gs))
          ∙ ap (λ (left : List Line). stands_seen now.texts x ++ notes_of c s (lines left)) (sym e)
          ∙ r.marks;
      more = r.more ++ k.more;
      grown = k.grown ∙ ap (λ (ts : List (List ℕ)). ts ++ k.more) r.grown ∙ append_assoc old.texts r.more k.more;
    }

-- the log was read whole
pub log_read : (c : Setting) (names : List CodeName) (entries : ℕ) (old now : Table) (x : Run) (log : Log) (all : List Line)
    → ReadsOn c names entries old now x all [] → log.entries ≡ x.entries → log.marks ≡ x.marks → IsKeyed x.entries log.by_key.items
    → IsLogOf c names entries old now all log
log_read c names entries old now x log all r e m k = record {
  setting = r.setting;
  known = subst (λ (es : List (Rc CodeEntry Global)). AllByRecursion (IsEntryOf (HasText now.texts)) (entries_of es)) (sym e) r.sound.known;
  placed = subst (λ (es : List (Rc CodeEntry Global)). ArePlaced 0 (entries_of es)) (sym e) r.sound.placed;
  dated = subst (λ (es : List (Rc CodeEntry Global)). AllByRecursion (λ d. d.date < 2 ^ 40) (entries_of es)) (sym e) r.sound.dated;
  accepted = ap (entries_seen now.texts) e ∙ ap (λ (s : State). s.accepted) r.state;
  marks = (λ i. map (stand_seen (entries_seen now.texts (e i))) (m i)) ∙ sym (append-nil (stands_seen now.texts x)) ∙ r.marks;
  marked = subst (λ (es : List (Rc CodeEntry Global)). AllByRecursion (λ s. s.accepted ≤ length es) log.marks) (sym e)
      (subst (AllByRecursion (λ s. s.accepted ≤ length x.entries)) (sym m) r.sound.marked);
  ascending = subst (Ordered (λ r s. r.number ≤ s.number)) (sym m) r.sound.ascending;
  few = few_sorted x.entries log.by_key.items entries k r.sound.few;
  in_order = in_key_order x.entries log.by_key.items r.sound.placed k;
  same = subst (λ (es : List (Rc CodeEntry Global)). HaveSameMembers (entries_of log.by_key.items) (entries_of es)) (sym e)
      (same_members x.entries log.by_key.items r.sound.placed k);
  more = r.more;
  grown = r.grown;
}
