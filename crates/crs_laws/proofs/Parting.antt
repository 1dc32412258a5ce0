-- What is written for a log without refused lines, part by part.
use Rattle.std.proofs.Common.{◌≡◌, ℕ, ◌+◌, ◌≤◌, Bool, true, false, cond, List, [], ◌∷◌, ◌++◌, length, map, refl, sym, ap, subst, ◌∙◌}
use Rattle.std.proofs.Common.{arith, true≢false, append-nil, Option, Some, None, length-append}
use Rattle.std.specs.Prelude.{nat_lt, nat_le}
use Rattle.std.specs.List.{AllZip, list_any, sum_by}
use Rattle.std.proofs.lemmas.Bool.{or_parts, le-ltb}
use Rattle.std.proofs.lemmas.List.Sums.{sum_by-cons}
use Rattle.crs_base.specs.Entry.{Key}
use Rattle.std.specs.Prelude.{flat_map}
use Rattle.crs_base.specs.Lines.{Line, bytes_of, is_long, is_longer, line_limit}
use Rattle.crs_model.specs.declared.recognition.Mark.{Mark}
use Rattle.crs_model.specs.declared.recognition.Mark.TheVariants as marks
use Rattle.crs_model.specs.Order.{arrived}
use Rattle.crs_model.proofs.Ties.{tie, said, ties, ties_last}
use Rattle.crs_log.specs.Items.{Item, Delay, Clock, Finish, Happens, Event}
use Rattle.crs_log.specs.ItemOf.{What, Empty, Is, Faulty, what_of}
use Rattle.crs_log.specs.Known.{Verdict, Other, Named, BadArity, BadValue, known_of, entry_of_event, texts_of, new_texts}
use Rattle.crs_log.specs.Run as run
use Rattle.crs_log.specs.Run.{Outcome, Refused, Accepted, Marked, horizon_at, after_named, end_date, with_entry}
use Rattle.crs_log.specs.Reading.{Given, Plain, Long, given_line, given_lines}
use Rattle.crs_log.specs.Recognitions.{View}
use Rattle.crs_log.specs.Trace.{Answer}
use Rattle.crs_log.specs.Walks.{Walks}
use Rattle.crs_log.proofs.Canonicals.{IsOfSymbols}
use Rattle.crs_log.proofs.ReadEntries.{AreAccepted, one_accepted, line_read}
use Rattle.crs_layers.specs.Runs.{Setting, State, Effect, IsAfter, IsStep, views_of, is_full, some_flooded, after_verdict, after_ordered, after_what, after_line}
use Rattle.crs_layers.specs.Strata.{Stratum, with_logged, behind, horizon_behind, IsMarkFrom}
use Rattle.crs_layers.specs.StrataAnswers.{AreNew, AreAnswers}
use Rattle.crs_layers.specs.StrataViews.{views_from}
use Rattle.crs_frames.specs.Frames.{LogEntry, answer_line, is_refused}
use Rattle.crs_session.specs.Texts.{line_text, flood_text, text_of, has_refused}
use Rattle.crs_laws.specs.Rearranged.{Part, Ending, AtClock, AtEnd, items_in, items_of, led_by, parts_of}
use Rattle.crs_laws.proofs.AlikeStrata.{filter_last}

abbrev pub taken : Verdict → ℕ → ℕ
taken Other n = 0
taken (Named place) n = n
taken BadArity n = 0
taken BadValue n = 0

-- what becomes of a line, from what is given for it
given_line_law : (c : run.Setting) (full : Bool) (s : run.State) (n : ℕ) (l : Line) → after_line c full s (given_line line_limit n l)
    ≡ cond (is_long l) (s, Refused run.TooLong) (after_what c full s (what_of (bytes_of l)))
given_line_law c full s n l = by (is_longer line_limit l)
  where
    by : (b : Bool) → after_line c full s (cond b (Long n) (Plain n (bytes_of l))) ≡ cond b (s, Refused run.TooLong) (after_what c full s (what_of (bytes_of l)))
    by true = refl
    by false = refl

module _ (c : Setting) where
  -- how often an event's entry says it
  abbrev pub weight : Key → Event → ℕ
  weight z e = taken (known_of c.log.names e) (tie z (said (entry_of_event 0 e)))

  -- the entries behind these events
  pub record Follow (es : List Event) (xs ys : List LogEntry) : Type 0 where
    pub accepted : AreAccepted xs → AreAccepted ys
    pub ties : (z : Key) → ties z ys ≡ ties z xs + sum_by (weight z) es
    pub longer : length xs ≤ length ys
    pub early : (k : ℕ) → k ≤ length xs → arrived k ys ≡ arrived k xs

  -- the strata behind them
  abbrev pub FollowAll : List Event → List (Stratum (List ℕ)) → List (Stratum (List ℕ)) → Type 0
  FollowAll es ss ts = AllZip (λ s t. Follow es s.accepted t.accepted × (t.marked ≡ s.marked)) ss ts

  -- the horizon of each stratum, by whether the log has ended and by that of stratum 0
  abbrev pub horizons : Bool → ℕ → ℕ → ℕ
  horizons ended h j = horizon_behind ended h (behind c.placed j)

  -- What is written at a mark, where the horizon rises from g to h, and behind it. Each stratum has room for what it is given.
  abbrev pub IsMarkedText : Mark → Bool → ℕ → Bool → ℕ → List (Stratum (List ℕ)) → (List (Stratum (List ℕ)) → List ℕ → Type 0) → List ℕ → Type 0
  IsMarkedText mark was g now h ss Rest text =
      (ts : List (Stratum (List ℕ))) × (given : List (List LogEntry)) × (answers : List Answer) × (rest : List ℕ)
      × IsMarkFrom (λ x. x) c.placed c.log.entries (horizons was g) (horizons now h) 0 [] ss ts given × (some_flooded c.log.entries ss given ≡ false)
      × AreNew 0 c.placed (views_from (horizons was g) 0 ss) (views_from (horizons now h) 0 ts) answers × Rest ts rest × (text ≡ flat_map (answer_line false mark) answers ++ rest)

  -- what is written for the mark behind the events, and for the rest, by whether the log has ended, its horizon and its strata
  abbrev pub IsEndText : Option Ending → Bool → ℕ → List (Stratum (List ℕ)) → (Bool → ℕ → List (Stratum (List ℕ)) → List ℕ → Type 0) → List ℕ → Type 0
  IsEndText None b h ss Rest text = text ≡ []
  IsEndText (Some (AtClock d t)) b h ss Rest text = IsMarkedText (marks.Clock t) b h b (horizon_at d h t) ss (Rest b (horizon_at d h t)) text
  IsEndText (Some AtEnd) b h ss Rest text = IsMarkedText marks.Finish b h true end_date ss (Rest true end_date) text

  abbrev pub IsPartsText : List Part → Bool → ℕ → List (Stratum (List ℕ)) → List ℕ → Type 0
  IsPartsText [] b h ss text = text ≡ []
  IsPartsText (p ∷ ps) b h ss text =
      (ts : List (Stratum (List ℕ))) × FollowAll p.events ss ts × IsEndText p.ending b h ts (λ b h us t. IsPartsText ps b h us t) text

  same_follow : (xs : List LogEntry) → Follow [] xs xs
  same_follow xs = record { accepted = λ a. a; ties = λ z. omega arith; longer = omega arith; early = λ k l. refl }

  follow_on : (e : Event) (es : List Event) (xs ys zs : List LogEntry) → Follow (e ∷ []) xs ys → Follow es ys zs → Follow (e ∷ es) xs zs
  follow_on e es xs ys zs a b = record {
    accepted = λ k. b.accepted (a.accepted k);
    ties = λ z.
        let one : ties z ys ≡ ties z xs + sum_by (weight z) (e ∷ []) = a.ties z in
        let two : ties z zs ≡ ties z ys + sum_by (weight z) es = b.ties z in
        let more : sum_by (weight z) (e ∷ es) ≡ weight z e + sum_by (weight z) es = sum_by-cons (weight z) e es in
        let first : sum_by (weight z) (e ∷ []) ≡ weight z e + sum_by (weight z) [] = sum_by-cons (weight z) e [] in
        let none : sum_by (weight z) [] ≡ 0 = refl in
        omega (arith, one, two, more, first, none);
    longer = let l = a.longer in let m = b.longer in omega arith;
    early = λ k l. b.early k (let m = a.longer in omega arith) ∙ a.early k l;
  }

  same_all : (ss : List (Stratum (List ℕ))) → FollowAll [] ss ss
  same_all [] = tt
  same_all (s ∷ ss) = ((same_follow s.accepted, refl), same_all ss)

  all_on : (e : Event) (es : List Event) (ss ts us : List (Stratum (List ℕ))) → FollowAll (e ∷ []) ss ts → FollowAll es ts us → FollowAll (e ∷ es) ss us
  all_on e es [] [] us a b = b
  all_on e es [] (t ∷ ts) us a b = absurd a
  all_on e es (s ∷ ss) [] us a b = absurd a
  all_on e es (s ∷ ss) (t ∷ ts) [] a b = absurd b
  all_on e es (s ∷ ss) (t ∷ ts) (u ∷ us) a b = ((follow_on e es s.accepted t.accepted u.accepted a.0.0 b.0.0, b.0.1 ∙ a.0.1), all_on e es ss ts us a.1 b.1)

  led : (e : Event) (ps : List Part) (b : Bool) (h : ℕ) (ss ts : List (Stratum (List ℕ))) (text : List ℕ) → FollowAll (e ∷ []) ss ts
      → IsPartsText ps b h ts text → IsPartsText (led_by e ps) b h ss text
  led e [] b h ss ts text f t = (ts, f, t)
  led e (p ∷ ps) b h ss ts text f t = (t.0, all_on e p.events ss ts t.0 f t.1, t.2)

  abbrev IsToldFrom : State → List Item → List ℕ → Type 0
  IsToldFrom s items text = IsPartsText (parts_of s.log.delay items) s.log.ended s.log.horizon s.strata text

  -- what is written for a line that is met in the state s, leaves `after` of the log and these strata
  abbrev IsLineText : ℕ → State → run.State × Outcome → List (Stratum (List ℕ)) → List ℕ → Type 0
  IsLineText n s after ts text =
      (given : List (List LogEntry)) × (answers : List Answer) × IsAfter c s after.0 after.1 ts given × (some_flooded c.log.entries s.strata given ≡ false)
      × AreAnswers c.placed (views_of c s) (views_of c (record { log = after.0; strata = ts })) after.1 answers × (text ≡ line_text false n after.1 answers)

  -- from what is told behind a line to what is told of it too
  abbrev Steps : ℕ → State → List Item → What → run.State × Outcome → Type 0
  Steps n s items w r =
      is_refused r.1 ≡ false → (ts : List (Stratum (List ℕ))) (first rest text : List ℕ) → IsLineText n s r ts first → IsToldFrom (record { log = r.0; strata = ts }) items rest
      → text ≡ first ++ rest → IsToldFrom s (items_in w ++ items) text

  -- a line for which nothing is written, and that leaves the strata
  nothing : (s : State) (log : run.State) (items : List Item) (ts : List (Stratum (List ℕ))) (first rest text : List ℕ) → ts ≡ s.strata → first ≡ [] → text ≡ first ++ rest
      → IsToldFrom (record { log = log; strata = ts }) items rest → IsToldFrom (record { log = log; strata = s.strata }) items text
  nothing s log items ts first rest text q e t k =
      let same : text ≡ rest = t ∙ ap (λ (w : List ℕ). w ++ rest) e in
      subst (IsToldFrom (record { log = log; strata = s.strata }) items) (sym same) (subst (λ (us : List (Stratum (List ℕ))). IsToldFrom (record { log = log; strata = us }) items rest) q k)

  weight_by : (z : Key) (e : Event) (v : Verdict) → known_of c.log.names e ≡ v
      → sum_by (weight z) (e ∷ []) ≡ taken v (tie z (said (entry_of_event 0 e)))
  weight_by z e v k =
      let one : sum_by (weight z) (e ∷ []) ≡ weight z e + sum_by (weight z) [] = sum_by-cons (weight z) e [] in
      let same : weight z e ≡ taken v (tie z (said (entry_of_event 0 e))) =
      ap (λ (v : Verdict). taken v (tie z (said (entry_of_event 0 e)))) k in
      let none : sum_by (weight z) [] ≡ 0 = refl in
      omega (arith, one, same, none)

  passed : (e : Event) → known_of c.log.names e ≡ Other → (ss : List (Stratum (List ℕ))) → FollowAll (e ∷ []) ss ss
  passed e k [] = tt
  passed e k (s ∷ ss) = ((record { accepted = λ a. a; ties = λ z. let w = weight_by z e Other k in omega (arith, w); longer = omega arith; early = λ k l. refl }, refl), passed e k ss)

  added : (e : Event) (xs : List LogEntry) (place : ℕ) → IsOfSymbols e → known_of c.log.names e ≡ Named place
      → Follow (e ∷ []) xs (xs ++ entry_of_event (length xs) e ∷ [])
  added e xs place s k = record {
    accepted = one_accepted e xs s;
    ties = λ z.
        let w : sum_by (weight z) (e ∷ []) ≡ tie z (said (entry_of_event 0 e)) = weight_by z e (Named place) k in
        let l : ties z (xs ++ entry_of_event (length xs) e ∷ []) ≡ ties z xs + tie z (said (entry_of_event 0 e)) =
        ties_last z xs (entry_of_event (length xs) e) in
        omega (arith, w, l);
    longer = (let l = length-append xs (entry_of_event (length xs) e ∷ []) in omega (arith, l));
    early = λ k l. filter_last (λ y. nat_lt y.arrival k) xs (entry_of_event (length xs) e) (le-ltb (length xs) k l);
  }

  added_all : (n : ℕ) (e : Event) (place : ℕ) → IsOfSymbols e → known_of c.log.names e ≡ Named place → (ss : List (Stratum (List ℕ))) → FollowAll (e ∷ []) ss (map (with_logged (entry_of_event n e)) ss)
  added_all n e place s k [] = tt
  added_all n e place s k (t ∷ ss) = ((added e t.accepted place s k, refl), added_all n e place s k ss)

  module _ (n : ℕ) (s : State) (items : List Item) where
    abbrev full : Bool
    full = is_full c.log.entries s.strata

    never : (w : What) (after : run.State) (f : run.Fault) → Steps n s items w (after, Refused f)
    never w after f r = absurd (true≢false r)

    unless : (w : What) (b : Bool) (after : run.State) (f : run.Fault) (r : run.State × Outcome) → Steps n s items w r
        → Steps n s items w (cond b (after, Refused f) r)
    unless w true after f r h = never w after f
    unless w false after f r h = h

    provided : (w : What) (b : Bool) (f : run.Fault) (r : run.State × Outcome) → Steps n s items w r
        → Steps n s items w (cond b r (s.log, Refused f))
    provided w true f r h = h
    provided w false f r h = never w s.log f

    abbrev new : Event → LogEntry
    new e = entry_of_event (length s.log.accepted) e

    abbrev has_place : Event → Bool
    has_place e = nat_le (length s.log.texts + length (new_texts s.log.texts (texts_of e))) c.log.symbols

    steps_named : (e : Event) (place : ℕ) → IsOfSymbols e → known_of c.log.names e ≡ Named place
        → Steps n s items (Is (Happens e)) (after_named c.log s.log e)
    steps_named e place k v =
        provided (Is (Happens e)) (nat_lt (length s.log.accepted) c.log.entries) (run.Full c.log.entries)
        (cond (has_place e) (with_entry s.log (new e) e, Accepted (new e)) (s.log, Refused (run.Values c.log.symbols)))
        (provided (Is (Happens e)) (has_place e) (run.Values c.log.symbols) (with_entry s.log (new e) e, Accepted (new e))
        (λ r ts first rest text o t x.
        let same : text ≡ rest = x ∙ ap (λ (w : List ℕ). w ++ rest) o.5 in
        led e (parts_of s.log.delay items) s.log.ended s.log.horizon s.strata ts text
        (subst (FollowAll (e ∷ []) s.strata) (sym o.2.0) (added_all (length s.log.accepted) e place k v s.strata))
        (subst (IsPartsText (parts_of s.log.delay items) s.log.ended s.log.horizon ts) (sym same) t)))

    steps_verdict : (e : Event) (v : Verdict) → IsOfSymbols e → known_of c.log.names e ≡ v
        → Steps n s items (Is (Happens e)) (after_verdict c.log full s.log e v)
    steps_verdict e Other k v = λ r ts first rest text o t x.
        led e (parts_of s.log.delay items) s.log.ended s.log.horizon s.strata s.strata text (passed e v s.strata)
        (nothing s s.log items ts first rest text o.2.0 o.5 x t)
    steps_verdict e BadArity k v = never (Is (Happens e)) s.log run.Arity
    steps_verdict e BadValue k v = never (Is (Happens e)) s.log run.Value
    steps_verdict e (Named place) k v = unless (Is (Happens e)) full s.log (run.Full c.log.entries) (after_named c.log s.log e) (steps_named e place k v)

    steps_ordered : (item : Item) → ((e : Event) → Is item ≡ Is (Happens e) → IsOfSymbols e)
        → Steps n s items (Is item) (after_ordered c.log full s.log item)
    steps_ordered (Delay d) k = λ r ts first rest text o t x.
        nothing s (record s.log { delay = d }) items ts first rest text o.2.0 o.5 x t
    steps_ordered (Clock t) k =
        unless (Is (Clock t)) (nat_lt t s.log.last) s.log (run.Back t s.log.last)
        (record s.log { last = t; horizon = horizon_at s.log.delay s.log.horizon t; marked = length s.log.accepted }, Marked (marks.Clock t))
        (λ r ts first rest text o u x. (s.strata, same_all s.strata, (ts, o.0, o.1, rest, o.2, o.3, o.4, u, x ∙ ap (λ (w : List ℕ). w ++ rest) o.5)))
    steps_ordered Finish k = λ r ts first rest text o u x.
        (s.strata, same_all s.strata, (ts, o.0, o.1, rest, o.2, o.3, o.4, u, x ∙ ap (λ (w : List ℕ). w ++ rest) o.5))
    steps_ordered (Happens e) k =
        unless (Is (Happens e)) (nat_lt e.date s.log.horizon) s.log (run.Late e.date s.log.horizon) (after_verdict c.log full s.log e (known_of c.log.names e))
        (steps_verdict e (known_of c.log.names e) (k e refl) refl)

    steps_what : (w : What) → ((e : Event) → w ≡ Is (Happens e) → IsOfSymbols e) → Steps n s items w (after_what c.log full s.log w)
    steps_what Empty k = λ r ts first rest text o t x. nothing s s.log items ts first rest text o.2.0 o.5 x t
    steps_what Faulty k = never Faulty s.log run.Form
    steps_what (Is item) k = unless (Is item) s.log.ended s.log run.Order (after_ordered c.log full s.log item) (steps_ordered item k)

  -- what is written for lines of which none is refused is written for their parts
  pub parted_text : (n : ℕ) (s : State) (ls : List Line) (es : List Effect) (last : State) → list_any has_refused es ≡ false
      → Walks (IsStep c) s (given_lines line_limit n ls) es last → IsToldFrom s (items_of ls) (text_of false c.log.entries es)
  parted_text n s [] [] last r t = refl
  parted_text n s [] (e ∷ es) last r t = absurd t
  parted_text n s (l ∷ ls) [] last r t = absurd t
  parted_text n s (l ∷ ls) (e ∷ es) last r (next, h, more) =
      let g : Given = given_line line_limit (n + 1) l in
      let full : Bool = is_full c.log.entries s.strata in
      let after : run.State × Outcome = after_line c.log full s.log g in
      let fine = or_parts (has_refused e) (list_any has_refused es) r in
      let parts = or_parts (is_refused e.outcome) e.flood fine.0 in
      let first : List ℕ = line_text false e.number e.outcome e.answers in
      let answers : AreAnswers c.placed (views_of c s) (views_of c next) e.outcome e.answers =
      subst (λ (vs : List View). AreAnswers c.placed vs (views_of c next) e.outcome e.answers) h.was
      (subst (λ (vs : List View). AreAnswers c.placed e.was vs e.outcome e.answers) h.now h.answers) in
      let line : IsLineText e.number s after next.strata first =
      subst (λ (a : run.State × Outcome). IsLineText e.number s a next.strata first) (sym h.log) (e.given, e.answers, h.strata, sym h.flood ∙ parts.1, answers, refl) in
      let rest : IsToldFrom (record { log = after.0; strata = next.strata }) (items_of ls) (text_of false c.log.entries es) =
      subst (λ (a : run.State × Outcome). IsToldFrom (record { log = a.0; strata = next.strata }) (items_of ls) (text_of false c.log.entries es)) (sym h.log)
      (parted_text (n + 1) next ls es last fine.1 more) in
      let told : text_of false c.log.entries (e ∷ es) ≡ first ++ text_of false c.log.entries es =
      (λ i. (first ++ flood_text c.log.entries e.number (parts.1 i)) ++ text_of false c.log.entries es) ∙ ap (λ (w : List ℕ). w ++ text_of false c.log.entries es) (append-nil first) in
      let accepted : is_refused after.1 ≡ false = ap (λ (a : run.State × Outcome). is_refused a.1) h.log ∙ parts.0 in
      let steps : Steps e.number s (items_of ls) (what_of (bytes_of l)) after =
      subst (Steps e.number s (items_of ls) (what_of (bytes_of l))) (sym (given_line_law c.log full s.log (n + 1) l))
      (unless e.number s (items_of ls) (what_of (bytes_of l)) (is_long l) s.log run.TooLong (after_what c.log full s.log (what_of (bytes_of l)))
      (steps_what e.number s (items_of ls) (what_of (bytes_of l)) (line_read (bytes_of l)))) in
      steps accepted next.strata first (text_of false c.log.entries es) (text_of false c.log.entries (e ∷ es)) line rest told
