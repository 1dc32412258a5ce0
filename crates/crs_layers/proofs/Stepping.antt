-- What a line does to the strata, and that no line gives them an entry that is late.
use Rattle.std.proofs.Common.{◌≡◌, ℕ, zero, suc, ◌+◌, ◌-◌, ◌<◌, ◌≤◌, Bool, true, false, nat_lt, nat_le, cond, List, [], ◌∷◌, length, map, replicate, refl, sym, ap, subst, ◌∙◌, inl, inr, arith, le_refl}
use Rattle.std.specs.List.{AllByRecursion}
use Rattle.std.proofs.lemmas.Bool.{ltb-false}
use Rattle.crs_base.specs.Entry.{Entry}
use Rattle.crs_base.proofs.Alls.{all_each}
use Rattle.crs_base.proofs.Words.{in_append}
use Rattle.crs_model.specs.Hierarchy.{lag_at}
use Rattle.crs_model.specs.declared.recognition.Mark.TheVariants.{Clock as AtClock}
use Rattle.crs_log.specs.ItemOf.{What, Empty, Is, Faulty, what_of}
use Rattle.crs_log.specs.Items.{Item, Delay, Clock, Finish, Happens, Event}
use Rattle.crs_log.specs.Known.{Verdict, Other, Named, BadArity, BadValue, known_of, entry_of_event, texts_of, new_texts}
use Rattle.crs_log.specs.Reading.{Given, Plain, Long}
use Rattle.crs_log.specs.Run as run
use Rattle.crs_log.specs.Run.{Outcome, Passed, Refused, Accepted, Marked, with_entry, end_date, horizon_at}
use Rattle.crs_log.proofs.Staying.{clock_read}
use Rattle.crs_layers.specs.Strata.{Stratum, empty, with_logged, strata_count, IsPlaced, IsSoundAt, horizon_behind, behind, NoneIsLate}
use Rattle.crs_layers.specs.Runs.{Setting, State, Effect, LogEntry, at_start, is_full, after_verdict, after_ordered, after_what, after_line, horizon_of, IsAfter, IsStep, IsRun}
use Rattle.crs_layers.specs.Laws.{NoGivenEntryIsLate}
use Rattle.crs_layers.proofs.Given.{lags}
use Rattle.crs_layers.proofs.Splitting.{numbered_append}
use Rattle.crs_layers.proofs.Marking.{AreSoundFrom, marks_due}

-- the horizon and the end stay
pub record Stays (s t : run.State) : Type 0 where
  pub horizon : t.horizon ≡ s.horizon
  pub ended : t.ended ≡ s.ended

-- the horizon moves on to one that isn't above that of the end, which it is at the end
pub record Moves (s t : run.State) : Type 0 where
  pub open_was : s.ended ≡ false
  pub later : s.horizon ≤ t.horizon
  pub within : t.horizon ≤ end_date
  pub end : t.ended ≡ true → t.horizon ≡ end_date

-- what becomes of the horizon at a line
abbrev pub Fate : run.State → run.State × Outcome → Type 0
Fate s (t, Passed) = Stays s t
Fate s (t, Refused f) = Stays s t
Fate s (t, Accepted e) = Stays s t × (s.ended ≡ false) × (s.horizon ≤ e.date)
Fate s (t, Marked m) = Moves s t

module _ (c : run.Setting) (full : Bool) (s : run.State) (within : s.horizon ≤ end_date) where
  stays : Stays s s
  stays = record { horizon = refl; ended = refl }

  by_room : (open_was : s.ended ≡ false) (e : Event) → s.horizon ≤ e.date → Fate s (run.after_named c s e)
  by_room o e date = by (nat_lt (length s.accepted) c.entries) (nat_le (length s.texts + length (new_texts s.texts (texts_of e))) c.symbols)
    where
      by : (a b : Bool) → Fate s (cond {A = run.State × Outcome} a (cond b (with_entry s (entry_of_event (length s.accepted) e) e, Accepted (entry_of_event (length s.accepted) e)) (s, Refused (run.Values c.symbols))) (s, Refused (run.Full c.entries)))
      by true true = (record { horizon = refl; ended = refl }, o, date)
      by true false = stays
      by false b = stays

  by_fullness : (open_was : s.ended ≡ false) (e : Event) → s.horizon ≤ e.date → (b : Bool) → Fate s (cond {A = run.State × Outcome} b (s, Refused (run.Full c.entries)) (run.after_named c s e))
  by_fullness o e date true = stays
  by_fullness o e date false = by_room o e date

  by_verdict : (open_was : s.ended ≡ false) (e : Event) → s.horizon ≤ e.date → (v : Verdict) → Fate s (after_verdict c full s e v)
  by_verdict o e date Other = stays
  by_verdict o e date BadArity = stays
  by_verdict o e date BadValue = stays
  by_verdict o e date (Named place) = by_fullness o e date full

  by_order : (open_was : s.ended ≡ false) (item : Item) → ((t : ℕ) → item ≡ Clock t → t < end_date) → Fate s (after_ordered c full s item)
  by_order o (Delay d) small = record { horizon = refl; ended = refl }
  by_order o (Clock t) small = by (nat_lt t s.last)
    where
      by : (b : Bool) → Fate s (cond {A = run.State × Outcome} b (s, Refused (run.Back t s.last)) (record s { last = t; horizon = horizon_at s.delay s.horizon t; marked = length s.accepted }, Marked (AtClock t)))
      by true = stays
      by false = let l = small t refl in record { open_was = o; later = omega arith; within = omega (arith, l, within); end = λ e. absurd (let q = sym o ∙ e in cc) }
  by_order o Finish small = record { open_was = o; later = within; within = omega arith; end = λ e. refl }
  by_order o (Happens e) small = by (nat_lt e.date s.horizon) refl
    where
      by : (b : Bool) → nat_lt e.date s.horizon ≡ b → Fate s (cond {A = run.State × Outcome} b (s, Refused (run.Late e.date s.horizon)) (after_verdict c full s e (known_of c.names e)))
      by true q = stays
      by false q = by_verdict o e (ltb-false e.date s.horizon q) (known_of c.names e)

  by_what : (w : What) → ((t : ℕ) → w ≡ Is (Clock t) → t < end_date) → Fate s (after_what c full s w)
  by_what Empty small = stays
  by_what Faulty small = stays
  by_what (Is item) small = by s.ended refl
    where
      by : (b : Bool) → s.ended ≡ b → Fate s (cond {A = run.State × Outcome} b (s, Refused run.Order) (after_ordered c full s item))
      by true q = stays
      by false q = by_order q item (λ t e. small t (ap Is e))

  by_line : (g : Given) → Fate s (after_line c full s g)
  by_line (Long n) = stays
  by_line (Plain n bytes) = by_what (what_of bytes) (λ t e. let l = clock_read bytes t e in omega (arith, l))

-- each stratum's horizon isn't later than it was
abbrev Rise : Setting → run.State → run.State → Type 0
Rise c s t = (j : ℕ) → horizon_of c s j ≤ horizon_of c t j

-- what holds of each state that a run reaches
pub record IsReached (c : Setting) (s : State) : Type 0 where
  pub sound : AreSoundFrom (horizon_of c s.log) 0 s.strata
  pub within : s.log.horizon ≤ end_date

-- the state behind a line that has this outcome, and that nothing that it gives or logs is late
pub record IsFine (c : Setting) (s : State) (o : Outcome) (given : List (List LogEntry)) (t : State) : Type 0 where
  pub reached : IsReached c t
  pub due : NoneIsLate (horizon_of c s.log) 0 given
  pub rise : Rise c s.log t.log
  pub logged : (e : LogEntry) → o ≡ Accepted e → (j : ℕ) → horizon_of c s.log j ≤ e.date

sound_at : {S : Type 0} (g h : ℕ → ℕ) → ((j : ℕ) → g j ≡ h j) → (j : ℕ) (ss : List (Stratum S)) → AreSoundFrom g j ss → AreSoundFrom h j ss
sound_at g h e j [] k = tt
sound_at g h e j (s ∷ ss) k = (subst (λ (n : ℕ). IsSoundAt n s) (e j) k.0, sound_at g h e (suc j) ss k.1)

-- a logged entry, which isn't dated before any horizon
logged_sound : {S : Type 0} (h : ℕ → ℕ) (x : Entry S) → ((j : ℕ) → h j ≤ x.date) → (j : ℕ) (ss : List (Stratum S)) → AreSoundFrom h j ss → AreSoundFrom h j (map (with_logged x) ss)
logged_sound h x l j [] k = tt
logged_sound h x l j (s ∷ ss) k = (
  record {
    numbered = numbered_append 0 s.accepted (record x { arrival = length s.accepted } ∷ []) k.0.numbered (omega arith, tt);
    due = λ y i m. elim (in_append s.accepted (record x { arrival = length s.accepted } ∷ []) y i) [
      | inl o ↦ k.0.due y o m
      | inr n ↦ elim n [ inl q ↦ subst (λ z. h j ≤ z.date) (sym q) (l j) | inr never ↦ absurd never ]
    ];
  },
  logged_sound h x l (suc j) ss k.1,
)

module _ (c : Setting) (all : AllByRecursion IsPlaced c.placed) where
  same_horizon : (s t : run.State) → Stays s t → (j : ℕ) → horizon_of c s j ≡ horizon_of c t j
  same_horizon s t k j = λ i. horizon_behind (sym k.ended i) (sym k.horizon i) (behind c.placed j)

  low : (b : Bool) (h d n : ℕ) → b ≡ false → h ≤ d → horizon_behind b h n ≤ d
  low true h d n e l = absurd cc
  low false h d n e l = omega arith

  moved_on : (s t : run.State) → Moves s t → Rise c s t
  moved_on s t k j = by s.ended t.ended k.open_was k.end
    where
      by : (a b : Bool) → a ≡ false → (b ≡ true → t.horizon ≡ end_date) → horizon_behind a s.horizon (behind c.placed j) ≤ horizon_behind b t.horizon (behind c.placed j)
      by true b p q = absurd cc
      by false true p q = let l = k.later in let w = k.within in omega (arith, l, w)
      by false false p q = let l = k.later in omega (arith, l)

  lag_behind : (s : run.State) → s.ended ≡ false → (j : ℕ) → horizon_of c s (suc j) ≤ (horizon_of c s j - lag_at j (lags c.placed all c.placed))
  lag_behind s e j = by s.ended e
    where
      by : (b : Bool) → b ≡ false → horizon_behind b s.horizon (behind c.placed (suc j)) ≤ (horizon_behind b s.horizon (behind c.placed j) - lag_at j (lags c.placed all c.placed))
      by true p = absurd cc
      by false p = omega arith

  module _ (s t : State) (r : IsReached c s) where
    idle : Stays s.log t.log → (o : Outcome) (given : List (List LogEntry)) → ((e : LogEntry) → o ≡ Accepted e → ⊥) → t.strata ≡ s.strata → given ≡ [] → IsFine c s o given t
    idle k o given never strata none =
        let same = same_horizon s.log t.log k in
        record {
          reached = record {
            sound = subst (AreSoundFrom (horizon_of c t.log) 0) (sym strata) (sound_at (horizon_of c s.log) (horizon_of c t.log) same 0 s.strata r.sound);
            within = let w = r.within in let q = k.horizon in omega (arith, w, q);
          };
          due = subst (NoneIsLate (horizon_of c s.log) 0) (sym none) tt;
          rise = λ j. let q = same j in omega (arith, q);
          logged = λ e q. absurd (never e q);
        }

    by_outcome : (o : Outcome) (given : List (List LogEntry)) → Fate s.log (t.log, o) → IsAfter c s t.log o t.strata given → IsFine c s o given t
    by_outcome Passed given f k = idle f Passed given (λ e q. cc) k.0 k.1
    by_outcome (Refused x) given f k = idle f (Refused x) given (λ e q. cc) k.0 k.1
    by_outcome (Accepted x) given f k =
        let same = same_horizon s.log t.log f.0 in
        let date = f.2 in
        record {
          reached = record {
            sound = subst (AreSoundFrom (horizon_of c t.log) 0) (sym k.0)
                (sound_at (horizon_of c s.log) (horizon_of c t.log) same 0 (map (with_logged x) s.strata)
                (logged_sound (horizon_of c s.log) x (λ j. low s.log.ended s.log.horizon x.date (behind c.placed j) f.1 date) 0 s.strata r.sound));
            within = let w = r.within in let q = f.0.horizon in omega (arith, w, q);
          };
          due = subst (NoneIsLate (horizon_of c s.log) 0) (sym k.1) tt;
          rise = λ j. let q = same j in omega (arith, q);
          logged = λ e q j. let one : x ≡ e = cc in subst (λ (y : LogEntry). horizon_of c s.log j ≤ y.date) one (low s.log.ended s.log.horizon x.date (behind c.placed j) f.1 date);
        }
    by_outcome (Marked m) given f k =
        let up = moved_on s.log t.log f in
        let d = marks_due (λ x. x) c.placed c.log.entries (horizon_of c s.log) (horizon_of c t.log) all up (lag_behind s.log f.open_was) 0 [] s.strata t.strata given r.sound tt k in
        record { reached = record { sound = d.1; within = f.within }; due = d.0; rise = up; logged = λ e q. absurd (cc) }

  pub one_step : (s : State) (line : Given) (e : Effect) (t : State) → IsReached c s → IsStep c s line e t → IsFine c s e.outcome e.given t
  one_step s line e t r k =
      by_outcome s t r e.outcome e.given (subst (Fate s.log) k.log (by_line c.log (is_full c.log.entries s.strata) s.log r.within line)) k.strata

  pub run_reached : (s : State) (lines : List Given) (effects : List Effect) (t : State) → IsReached c s → IsRun c s lines effects t → IsReached c t
  run_reached s [] [] t r k = subst (IsReached c) k r
  run_reached s [] (e ∷ es) t r k = absurd k
  run_reached s (l ∷ ls) [] t r k = absurd k
  run_reached s (l ∷ ls) (e ∷ es) t r k = run_reached k.0 ls es t (one_step s l e k.0 r k.1).reached k.2

  lower : (g h : ℕ → ℕ) → ((j : ℕ) → g j ≤ h j) → (j : ℕ) (given : List (List LogEntry)) → NoneIsLate h j given → NoneIsLate g j given
  lower g h l j [] k = tt
  lower g h l j (x ∷ xs) k = (all_each {P = λ e. h j ≤ e.date} x (λ e m. let d = l j in omega (arith, m, d)) k.0, lower g h l (suc j) xs k.1)

  further_due : (g : ℕ → ℕ) (s : State) (lines : List Given) (effects : List Effect) (t : State) → ((j : ℕ) → g j ≤ horizon_of c s.log j) → IsReached c s → IsRun c s lines effects t
      → AllByRecursion (λ e. NoneIsLate g 0 e.given) effects
  further_due g s [] [] t l r k = tt
  further_due g s [] (e ∷ es) t l r k = absurd k
  further_due g s (x ∷ xs) [] t l r k = absurd k
  further_due g s (x ∷ xs) (e ∷ es) t l r k =
      let one = one_step s x e k.0 r k.1 in (
        lower g (horizon_of c s.log) l 0 e.given one.due,
        further_due g k.0 xs es t (λ j. let a = l j in let b = one.rise j in omega (arith, a, b)) one.reached k.2,
      )

empty_sound : (h : ℕ → ℕ) (j n : ℕ) → AreSoundFrom {S = List ℕ} h j (replicate n empty)
empty_sound h j zero = tt
empty_sound h j (suc n) = (record { numbered = tt; due = λ x i l. absurd i }, empty_sound h (suc j) n)

pub start_reached : (c : Setting) (texts : List (List ℕ)) → IsReached c (at_start c texts)
start_reached c texts = record { sound = empty_sound (horizon_of c (run.at_start texts)) 0 (strata_count (map (λ p. p.stratum) c.placed)); within = omega arith }

pub none_is_late : NoGivenEntryIsLate
none_is_late c texts lines effects s further later t all first rest =
    further_due c all (horizon_of c s.log) s further later t (λ j. le_refl (horizon_of c s.log j)) (run_reached c all (at_start c texts) lines effects s (start_reached c texts) first) rest
