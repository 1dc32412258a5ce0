-- What is settled in a stratum behind some lines stays so behind further ones, and what is recognised in it stays recognised.
use Rattle.std.proofs.Common.{◌≡◌, ℕ, zero, suc, ◌+◌, ◌<◌, ◌≤◌, Bool, true, false, cond, nat_lt, List, [], ◌∷◌, ◌++◌, length, map, replicate, refl, sym, ap, subst, ◌∙◌, inl, inr, arith, append_assoc, append-nil, length-append, Less, le_refl}
use Rattle.std.proofs.Common.{ltb-true, lt-ltb}
use Rattle.std.specs.List.{AllByRecursion, AllZip}
use Rattle.crs_base.specs.Entry.{entry_cmp}
use Rattle.crs_base.specs.Words.{IsIn, Ordered}
use Rattle.crs_base.proofs.KeyOrder.{entry_total, in_dates}
use Rattle.crs_base.proofs.Words.{in_append, in_append_left, in_filter, in_filter_back, ordered_filter}
use Rattle.crs_model.specs.Models.{Chronicle}
use Rattle.crs_model.specs.Matching.{Assignment}
use Rattle.crs_model.specs.Open.{before, pool_among, IsRecognised}
use Rattle.crs_model.specs.Order.{arrived, dated_before, in_key_order}
use Rattle.crs_model.proofs.Marks.{parted}
use Rattle.crs_model.proofs.Settled.{of_settled, settled_of, settled_in_order}
use Rattle.crs_model.proofs.Stays.{stays}
use Rattle.crs_model.proofs.Ties.{ordered_members}
use Rattle.crs_base.proofs.Unique.{same_members}
use Rattle.crs_log.specs.Recognitions.{IsRecognisedIn, Stays}
use Rattle.crs_log.specs.Reading.{Given}
use Rattle.crs_log.specs.Run.{Outcome, Passed, Refused, Accepted, Marked}
use Rattle.crs_layers.specs.Strata.{Placed, Stratum, IsPlaced, AreNumberedFrom, NoneIsLate, IsMarkFrom, with_logged, with_given, after_mark, taken, empty, strata_count}
use Rattle.crs_layers.specs.StrataViews.{view_in, views_from}
use Rattle.crs_layers.specs.Runs.{Setting, State, Effect, LogEntry, IsAfter, IsStep, IsRun, at_start, horizon_of, views_of}
use Rattle.crs_layers.proofs.Marking.{AreSoundFrom}
use Rattle.crs_layers.proofs.Splitting.{numbered_distinct}
use Rattle.crs_layers.specs.Laws.{WhatIsReadStays}
use Rattle.crs_layers.proofs.Stepping.{IsReached, one_step, start_reached}

-- what further lines do to a stratum, whose horizon was g and is h: entries come behind those that were accepted, none of them late, and neither the horizon nor what had come by the last mark falls
pub record FollowsAt (g h : ℕ) (s t : Stratum (List ℕ)) : Type 0 where
  pub new : List LogEntry
  pub more : t.accepted ≡ s.accepted ++ new
  pub on_time : (e : LogEntry) → IsIn e new → g ≤ e.date
  pub later : g ≤ h
  pub marked : s.marked ≤ t.marked

module _ (g h : ℕ) (s t : Stratum (List ℕ)) (numbered : AreNumberedFrom 0 s.accepted) (numbered_then : AreNumberedFrom 0 t.accepted) (f : FollowsAt g h s t) where
  settled_then : (x : LogEntry) → IsIn x (dated_before g s.accepted) → IsIn x (dated_before h t.accepted)
  settled_then x i =
      let o = of_settled entry_total g s.accepted x i in
      let later = f.later in
      let early : x.date < h = (let d = o.1 in omega (arith, d, later)) in
      settled_of entry_total h t.accepted x (subst (IsIn x) (sym f.more) (in_append_left s.accepted f.new x o.0)) early

  arrived_then : (x : LogEntry) → IsIn x (in_key_order (arrived s.marked s.accepted)) → IsIn x (in_key_order (arrived t.marked t.accepted))
  arrived_then x i =
      let k = in_filter_back (λ (e : LogEntry). nat_lt e.arrival s.marked) s.accepted x ((ordered_members (arrived s.marked s.accepted)).there x i) in
      let early = ltb-true x.arrival s.marked k.1 in
      let up = f.marked in
      (ordered_members (arrived t.marked t.accepted)).back x
      (in_filter (λ (e : LogEntry). nat_lt e.arrival t.marked) t.accepted x (subst (IsIn x) (sym f.more) (in_append_left s.accepted f.new x k.0)) (lt-ltb x.arrival t.marked (omega (arith, early, up))))

  up : Ordered (λ a b. entry_cmp a b ≡ Less) (dated_before h t.accepted)
  up = settled_in_order entry_total h t.accepted (numbered_distinct 0 t.accepted numbered_then)

  -- those dated before the horizon that was are those that were settled then
  front : before g (dated_before h t.accepted) ≡ dated_before g s.accepted
  front = same_members entry_total (before g (dated_before h t.accepted)) (dated_before g s.accepted)
      (ordered_filter (λ a b. entry_cmp a b ≡ Less) (λ e. nat_lt e.date g) (dated_before h t.accepted) up)
      (settled_in_order entry_total g s.accepted (numbered_distinct 0 s.accepted numbered))
      (λ x i.
      let k = in_filter_back (λ e. nat_lt e.date g) (dated_before h t.accepted) x i in
      let early = ltb-true x.date g k.1 in
      elim (in_append s.accepted f.new x (subst (IsIn x) f.more (of_settled entry_total h t.accepted x k.0).0)) [
        | inl old ↦ settled_of entry_total g s.accepted x old early
        | inr new ↦ (let late = f.on_time x new in absurd (omega (arith, late, early)))
      ])
      (λ x i. in_filter (λ e. nat_lt e.date g) (dated_before h t.accepted) x (settled_then x i) (lt-ltb x.date g (of_settled entry_total g s.accepted x i).1))

  pool_then : (c : Chronicle (List ℕ)) → (x : LogEntry) → IsIn x (pool_among c (dated_before g s.accepted) (in_key_order (arrived s.marked s.accepted))) → IsIn x (pool_among c (dated_before h t.accepted) (in_key_order (arrived t.marked t.accepted)))
  pool_then c x = by c.prompt
    where
      by : (b : Bool) → IsIn x (cond b (in_key_order (arrived s.marked s.accepted)) (dated_before g s.accepted)) → IsIn x (cond b (in_key_order (arrived t.marked t.accepted)) (dated_before h t.accepted))
      by true i = arrived_then x i
      by false i = settled_then x i

  recognised_then : (c : Chronicle (List ℕ)) (b : Assignment (List ℕ)) → IsRecognisedIn c (view_in s g) b → IsRecognisedIn c (view_in t h) b
  recognised_then c b r =
      let p = parted g (dated_before h t.accepted) (in_dates (dated_before h t.accepted) up) in
      let is : dated_before h t.accepted ≡ dated_before g s.accepted ++ p.0 = p.1 ∙ ap (λ (xs : List LogEntry). xs ++ p.0) front in
      subst (λ (xs : List LogEntry). IsRecognised c (pool_among c (dated_before h t.accepted) (in_key_order (arrived t.marked t.accepted))) xs h b) (sym is)
      (stays c (pool_among c (dated_before g s.accepted) (in_key_order (arrived s.marked s.accepted))) (pool_among c (dated_before h t.accepted) (in_key_order (arrived t.marked t.accepted))) (dated_before g s.accepted) p.0 g h b f.later (pool_then c) p.2 r)

  all_stay : Stays (view_in s g) (view_in t h)
  all_stay = record { settled = settled_then; recognised = recognised_then }

-- ---- all strata

-- how each stratum from j on follows
abbrev FollowFrom : (ℕ → ℕ) → (ℕ → ℕ) → ℕ → List (Stratum (List ℕ)) → List (Stratum (List ℕ)) → Type 0
FollowFrom g h j [] [] = Unit {0}
FollowFrom g h j [] (t ∷ ts) = ⊥
FollowFrom g h j (s ∷ ss) [] = ⊥
FollowFrom g h j (s ∷ ss) (t ∷ ts) = FollowsAt (g j) (h j) s t × FollowFrom g h (suc j) ss ts

-- no more had come by the last mark than were accepted
abbrev AreCountedAll : List (Stratum (List ℕ)) → Type 0
AreCountedAll ss = AllByRecursion (λ s. s.marked ≤ length s.accepted) ss

itself : (g h : ℕ → ℕ) → ((i : ℕ) → g i ≤ h i) → (j : ℕ) (ss : List (Stratum (List ℕ))) → FollowFrom g h j ss ss
itself g h rise j [] = tt
itself g h rise j (s ∷ ss) =
    (record { new = []; more = sym (append-nil s.accepted); on_time = λ e i. absurd i; later = rise j; marked = le_refl s.marked }, itself g h rise (suc j) ss)

follows_on : (f g h : ℕ → ℕ) (j : ℕ) (ss ts us : List (Stratum (List ℕ))) → FollowFrom f g j ss ts → FollowFrom g h j ts us → FollowFrom f h j ss us
follows_on f g h j [] [] [] a b = tt
follows_on f g h j [] [] (u ∷ us) a b = absurd b
follows_on f g h j [] (t ∷ ts) us a b = absurd a
follows_on f g h j (s ∷ ss) [] us a b = absurd a
follows_on f g h j (s ∷ ss) (t ∷ ts) [] a b = absurd b
follows_on f g h j (s ∷ ss) (t ∷ ts) (u ∷ us) a b = (
  record {
    new = a.0.new ++ b.0.new;
    more = b.0.more ∙ ap (λ (xs : List LogEntry). xs ++ b.0.new) a.0.more ∙ append_assoc s.accepted a.0.new b.0.new;
    on_time = λ e i. elim (in_append a.0.new b.0.new e i) [ inl k ↦ a.0.on_time e k | inr k ↦ (let l = b.0.on_time e k in let m = a.0.later in omega (arith, l, m)) ];
    later = let l = a.0.later in let m = b.0.later in omega (arith, l, m);
    marked = let l = a.0.marked in let m = b.0.marked in omega (arith, l, m);
  },
  follows_on f g h (suc j) ss ts us a.1 b.1,
)

logged : (g h : ℕ → ℕ) → ((i : ℕ) → g i ≤ h i) → (j : ℕ) (e : LogEntry) → ((i : ℕ) → g i ≤ e.date) → (ss : List (Stratum (List ℕ))) → FollowFrom g h j ss (map (with_logged e) ss)
logged g h rise j e due [] = tt
logged g h rise j e due (s ∷ ss) = (
  record {
    new = record e { arrival = length s.accepted } ∷ [];
    more = refl;
    on_time = λ x i. elim i [ inl q ↦ subst (λ (y : LogEntry). g j ≤ y.date) (sym q) (due j) | inr never ↦ absurd never ];
    later = rise j;
    marked = le_refl s.marked;
  },
  logged g h rise (suc j) e due ss,
)

taken_due : (limit n g : ℕ) (xs : List LogEntry) → AllByRecursion (λ e. g ≤ e.date) xs → (e : LogEntry) → IsIn e (taken limit n xs) → g ≤ e.date
taken_due limit n g [] h e i = absurd i
taken_due limit n g (x ∷ xs) h e i = by (nat_lt n limit) (taken_due limit (n + 1) g xs h.1 e) i
  where
    by : (b : Bool) → (IsIn e (taken limit (n + 1) xs) → g ≤ e.date) → IsIn e (cond b (record x { arrival = n } ∷ taken limit (n + 1) xs) []) → g ≤ e.date
    by true rest (inl q) = let d = h.0 in subst (λ (y : LogEntry). g ≤ y.date) (sym q) d
    by true rest (inr i) = rest i
    by false rest i = absurd i

given_follow : (text_of : List ℕ → List ℕ) (cs : List (Placed (List ℕ))) (limit : ℕ) (g h : ℕ → ℕ) → ((i : ℕ) → g i ≤ h i) → (j : ℕ) (given : List LogEntry) (olds news : List (Stratum (List ℕ))) (all : List (List LogEntry))
    → AreCountedAll olds → NoneIsLate g j all → IsMarkFrom text_of cs limit g h j given olds news all → FollowFrom g h j olds news
given_follow text_of cs limit g h up j given [] news all counted due m = subst (FollowFrom g h j []) (sym m.0) tt
given_follow text_of cs limit g h up j given (old ∷ olds) news all counted due m =
    let dues = subst (NoneIsLate g j) m.4 due in
    let few = counted.0 in
    let here : FollowsAt (g j) (h j) old (after_mark limit old given) = record {
      new = taken limit (length old.accepted) given;
      more = refl;
      on_time = taken_due limit (length old.accepted) (g j) given dues.0;
      later = up j;
      marked = omega (arith, few, length-append old.accepted (taken limit (length old.accepted) given));
    } in
    subst (FollowFrom g h j (old ∷ olds)) (sym m.3) (here, given_follow text_of cs limit g h up (suc j) (given ++ m.2) olds m.0 m.1 counted.1 dues.1 m.6)

counted_then : (text_of : List ℕ → List ℕ) (cs : List (Placed (List ℕ))) (limit : ℕ) (g h : ℕ → ℕ) (j : ℕ) (given : List LogEntry) (olds news : List (Stratum (List ℕ))) (all : List (List LogEntry))
    → IsMarkFrom text_of cs limit g h j given olds news all → AreCountedAll news
counted_then text_of cs limit g h j given [] news all m = subst AreCountedAll (sym m.0) tt
counted_then text_of cs limit g h j given (old ∷ olds) news all m =
    subst AreCountedAll (sym m.3) (le_refl (length (with_given limit old.accepted given)), counted_then text_of cs limit g h (suc j) (given ++ m.2) olds m.0 m.1 m.6)

counted_more : (e : LogEntry) (ss : List (Stratum (List ℕ))) → AreCountedAll ss → AreCountedAll (map (with_logged e) ss)
counted_more e [] h = tt
counted_more e (s ∷ ss) h = let few = h.0 in (omega (arith, few, length-append s.accepted (record e { arrival = length s.accepted } ∷ [])), counted_more e ss h.1)

views_stay : (g h : ℕ → ℕ) (j : ℕ) (ss ts : List (Stratum (List ℕ))) → AreSoundFrom g j ss → AreSoundFrom h j ts → FollowFrom g h j ss ts → AllZip Stays (views_from g j ss) (views_from h j ts)
views_stay g h j [] [] a b f = tt
views_stay g h j [] (t ∷ ts) a b f = absurd f
views_stay g h j (s ∷ ss) [] a b f = absurd f
views_stay g h j (s ∷ ss) (t ∷ ts) a b f = (all_stay (g j) (h j) s t a.0.numbered b.0.numbered f.0, views_stay g h (suc j) ss ts a.1 b.1 f.1)

-- ---- lines

module _ (c : Setting) (placed : AllByRecursion IsPlaced c.placed) where
  -- what a line does to the strata
  step_follows : (s : State) (line : Given) (e : Effect) (t : State) → IsReached c s → AreCountedAll s.strata → IsStep c s line e t
      → IsReached c t × AreCountedAll t.strata × FollowFrom (horizon_of c s.log) (horizon_of c t.log) 0 s.strata t.strata
  step_follows s line e t r counted k =
      let fine = one_step c placed s line e t r k in
      let by = by_outcome e.outcome e.given fine.due fine.rise fine.logged k.strata in
      (fine.reached, by.0, by.1)
    where
      by_outcome : (o : Outcome) (given : List (List LogEntry)) → NoneIsLate (horizon_of c s.log) 0 given → ((j : ℕ) → horizon_of c s.log j ≤ horizon_of c t.log j)
          → ((x : LogEntry) → o ≡ Accepted x → (j : ℕ) → horizon_of c s.log j ≤ x.date) → IsAfter c s t.log o t.strata given
          → AreCountedAll t.strata × FollowFrom (horizon_of c s.log) (horizon_of c t.log) 0 s.strata t.strata
      by_outcome Passed given due up low h = (
        subst AreCountedAll (sym h.0) counted,
        subst (FollowFrom (horizon_of c s.log) (horizon_of c t.log) 0 s.strata) (sym h.0) (itself (horizon_of c s.log) (horizon_of c t.log) up 0 s.strata),
      )
      by_outcome (Refused x) given due up low h = (
        subst AreCountedAll (sym h.0) counted,
        subst (FollowFrom (horizon_of c s.log) (horizon_of c t.log) 0 s.strata) (sym h.0) (itself (horizon_of c s.log) (horizon_of c t.log) up 0 s.strata),
      )
      by_outcome (Accepted x) given due up low h = (
        subst AreCountedAll (sym h.0) (counted_more x s.strata counted),
        subst (FollowFrom (horizon_of c s.log) (horizon_of c t.log) 0 s.strata) (sym h.0) (logged (horizon_of c s.log) (horizon_of c t.log) up 0 x (low x refl) s.strata),
      )
      by_outcome (Marked m) given due up low h = (
        counted_then (λ x. x) c.placed c.log.entries (horizon_of c s.log) (horizon_of c t.log) 0 [] s.strata t.strata given h,
        given_follow (λ x. x) c.placed c.log.entries (horizon_of c s.log) (horizon_of c t.log) up 0 [] s.strata t.strata given counted due h,
      )

  pub run_follows : (s : State) (lines : List Given) (effects : List Effect) (t : State) → IsReached c s → AreCountedAll s.strata → IsRun c s lines effects t
      → IsReached c t × AreCountedAll t.strata × FollowFrom (horizon_of c s.log) (horizon_of c t.log) 0 s.strata t.strata
  run_follows s [] [] t r counted k =
      subst (λ (u : State). IsReached c u × AreCountedAll u.strata × FollowFrom (horizon_of c s.log) (horizon_of c u.log) 0 s.strata u.strata) k
      (r, counted, itself (horizon_of c s.log) (horizon_of c s.log) (λ i. le_refl (horizon_of c s.log i)) 0 s.strata)
  run_follows s [] (e ∷ es) t r counted k = absurd k
  run_follows s (l ∷ ls) [] t r counted k = absurd k
  run_follows s (l ∷ ls) (e ∷ es) t r counted k =
      let one = step_follows s l e k.0 r counted k.1 in
      let rest = run_follows k.0 ls es t one.0 one.1 k.2 in
      (rest.0, rest.1, follows_on (horizon_of c s.log) (horizon_of c k.0.log) (horizon_of c t.log) 0 s.strata k.0.strata t.strata one.2 rest.2)

  -- what was read of each stratum stays
  pub run_stays : (s : State) (lines : List Given) (effects : List Effect) (t : State) → IsReached c s → AreCountedAll s.strata → IsRun c s lines effects t → AllZip Stays (views_of c s) (views_of c t)
  run_stays s lines effects t r counted k =
      let f = run_follows s lines effects t r counted k in
      views_stay (horizon_of c s.log) (horizon_of c t.log) 0 s.strata t.strata r.sound f.0.sound f.2

none_counted : (n : ℕ) → AreCountedAll (replicate n empty)
none_counted zero = tt
none_counted (suc n) = (le_refl 0, none_counted n)

pub what_is_read_stays : WhatIsReadStays
what_is_read_stays c texts lines effects s further later t placed first rest =
    let reached = run_follows c placed (at_start c texts) lines effects s (start_reached c texts) (none_counted (strata_count (map (λ p. p.stratum) c.placed))) first in
    run_stays c placed s further later t reached.0 reached.1 rest
