-- No mark gives a stratum an entry that is dated before its horizon.
use Rattle.std.proofs.Common.{◌≡◌, ℕ, suc, ◌+◌, ◌-◌, ◌<◌, ◌≤◌, Bool, true, false, nat_lt, List, [], ◌∷◌, ◌++◌, length, refl, sym, ap, subst, inl, inr, arith}
use Rattle.std.specs.List.{AllByRecursion}
use Rattle.std.proofs.lemmas.Bool.{ltb-false}
use Rattle.crs_base.specs.Entry.{Entry}
use Rattle.crs_base.specs.Words.{IsIn}
use Rattle.crs_base.proofs.Alls.{all_append, all_each}
use Rattle.crs_base.proofs.Words.{in_append, in_filter, in_filter_back, in_from_each}
use Rattle.crs_model.specs.Hierarchy.{lag_at}
use Rattle.crs_model.specs.Order.{arrived, in_key_order, dated_before}
use Rattle.crs_model.proofs.Ties.{ordered_members}
use Rattle.crs_layers.specs.Strata.{Placed, Stratum, IsPlaced, AreNumberedFrom, IsSoundAt, Give, taken, with_given, after_mark, of_stratum, scope_in, IsMarkFrom, NoneIsLate}
use Rattle.crs_layers.proofs.Splitting.{numbered_given, taken_due, newly, newly_late, settled_split}
use Rattle.crs_layers.proofs.Given.{lags, give_due, quick}

-- the strata from j on, with their horizons
abbrev pub AreSoundFrom : {S : Type 0} → (ℕ → ℕ) → ℕ → List (Stratum S) → Type 0
AreSoundFrom h j [] = Unit {0}
AreSoundFrom h j (s ∷ ss) = IsSoundAt (h j) s × AreSoundFrom h (suc j) ss

module _ {S : Type 0} where
  pub numbered_below : (n : ℕ) (xs : List (Entry S)) → AreNumberedFrom n xs → (x : Entry S) → IsIn x xs → x.arrival < n + length xs
  numbered_below n [] h x i = absurd i
  numbered_below n (y ∷ xs) h x (inl q) = let a = h.0 in let b = ap (λ z. z.arrival) q in omega arith
  numbered_below n (y ∷ xs) h x (inr i) = let k = numbered_below (suc n) xs h.1 x i in omega arith

  -- behind a mark all have come by it
  pub sound_after : (limit h : ℕ) (s : Stratum S) (given : List (Entry S)) → AreNumberedFrom 0 s.accepted → IsSoundAt h (after_mark limit s given)
  sound_after limit h s given n =
      let all : List (Entry S) = with_given limit s.accepted given in
      let numbered : AreNumberedFrom 0 all = numbered_given limit s.accepted given n in
      record { numbered = numbered; due = λ x i l. absurd (let k = numbered_below 0 all numbered x i in omega arith) }

  -- what had come by the last mark, of what is dated before the horizon
  module _ (g : ℕ) (s : Stratum S) (sound : IsSoundAt g s) (limit : ℕ) (given : List (Entry S)) (due : AllByRecursion (λ e. g ≤ e.date) given) where
    abbrev all_now : List (Entry S)
    all_now = with_given limit s.accepted given

    had_come : (n : ℕ) (e : Entry S) → IsIn e (in_key_order (arrived n all_now)) → e.date < g → IsIn e (in_key_order (arrived s.marked s.accepted))
    had_come n e i l =
        let here = (in_filter_back (λ x. nat_lt x.arrival n) all_now e ((ordered_members (arrived n all_now)).there e i)).0 in
        elim (in_append s.accepted (taken limit (length s.accepted) given) e here) [
          | inl k ↦ old k (nat_lt e.arrival s.marked) refl
          | inr k ↦ absurd (let m = in_from_each (λ x. g ≤ x.date) (taken limit (length s.accepted) given) (taken_due g limit (length s.accepted) given due) e k in omega (arith, m, l))
        ]
      where
        old : IsIn e s.accepted → (b : Bool) → nat_lt e.arrival s.marked ≡ b → IsIn e (in_key_order (arrived s.marked s.accepted))
        old k true q = (ordered_members (arrived s.marked s.accepted)).back e (in_filter (λ x. nat_lt x.arrival s.marked) s.accepted e k q)
        old k false q = absurd (let m = sound.due e k (ltb-false e.arrival s.marked q) in omega (arith, m, l))

-- each horizon moves on, and each lies the lag of the stratum below it behind that one's
module _ {S : Type 0} (text_of : S → List ℕ) (cs : List (Placed S)) (limit : ℕ) (g h : ℕ → ℕ) (all : AllByRecursion IsPlaced cs)
    (later : (j : ℕ) → g j ≤ h j) (behind : (j : ℕ) → g (suc j) ≤ (g j - lag_at j (lags cs all cs))) where
  pub more_due : (j : ℕ) (old : Stratum S) (given more : List (Entry S)) → IsSoundAt (g j) old → AllByRecursion (λ e. g j ≤ e.date) given
      → Give text_of (of_stratum j cs) (scope_in old (g j)) (scope_in (after_mark limit old given) (h j)) more
      → AllByRecursion (λ e. g (suc j) ≤ e.date) more
  more_due j old given more sound due k =
      let t : List (Entry S) = taken limit (length old.accepted) given in
      let all_t : List (Entry S) = with_given limit old.accepted given in
      let t_due : AllByRecursion (λ e. g j ≤ e.date) t = taken_due (g j) limit (length old.accepted) given due in
      let now_numbered : AreNumberedFrom 0 all_t = numbered_given limit old.accepted given sound.numbered in
      let split = settled_split (g j) (h j) old.accepted t (later j) t_due sound.numbered now_numbered in
      let ms = newly (g j) (h j) old.accepted t (later j) t_due sound.numbered now_numbered in
      let late = newly_late (g j) (h j) old.accepted t (later j) t_due sound.numbered now_numbered in
      let lag = lag_at j (lags cs all cs) in
      let far = behind j in
      all_each {P = λ y. g j ≤ y.date + lag} more (λ y d. omega (arith, d, far))
      (give_due text_of (g j) (h j) (dated_before (g j) old.accepted) ms late (dated_before (h j) all_t) split
      (in_key_order (arrived old.marked old.accepted)) (in_key_order (arrived (length all_t) all_t))
      (λ e i l. elim (in_append (dated_before (g j) old.accepted) ms e (subst (λ (es : List (Entry S)). IsIn e es) split i)) [ inl a ↦ a | inr a ↦ (let m = late e a in absurd (omega (arith, m, l))) ])
      (had_come (g j) old sound limit given due (length all_t))
      lag (of_stratum j cs) more (quick cs all j) k)

  -- none is late, and the strata are sound behind the mark
  pub marks_due : (j : ℕ) (given : List (Entry S)) (olds news : List (Stratum S)) (givens : List (List (Entry S))) → AreSoundFrom g j olds → AllByRecursion (λ e. g j ≤ e.date) given
      → IsMarkFrom text_of cs limit g h j given olds news givens → NoneIsLate g j givens × AreSoundFrom h j news
  marks_due j given [] news givens sound due k = (subst (NoneIsLate g j) (sym k.1) tt, subst (AreSoundFrom h j) (sym k.0) tt)
  marks_due j given (old ∷ olds) news givens sound due k =
      let far = behind j in
      let rest = marks_due (suc j) (given ++ k.2) olds k.0 k.1 sound.1
      (all_append (λ e. g (suc j) ≤ e.date) given k.2
      (all_each {P = λ e. g j ≤ e.date} given (λ e d. omega (arith, d, far)) due)
      (more_due j old given k.2 sound.0 due k.5)) k.6 in (
        subst (NoneIsLate g j) (sym k.4) (due, rest.0),
        subst (AreSoundFrom h j) (sym k.3) (sound_after limit (h j) old given sound.0.numbered, rest.1),
      )
