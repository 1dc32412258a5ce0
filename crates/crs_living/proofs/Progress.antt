-- The progress of one window of an instance.
use Rattle.std.proofs.Common.{◌≡◌, ℕ, zero, suc, ◌≤◌, ◌<◌, ◌-◌, ◌^◌, List, [], ◌∷◌, ◌++◌, length, map, refl, sym, ap, subst, ◌∙◌, arith, inl, inr, length-append, Bool, true}
use Rattle.std.specs.Prelude.{ℤ, pos, ◌≤ℤ◌, Option, Some, None, is_some, IfSome, slice_get}
use Rattle.std.proofs.lemmas.Bool.{cases_lt}
use Rattle.std.proofs.lemmas.List.{length-map}
use Rattle.std.proofs.lemmas.Int.{ints}
use Rattle.crs_base.specs.declared.symbols.Sym.{Sym}
use Rattle.crs_base.specs.Entry.{Entry}
use Rattle.crs_base.proofs.Words.{in_from_each}
use Rattle.crs_history.specs.Histories.{HistoryState, StandsFor}
use Rattle.crs_model.specs.declared.plan.Plan.{Plan}
use Rattle.crs_model.specs.declared.progress.Progress.{Progress}
use Rattle.crs_model.specs.declared.progress.Stretch.{Stretch}
use Rattle.crs_model.specs.Models.{Window, Body, NoEvent, Occurs, Hold}
use Rattle.crs_model.specs.Matching.{Binding}
use Rattle.crs_model.specs.Bindings.{look_of}
use Rattle.crs_model.specs.Partial.{Partial}
use Rattle.crs_model.specs.Plans.{chronicle, IsProper}
use Rattle.crs_model.specs.Ready.{HoldsOne}
use Rattle.crs_model.specs.Verdicts.{Count, IsStretch, BodyIsBound}
use Rattle.crs_model.specs.HasProgress.{IsCounted, IsProgress, IsMetBy, IsLostBy}
use Rattle.crs_model.specs.SeenModels.{window_of}
use Rattle.crs_model.specs.declared.chronicle.Window.{Window as CodeWindow}
use Rattle.crs_model.specs.declared.progress.Verdict.{Verdict}
use Rattle.crs_model.specs.declared.progress.Verdict.TheVariants.{Met, Lost, Waiting}
use Rattle.crs_base.specs.Sifted.{Sifts}
use Rattle.crs_watch.specs.Judged.{HangsOnNoDate, IsToldBy}
use Rattle.crs_model.proofs.Holding.{windows_hold}
use Rattle.crs_model.proofs.Options.{of_some, some_if}
use Rattle.crs_model.proofs.Opened.{in_place, same_stretch}
use Rattle.crs_model.proofs.Progressing.{progress_up}
use Rattle.crs_instance.specs.Instances.{InstanceState, IsOf, progress_at}
use Rattle.crs_instance.specs.Followed.{IsStretchAt}
use Rattle.crs_living.specs.Windows.{HasAt, Settles, Passes, Begins, IsSameInstance, IsFollowed, IsPassed, IsBegun}
use Rattle.crs_living.specs.JudgedWindows.{AreStepped, IsJudged, IsNotLostWith}

count_most : {A : Type 0} (P : A → Type 0) (xs : List A) (n : ℕ) → Count P xs n → n ≤ length xs
count_most P [] n h = omega (arith, h)
count_most P (x ∷ xs) n (inl h) = let l = count_most P xs h.1 h.3 in let e = h.2 in omega arith
count_most P (x ∷ xs) n (inr h) = let l = count_most P xs n h.1 in omega arith

counted_most : {S : Type 0} (entries : List (Entry S)) (look : Binding S) (body : Body S) (from to : ℤ) (n : ℕ) → IsCounted entries look body from to n → n ≤ length entries
counted_most entries look (NoEvent p) from to n (inl h) = count_most _ entries n h
counted_most entries look (NoEvent p) from to n (inr e) = let l = count_most _ entries e.1.0 e.1.1 in let m = e.1.2 in omega arith
counted_most entries look (Occurs least most p) from to n (inl h) = count_most _ entries n h
counted_most entries look (Occurs least most p) from to n (inr e) = let l = count_most _ entries e.1.0 e.1.1 in let m = e.1.2 in omega arith
counted_most entries look (Hold name terms value) from to n h = omega (arith, h)

short : {A : Type 0} (P : A → Type 0) (xs ys : List A) → Sifts P xs ys → length ys ≤ length xs
short P [] ys h = let e = ap length h in omega arith
short P (x ∷ xs) ys (inl h) = let l = short P xs h.1 h.3 in let e = ap length h.2 in omega arith
short P (x ∷ xs) ys (inr h) = let l = short P xs ys h.1 in omega arith

-- a history has no more than it stands for
pub history_short : (history : HistoryState) (settled : List (Entry Sym)) → StandsFor settled history → length settled < 2 ^ 32 → length history.entries < 2 ^ 32
history_short history settled h few = let l = short _ settled history.entries h in omega arith

module _ (plan : Plan) (k : ℕ) (w : Window Sym) (is : slice_get (chronicle plan).windows k ≡ Some w) where
  -- what holds of the window of this number
  pub at_place : (P : Window Sym → Type 0) → P w → IfSome (slice_get (chronicle plan).windows k) P
  at_place P h = some_if (slice_get (chronicle plan).windows k) P (λ v e. subst P (one (sym is ∙ e)) h)
    where
      one : {x y : Window Sym} → Some x ≡ Some y → x ≡ y
      one e = cc

  pub holds_one : IsProper plan → HoldsOne w.body
  holds_one proper = in_from_each (λ w. HoldsOne w.body) (chronicle plan).windows (windows_hold plan proper) w (in_place (chronicle plan).windows k w is)

  module _ (a : Partial Sym) (b : List (Option Sym)) (from to : ℤ) (stretch : IsStretch a w from to) (bound : BodyIsBound (look_of b) w.body) where
    -- its progress, told for its stretch
    pub has_by : (entries : List (Entry Sym)) (d : ℕ) (p : Progress) → IsProgress entries (look_of b) w.body from to (pos d) p.count p.broken → HasAt plan a b entries d k p
    has_by entries d p h = at_place (λ w. (from to : ℤ) → IsStretch a w from to → BodyIsBound (look_of b) w.body → IsProgress entries (look_of b) w.body from to (pos d) p.count p.broken) (λ start end s u.
        let e = same_stretch a a w from to start end (λ f x j. j) stretch s in
        subst (λ (z : ℤ). IsProgress entries (look_of b) w.body start z (pos d) p.count p.broken) e.1
        (subst (λ (z : ℤ). IsProgress entries (look_of b) w.body z to (pos d) p.count p.broken) e.0 h))

    pub has_of : (entries : List (Entry Sym)) (d : ℕ) (p : Progress) → HasAt plan a b entries d k p → IsProgress entries (look_of b) w.body from to (pos d) p.count p.broken
    has_of entries d p h = of_some (slice_get (chronicle plan).windows k) w _ is h from to stretch bound

  module _ (i : InstanceState) where
    pub stretch_of : (s : Stretch) (o : Option Stretch) → o ≡ Some s → IsStretchAt plan i k o → IsStretch i.partial w s.from s.to × BodyIsBound (look_of i.binding) w.body
    stretch_of s o e h = of_some (slice_get (chronicle plan).windows k) w _ is (subst (IsStretchAt plan i k) e h)

    pub bound_of : (s : Stretch) (o : Option Stretch) → o ≡ Some s → IsStretchAt plan i k o → (b : List (Option Sym)) → b ≡ i.binding → BodyIsBound (look_of b) w.body
    bound_of s o e h b q = subst (λ (t : List (Option Sym)). BodyIsBound (look_of t) w.body) (sym q) (stretch_of s o e h).1

  -- the window has begun: it settles, or passes, as its body's progress does
  module _ (i : InstanceState) (s : Stretch) (o : Option Stretch) (e : o ≡ Some s) (h : IsStretchAt plan i k o) (b : List (Option Sym)) (sb : b ≡ i.binding) (p q : Progress) where
    module _ (x : Entry Sym) where
      settled_seen : ((settled : List (Entry Sym)) (d : ℕ) → p.count < 2 ^ 32 - 1 → d ≤ x.date → IsProgress settled (look_of b) w.body s.from s.to (pos d) p.count p.broken → IsProgress (settled ++ x ∷ []) (look_of b) w.body s.from s.to (pos d) q.count q.broken)
          → p.count ≤ q.count → Settles plan x i.partial b k p q
      settled_seen f more = (
        λ entries d late few has.
            let at = stretch_of i s o e h in
            let bound = bound_of i s o e h b sb in
            let old = has_of i.partial b s.from s.to at.0 bound entries d p has in
            let m = counted_most entries (look_of b) w.body s.from s.to p.count old.counted in
            has_by i.partial b s.from s.to at.0 bound (entries ++ x ∷ []) d q (f entries d (omega arith) late old),
        more,
      )

      pub settled_by : ((settled : List (Entry Sym)) (d : ℕ) → p.count < 2 ^ 32 - 1 → d ≤ x.date → IsProgress settled (look_of b) w.body s.from s.to (pos d) p.count p.broken → IsProgress (settled ++ x ∷ []) (look_of b) w.body s.from s.to (pos d) q.count q.broken)
          → p ≡ progress_at i.progress k → p.count ≤ q.count → Settles plan x i.partial i.binding k (progress_at i.progress k) q
      settled_by f sp more = subst (λ (t : Progress). Settles plan x i.partial i.binding k t q) sp (subst (λ (t : List (Option Sym)). Settles plan x i.partial t k p q) sb (settled_seen f more))

    module _ (history : HistoryState) (since n : ℕ) where
      passed_seen : ((settled : List (Entry Sym)) → (pos since ≤ℤ s.from → history.floor ≤ℤ s.from) → since ≤ n → StandsFor settled history → IsProgress settled (look_of b) w.body s.from s.to (pos since) p.count p.broken → IsProgress settled (look_of b) w.body s.from s.to (pos n) q.count q.broken)
          → p.count ≤ q.count → Passes plan history since n i.partial b k p q
      passed_seen f more = (
        λ entries up kept low has.
            let at = stretch_of i s o e h in
            let bound = bound_of i s o e h b sb in
            has_by i.partial b s.from s.to at.0 bound entries n q (f entries (λ l. omega (arith, ints)) up kept (has_of i.partial b s.from s.to at.0 bound entries since p has)),
        more,
      )

      pub passed_by : ((settled : List (Entry Sym)) → (pos since ≤ℤ s.from → history.floor ≤ℤ s.from) → since ≤ n → StandsFor settled history → IsProgress settled (look_of b) w.body s.from s.to (pos since) p.count p.broken → IsProgress settled (look_of b) w.body s.from s.to (pos n) q.count q.broken)
          → p.count ≤ q.count → Passes plan history since n i.partial i.binding k p q
      passed_by f more = subst (λ (t : List (Option Sym)). Passes plan history since n i.partial t k p q) sb (passed_seen f more)

  -- the window begins
  pub begins_by : (parent fork : InstanceState) (s : Stretch) (o : Option Stretch) → o ≡ Some s → IsStretchAt plan fork k o → (b : List (Option Sym)) → b ≡ fork.binding → (q : Progress) (history : HistoryState) (n : ℕ)
      → ((settled : List (Entry Sym)) → length history.entries < 2 ^ 32 → history.floor ≤ℤ s.from → StandsFor settled history → IsProgress settled (look_of b) w.body s.from s.to (pos n) q.count q.broken)
      → Begins plan history n parent fork k q
  begins_by parent fork s o e h b sb q history n f entries kept few starts more has =
      let at = stretch_of fork s o e h in
      let bound = bound_of fork s o e h b sb in
      let low = of_some (slice_get (chronicle plan).windows k) w _ is starts s.from s.to at.0 in
      subst (λ (t : List (Option Sym)). HasAt plan fork.partial t entries n k q) sb (has_by fork.partial b s.from s.to at.0 bound entries n q (f entries (history_short history entries kept few) low kept))

  -- the window had begun for the parent
  pub keeps_by : (parent fork : InstanceState) (s : Stretch) (o : Option Stretch) → o ≡ Some s → IsStretchAt plan parent k o → (q : Progress) → q ≡ progress_at parent.progress k → (history : HistoryState) (n : ℕ) → Begins plan history n parent fork k q
  keeps_by parent fork s o e h q sq history n entries kept few starts more has = at_place (λ w. (from to : ℤ) → IsStretch fork.partial w from to → BodyIsBound (look_of fork.binding) w.body → IsProgress entries (look_of fork.binding) w.body from to (pos n) q.count q.broken) (λ from to st bound.
      let at = stretch_of parent s o e h in
      let same = same_stretch parent.partial fork.partial w s.from s.to from to (λ f x j. more.0 f x j) at.0 st in
      let old = has_of parent.partial parent.binding s.from s.to at.0 at.1 entries n (progress_at parent.progress k) has in
      let up = progress_up (look_of parent.binding) (look_of fork.binding) more.1 entries s.from s.to w.body (pos n) (progress_at parent.progress k).count (progress_at parent.progress k).broken at.1 old in
      subst (λ (t : Progress). IsProgress entries (look_of fork.binding) w.body from to (pos n) t.count t.broken) (sym sq)
      (subst (λ (z : ℤ). IsProgress entries (look_of fork.binding) w.body from z (pos n) (progress_at parent.progress k).count (progress_at parent.progress k).broken) same.1
      (subst (λ (z : ℤ). IsProgress entries (look_of fork.binding) w.body z s.to (pos n) (progress_at parent.progress k).count (progress_at parent.progress k).broken) same.0 up)))

-- where the window hasn't begun nothing is asked
pub unbegun : (plan : Plan) (k : ℕ) (i : InstanceState) (o : Option Stretch) → o ≡ None → IsStretchAt plan i k o → (entries : List (Entry Sym)) (d : ℕ) (q : Progress) → HasAt plan i.partial i.binding entries d k q
unbegun plan k i o e h entries d q = by (slice_get (chronicle plan).windows k) (subst (IsStretchAt plan i k) e h)
  where
    by : (o : Option (Window Sym)) → IfSome o (λ w. (from to : ℤ) → IsStretch i.partial w from to → BodyIsBound (look_of i.binding) w.body → ⊥) → IfSome o (λ w. (from to : ℤ) → IsStretch i.partial w from to → BodyIsBound (look_of i.binding) w.body → IsProgress entries (look_of i.binding) w.body from to (pos d) q.count q.broken)
    by None h = tt
    by (Some w) h = λ from to s b. absurd (h from to s b)

pub any_window : (plan : Plan) (k : ℕ) → k < length plan.chronicle.windows → (w : Window Sym) × (slice_get (chronicle plan).windows k ≡ Some w)
any_window plan k l = at plan.chronicle.windows k l
  where
    at : (ws : List CodeWindow) (k : ℕ) → k < length ws → (w : Window Sym) × (slice_get (map window_of ws) k ≡ Some w)
    at [] k l = absurd (omega arith)
    at (w ∷ ws) zero l = (window_of w, refl)
    at (w ∷ ws) (suc k) l = at ws k (omega arith)

pub some_of : {A : Type 0} (o : Option A) (b : Bool) → b ≡ is_some o → b ≡ true → (s : A) × (o ≡ Some s)
some_of None b e t = absurd cc
some_of (Some s) b e t = (s, refl)

-- ---- all windows of an instance

none_beyond : {A : Type 0} (xs : List A) (k : ℕ) (P : A → Type 0) → length xs ≤ k → IfSome (slice_get xs k) P
none_beyond [] k P l = tt
none_beyond (x ∷ xs) zero P l = absurd (omega arith)
none_beyond (x ∷ xs) (suc k) P l = none_beyond xs k P (omega arith)

-- what holds of each window below their number holds of each
pub each_window : (plan : Plan) (P : ℕ → Window Sym → Type 0) → ((k : ℕ) → k < length plan.chronicle.windows → IfSome (slice_get (chronicle plan).windows k) (P k)) → (k : ℕ) → IfSome (slice_get (chronicle plan).windows k) (P k)
each_window plan P f k = elim (cases_lt k (length plan.chronicle.windows)) [
  | inl l ↦ f k l
  | inr g ↦ none_beyond (chronicle plan).windows k (P k) (let e = length-map plan.chronicle.windows window_of in omega arith)
]

pub same_after : (a b c : InstanceState) → IsSameInstance a b → IsSameInstance b c → IsSameInstance a c
same_after a b c s t = record {
  same = t.same ∙ (λ i. record (s.same i) { progress = c.progress });
  len = t.len ∙ s.len;
}

pub still_of : (plan : Plan) (old new : InstanceState) → IsSameInstance old new → IsOf plan old → IsOf plan new
still_of plan old new s of = subst (IsOf plan) (sym s.same) (record {
  len = of.len;
  distinct = of.distinct;
  binding = of.binding;
  allowed = of.allowed;
  symbols = of.symbols;
  dates = of.dates;
  window_count = of.window_count;
  most = of.most;
  least = of.least;
  followed = s.len ∙ of.followed;
})

pub has_same : (plan : Plan) (old new : InstanceState) → IsSameInstance old new → (entries : List (Entry Sym)) (d k : ℕ) (q : Progress) → HasAt plan old.partial old.binding entries d k q → HasAt plan new.partial new.binding entries d k q
has_same plan old new s entries d k q h = subst (λ (i : InstanceState). HasAt plan i.partial i.binding entries d k q) (sym s.same) h

pub same_count : (p q : Progress) → q ≡ p → p.count ≤ q.count
same_count p q e = subst (λ (r : Progress). p.count ≤ r.count) (sym e) (omega arith)

module _ (plan : Plan) (history : HistoryState) (since : ℕ) where
  pub passed_all : (h : ℕ) (old new : InstanceState) → AreStepped (λ k q. Passes plan history since h old.partial old.binding k (progress_at old.progress k) q) (length plan.chronicle.windows) old new → IsPassed plan history since h old new
  passed_all h old new s = record {
    same = s.same;
    gains = λ k. elim (cases_lt k (length plan.chronicle.windows)) [ inl l ↦ (s.below k l).1 | inr g ↦ same_count (progress_at old.progress k) (progress_at new.progress k) (s.rest k g) ];
    follows = λ settled up read low has. each_window plan _ (λ k l. has_same plan old new s.same settled h k (progress_at new.progress k) ((s.below k l).0 settled up read.kept low (has k)));
  }

  pub followed_all : (x : Entry Sym) (old mid new : InstanceState) → AreStepped (λ k q. Settles plan x old.partial old.binding k (progress_at old.progress k) q) (length plan.chronicle.windows) old mid
      → AreStepped (λ k q. Passes plan history since x.date mid.partial mid.binding k (progress_at mid.progress k) q) (length plan.chronicle.windows) mid new → IsFollowed plan history x since old new
  followed_all x old mid new s t = record {
    same = same_after old mid new s.same t.same;
    gains = λ k.
        let first : (progress_at old.progress k).count ≤ (progress_at mid.progress k).count = elim (cases_lt k (length plan.chronicle.windows)) [ inl l ↦ (s.below k l).1 | inr g ↦ same_count (progress_at old.progress k) (progress_at mid.progress k) (s.rest k g) ] in
        let then = (passed_all x.date mid new t).gains k in omega arith;
    follows = λ settled up read low has.
        let few : length settled < 2 ^ 32 - 1 = let l = length-append settled (x ∷ []) in let f = read.few in omega arith in
        (passed_all x.date mid new t).follows (settled ++ x ∷ []) up read low
        (each_window plan _ (λ k l. has_same plan old mid s.same (settled ++ x ∷ []) since k (progress_at mid.progress k) ((s.below k l).0 settled since up few (has k))));
  }

pub begun_all : (n : ℕ) (plan : Plan) (history : HistoryState) (h : ℕ) (parent old new : InstanceState) → AreStepped (λ k q. Begins plan history h parent old k q) n old new → n ≡ length plan.chronicle.windows → IsBegun plan history h parent old new
begun_all n plan history h parent old new s e = record {
  same = s.same;
  follows = λ entries kept few starts more has. each_window plan _ (λ k l. has_same plan old new s.same entries h k (progress_at new.progress k) (s.below k (omega (arith, e, l)) entries kept few (starts k) more (has k)));
}

-- ---- verdicts

pub judged_waits : (plan : Plan) (h : ℕ) (i : InstanceState) (k : ℕ) (p : Progress) (o : Option Stretch) → k < length plan.chronicle.windows → o ≡ None → IsStretchAt plan i k o → IsJudged plan h i k p Waiting
judged_waits plan h i k p o l e st =
    let w = any_window plan k l in
    let none = of_some (slice_get (chronicle plan).windows k) w.0 _ w.1 (subst (IsStretchAt plan i k) e st) in
    record {
      met = (λ f. absurd (not_met f), λ m. let n = of_some (slice_get (chronicle plan).windows k) w.0 _ w.1 m in absurd (none n.0 n.1 n.2 n.3));
      kept = (
        λ f. at_place plan k w.0 w.1 (λ w. (from to : ℤ) → IsStretch i.partial w from to → BodyIsBound (look_of i.binding) w.body → IsLostBy w.body to (pos h) p.count p.broken → ⊥) (λ from to s b lost. none from to s b),
        λ f e. not_lost e,
      );
    }
  where
    not_met : Waiting ≡ Met → ⊥
    not_met f = cc

    not_lost : Waiting ≡ Lost → ⊥
    not_lost f = cc

pub judged_by : (plan : Plan) (h : ℕ) (i : InstanceState) (k : ℕ) (w : Window Sym) → slice_get (chronicle plan).windows k ≡ Some w → (s : Stretch) (o : Option Stretch) → o ≡ Some s → IsStretchAt plan i k o → (p : Progress) (v : Verdict)
    → IsToldBy v w.body s.to (pos h) p.count p.broken → IsJudged plan h i k p v
judged_by plan h i k w is s o e st p v told =
    let at = stretch_of plan k w is i s o e st in
    record {
      met = (
        λ f. at_place plan k w is (λ w. (from : ℤ) × (to : ℤ) × IsStretch i.partial w from to × BodyIsBound (look_of i.binding) w.body × IsMetBy w.body to (pos h) p.count p.broken) (s.from, s.to, at.0, at.1, told.met.0 f),
        λ m.
            let n = of_some (slice_get (chronicle plan).windows k) w _ is m in
            let same = same_stretch i.partial i.partial w s.from s.to n.0 n.1 (λ f x j. j) at.0 n.2 in
            told.met.1 (subst (λ (z : ℤ). IsMetBy w.body z (pos h) p.count p.broken) (sym same.1) n.4),
      );
      kept = (
        λ f. at_place plan k w is (λ w. (from to : ℤ) → IsStretch i.partial w from to → BodyIsBound (look_of i.binding) w.body → IsLostBy w.body to (pos h) p.count p.broken → ⊥) (λ from to t b lost.
            let same = same_stretch i.partial i.partial w s.from s.to from to (λ f x j. j) at.0 t in
            f (told.lost.1 (subst (λ (z : ℤ). IsLostBy w.body z (pos h) p.count p.broken) (sym same.1) lost))),
        λ none f. of_some (slice_get (chronicle plan).windows k) w _ is none s.from s.to at.0 at.1 (told.lost.0 f),
      );
    }

-- a window that is safe as its progress tells isn't lost
pub not_lost_safely : (plan : Plan) (h : ℕ) (i : InstanceState) (k : ℕ) (w : Window Sym) → slice_get (chronicle plan).windows k ≡ Some w → (p : Progress) → ((to g : ℤ) → IsLostBy w.body to g p.count p.broken → ⊥) → IsNotLostWith plan h i k p
not_lost_safely plan h i k w is p safe =
    subst (λ (o : Option (Window Sym)). IfSome o (λ v. (from to : ℤ) → IsStretch i.partial v from to → BodyIsBound (look_of i.binding) v.body → IsLostBy v.body to (pos h) p.count p.broken → ⊥)) (sym is)
    (λ from to stretch bound lost. safe to (pos h) lost)

-- dates pass, and nothing of what is known of the window hangs on them
pub passed_dateless : (plan : Plan) (k : ℕ) (w : Window Sym) → slice_get (chronicle plan).windows k ≡ Some w → HangsOnNoDate w.body → (i : InstanceState) (q : Progress) (history : HistoryState) (since h : ℕ) → Passes plan history since h i.partial i.binding k q q
passed_dateless plan k w is dateless i q history since h = (
  λ entries up kept low has. subst (λ (o : Option (Window Sym)). IfSome o (λ v. (from to : ℤ) → IsStretch i.partial v from to → BodyIsBound (look_of i.binding) v.body → IsProgress entries (look_of i.binding) v.body from to (pos h) q.count q.broken)) (sym is)
      (λ from to stretch bound. dateless entries (look_of i.binding) from to (pos since) (pos h) q.count q.broken (of_some (slice_get (chronicle plan).windows k) w _ is has from to stretch bound)),
  same_count q q refl,
)
