-- The progress of the windows of what an instance becomes.
use Rattle.std.proofs.Common.{◌≡◌, ◌∙◌, ℕ, zero, suc, ◌+◌, ◌<◌, ◌≤◌, List, [], ◌∷◌, ◌++◌, length, refl, sym, subst, inl, inr, arith, length-append}
use Rattle.std.proofs.lemmas.Bool.{cases_lt}
use Rattle.crs_base.specs.declared.symbols.Sym.{Sym}
use Rattle.crs_base.specs.Entry.{Entry}
use Rattle.crs_model.specs.declared.progress.Progress.{Progress}
use Rattle.crs_model.specs.Partial.{CanGoOn}
use Rattle.crs_model.specs.Plans.{chronicle, IsProper}
use Rattle.crs_focus.specs.PlanLevels.{levels_in}
use Rattle.crs_instance.specs.Instances.{InstanceState, IsOf, progress_at, no_progress}
use Rattle.crs_living.specs.Carried.{IsCarried, AreCarried}
use Rattle.crs_living.specs.declared.judging.Passing.{Passing}
use Rattle.crs_living.specs.Windows.{Begins, Passes, IsBegun, IsPassed}
use Rattle.crs_living.specs.JudgedWindows.{IsLostNowhere}
use Rattle.crs_living.specs.Judgings.{IsAbleBy}
use Rattle.crs_living.specs.Scannings.{IsKeptIfAble}
use Rattle.crs_living.proofs.Progress.{begun_all, each_window, passed_all, still_of}
use Rattle.crs_living.proofs.Scanned.{kept_able, kept_unable}

-- beyond the list there is no progress
beyond : (ps : List Progress) (k : ℕ) → length ps ≤ k → progress_at ps k ≡ no_progress
beyond [] k l = refl
beyond (p ∷ ps) zero l = absurd (omega (arith, l))
beyond (p ∷ ps) (suc k) l = beyond ps k (omega (arith, l))

before_last : (ps : List Progress) (q : Progress) (k : ℕ) → k < length ps → progress_at (ps ++ q ∷ []) k ≡ progress_at ps k
before_last [] q k l = absurd (omega (arith, l))
before_last (p ∷ ps) q zero l = refl
before_last (p ∷ ps) q (suc k) l = before_last ps q k (omega (arith, l))

at_last : (ps : List Progress) (q : Progress) (k : ℕ) → k ≡ length ps → progress_at (ps ++ q ∷ []) k ≡ q
at_last [] q k e = subst (λ (n : ℕ). progress_at (q ∷ []) n ≡ q) (sym e) refl
at_last (p ∷ ps) q zero e = absurd (omega (arith, e))
at_last (p ∷ ps) q (suc k) e = at_last ps q k (omega (arith, e))

-- one window more
pub carried_more : (p : Passing) (parent fork : InstanceState) (k n : ℕ) (qs new : List Progress) (q : Progress) → n ≡ k + 1 → new ≡ qs ++ q ∷ [] → AreCarried p parent fork k qs → IsCarried p parent fork k q → AreCarried p parent fork n new
carried_more p parent fork k n qs new q up is are one = subst (AreCarried p parent fork n) (sym is) (record {
  len = omega (arith, length-append qs (q ∷ []), are.len, up);
  each = λ j l. elim (cases_lt j k) [
    | inl m ↦ subst (IsCarried p parent fork j) (sym (before_last qs q j (omega (arith, are.len, m)))) (are.each j m)
    | inr g ↦ (let e : j ≡ k = omega (arith, up, l, g) in subst (λ (i : ℕ). IsCarried p parent fork i (progress_at (qs ++ q ∷ []) i)) (sym e) (subst (IsCarried p parent fork k) (sym (at_last qs q k (sym are.len))) one))
  ];
})

-- a list of what there is at each place
listed : (P : ℕ → Progress → Type 0) (n : ℕ) → ((k : ℕ) → k < n → (b : Progress) × P k b) → (bs : List Progress) × (length bs ≡ n) × ((k : ℕ) → k < n → P k (progress_at bs k))
listed P zero f = ([], refl, λ k l. absurd (omega (arith, l)))
listed P (suc n) f =
    let front = listed P n (λ k l. f k (omega (arith, l))) in
    let last = f n (omega arith) in
    let bs = front.0 in (
      bs ++ last.0 ∷ [],
      omega (arith, length-append bs (last.0 ∷ []), front.1),
      λ k l. elim (cases_lt k n) [
        | inl m ↦ subst (P k) (sym (before_last bs last.0 k (omega (arith, front.1, m)))) (front.2 k m)
        | inr g ↦ (let e : k ≡ n = omega (arith, l, g) in subst (λ (i : ℕ). P i (progress_at (bs ++ last.0 ∷ []) i)) (sym e) (subst (P n) (sym (at_last bs last.0 n (sym front.1))) last.1))
      ],
    )

module _ (p : Passing) (parent fork : InstanceState) (n : ℕ) (qs : List Progress) (are : AreCarried p parent fork n qs) (of : IsOf p.judging.plan.now fork) (all : n ≡ length p.judging.plan.now.chronicle.windows) where
  pub begins : (bs : List Progress) × (length bs ≡ n) × ((k : ℕ) → k < n → Begins p.judging.plan.now p.history.now p.since parent fork k (progress_at bs k) × Passes p.judging.plan.now p.history.now p.since p.judging.h fork.partial fork.binding k (progress_at bs k) (progress_at qs k))
  begins = listed (λ k b. Begins p.judging.plan.now p.history.now p.since parent fork k b × Passes p.judging.plan.now p.history.now p.since p.judging.h fork.partial fork.binding k b (progress_at qs k)) n (λ k l. let c = are.each k l in (c.0, (c.1, c.2)))

  -- it, as its windows began
  abbrev pub begun_one : InstanceState
  begun_one = record fork { progress = begins.0 }

  -- and as the dates passed
  abbrev pub passed_one : InstanceState
  passed_one = record fork { progress = qs }

  long : length begins.0 ≡ length fork.progress
  long = begins.1 ∙ all ∙ sym of.followed

  pub is_begun : IsBegun p.judging.plan.now p.history.now p.since parent fork begun_one
  is_begun = begun_all n p.judging.plan.now p.history.now p.since parent fork begun_one (record {
    same = record { same = refl; len = long };
    below = λ k l. (begins.2 k l).0;
    rest = λ k g. beyond begins.0 k (omega (arith, begins.1, g)) ∙ sym (beyond fork.progress k (omega (arith, long, begins.1, g)));
  }) all

  pub is_passed : IsPassed p.judging.plan.now p.history.now p.since p.judging.h begun_one passed_one
  is_passed = passed_all p.judging.plan.now p.history.now p.since p.judging.h begun_one passed_one (record {
    same = record { same = refl; len = are.len ∙ sym begins.1 };
    below = λ k l. (begins.2 k (omega (arith, all, l))).1;
    rest = λ k g. beyond qs k (omega (arith, are.len, all, g)) ∙ sym (beyond begins.0 k (omega (arith, begins.1, all, g)));
  })

  pub passed_of : IsOf p.judging.plan.now passed_one
  passed_of = still_of p.judging.plan.now fork passed_one (record { same = refl; len = are.len ∙ sym begins.1 ∙ long }) of

  module _ (x : Entry Sym) (proper : IsProper p.judging.plan.now) (of_parent : IsOf p.judging.plan.now parent) where
    abbrev pub Keeps : List InstanceState → Type 0
    Keeps out = IsKeptIfAble p.judging.plan.now p.judging.focus p.history.now x p.since p.judging.h parent fork out

    -- where a window is lost nothing is kept
    pub lost_none : (IsLostNowhere p.judging.plan.now p.judging.h fork qs n → ⊥) → Keeps []
    lost_none lost = kept_unable p.judging.plan.now p.judging.focus proper p.history.now x p.since p.judging.h parent fork begun_one passed_one of_parent of passed_of is_begun is_passed (λ able. lost (λ k l. able.1 k))

    -- nor where its events come too late
    pub late_none : (CanGoOn (chronicle p.judging.plan.now) (levels_in p.judging.plan.now p.judging.focus) fork.partial p.judging.h → ⊥) → Keeps []
    late_none late = kept_unable p.judging.plan.now p.judging.focus proper p.history.now x p.since p.judging.h parent fork begun_one passed_one of_parent of passed_of is_begun is_passed (λ able. late able.0)

    module _ (can : CanGoOn (chronicle p.judging.plan.now) (levels_in p.judging.plan.now p.judging.focus) fork.partial p.judging.h) (nowhere : IsLostNowhere p.judging.plan.now p.judging.h fork qs n) where
      pub able_one : IsAbleBy p.judging passed_one
      able_one = (can, each_window p.judging.plan.now _ (λ k l. nowhere k (omega (arith, all, l))))

      -- else it is
      pub able_kept : Keeps (passed_one ∷ [])
      able_kept = kept_able p.judging.plan.now p.judging.focus proper p.history.now x p.since p.judging.h parent fork begun_one passed_one of_parent of passed_of is_begun is_passed able_one
