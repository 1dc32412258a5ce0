-- The progress of windows: after one more entry, at a later date, and what it tells.
use Rattle.std.proofs.Common.{◌≡◌, ◌⊎◌, ◌↔◌, ℕ, suc, ◌≤◌, Bool, true, false, List, [], ◌∷◌, ◌++◌, sym, subst}
use Rattle.std.specs.Prelude.{ℤ, pos, ◌≤ℤ◌, ◌<ℤ◌}
use Rattle.crs_base.specs.Entry.{Entry}
use Rattle.crs_base.proofs.Deciding.{Tells}
use Rattle.crs_model.specs.Models.{Body, Window}
use Rattle.crs_model.specs.Matching.{Binding}
use Rattle.crs_model.specs.Partial.{Partial}
use Rattle.crs_model.specs.Verdicts.{IsStretch, BodyIsBound, IsMet, IsLost, IsSo}
use Rattle.crs_model.specs.HasProgress.{IsProgress, IsMetBy, IsLostBy, Hits, Breaks, Spares, StartsWell, StartsIll}
use Rattle.crs_model.proofs.Progressing.{settle_progress, pass_progress, so_by, met_back, lost_by, lost_back}
use Rattle.crs_model.proofs.Opened.{same_stretch}

-- One more entry, dated at or after h: the count gains one where it hits, and the window is broken where it was or the entry breaks it.
abbrev pub SettledProgress : Type 0 → Type 0
SettledProgress S =
    (look : Binding S) (body : Body S) (from to : ℤ) (entries : List (Entry S)) (x : Entry S) (h count new_count : ℕ) (broken new_broken : Bool)
    → h ≤ x.date → IsProgress entries look body from to (pos h) count broken
    → ((Hits look body from to x × (new_count ≡ suc count)) ⊎ ((Hits look body from to x → ⊥) × (new_count ≡ count)))
    → (((broken ≡ true) ⊎ Breaks look body from to x) × (new_broken ≡ true)) ⊎ ((broken ≡ false) × Spares look body from to x × (new_broken ≡ false))
    → IsProgress (entries ++ x ∷ []) look body from to (pos h) new_count new_broken

-- A later date: the count stays. Where the stretch began before the first of the two dates, or no date of it is before the second, so does the rest. Else the value at the first date of the stretch decides.
abbrev pub PassedProgress : Type 0 → Type 0
PassedProgress S =
    (look : Binding S) (body : Body S) (from to : ℤ) (entries : List (Entry S)) (since h count : ℕ) (broken new_broken : Bool)
    → since ≤ h → IsProgress entries look body from to (pos since) count broken
    → ((new_broken ≡ broken) × (((from <ℤ pos since) × (from <ℤ to)) ⊎ ((to ≤ℤ from) ⊎ (pos h ≤ℤ from)) ⊎ StartsWell entries look body from))
    ⊎ ((new_broken ≡ true) × ((broken ≡ true) ⊎ ((from <ℤ to) × (from <ℤ pos h) × StartsIll entries look body from)))
    → IsProgress entries look body from to (pos h) count new_broken

-- The progress tells the verdict: each window whose anchors and variables are bound is met, or lost, exactly where its progress says so.
abbrev pub JudgedByProgress : Type 0 → Type 0
JudgedByProgress S =
    (look : Binding S) (a : Partial S) (entries : List (Entry S)) (h : ℕ) (w : Window S) (from to : ℤ) (count : ℕ) (broken : Bool)
    → IsStretch a w from to → BodyIsBound look w.body → IsProgress entries look w.body from to (pos h) count broken
    → (IsMet look a entries h w ↔ IsMetBy w.body to (pos h) count broken) × (IsLost look a entries h w ↔ IsLostBy w.body to (pos h) count broken)

module _ {S : Type 0} where
  pub settled_progress : SettledProgress S
  settled_progress look body from to entries x h count new_count broken new_broken late p counts breaks = settle_progress look from to entries x h late body count new_count broken new_broken p counts breaks

  pub passed_progress : Tells S → PassedProgress S
  passed_progress tells look body from to entries since h count broken new_broken later p how = pass_progress look from to tells entries since h later body count broken new_broken p how

  pub judged_by_progress : JudgedByProgress S
  judged_by_progress look a entries h w from to count broken stretch bound p = (
    (
      λ m.
          let s = same_stretch a a w from to m.from m.to (λ e x i. i) stretch m.stretch in
          met_back look from to entries h w.body count broken p (subst (λ (z : ℤ). z ≤ℤ pos h) (sym s.1) m.settled)
          (subst (λ (z : ℤ). IsSo entries look w.body z to) (sym s.0) (subst (λ (z : ℤ). IsSo entries look w.body m.from z) (sym s.1) m.so)),
      λ m. record { from = from; to = to; stretch = stretch; bound = bound; settled = m.0; so = so_by look from to entries h w.body count broken p m },
    ),
    (
      λ l.
          let s = same_stretch a a w from to l.from l.to (λ e x i. i) stretch l.stretch in
          let q : IsProgress entries look w.body l.from l.to (pos h) count broken = subst (λ (z : ℤ). IsProgress entries look w.body z l.to (pos h) count broken) s.0 (subst (λ (z : ℤ). IsProgress entries look w.body from z (pos h) count broken) s.1 p) in
          subst (λ (z : ℤ). IsLostBy w.body z (pos h) count broken) (sym s.1) (lost_back look l.from l.to entries h w.body count broken q l.lost),
      λ l. record { from = from; to = to; stretch = stretch; bound = bound; lost = lost_by look from to entries h w.body count broken p l },
    ),
  )
