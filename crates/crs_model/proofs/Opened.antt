-- When a partial assignment with its least binding is open, told by its parts.
use Rattle.std.proofs.Common.{◌≡◌, ℕ, zero, suc, List, [], ◌∷◌, Bool, refl, sym, ap, subst, ◌∙◌, inl, inr}
use Rattle.std.specs.Prelude.{◌↔◌, ℤ, pos, ◌+ℤ◌, Option, Some, None, IsSomeAnd, slice_get}
use Rattle.crs_base.specs.Words.{IsIn}
use Rattle.crs_base.specs.Entry.{Entry}
use Rattle.crs_model.specs.Models.{Chronicle, Window}
use Rattle.crs_model.specs.Matching.{Binding}
use Rattle.crs_model.specs.Partial.{Partial, at, IsPartial, IsLevelClosed, CanGoOn}
use Rattle.crs_model.specs.Verdicts.{IsLost, IsMet, IsStretch, BodyIsBound}
use Rattle.crs_model.specs.HasProgress.{IsProgress, IsMetBy, HasProgress, NoneLostBy}
use Rattle.crs_model.specs.Open.{IsOpen}
use Rattle.crs_model.proofs.Options.{of_some, some_if}
use Rattle.crs_model.proofs.Least.{Extends}
use Rattle.crs_model.proofs.Lost.{lost_up}
use Rattle.crs_model.proofs.Progressing.{lost_by, lost_back, so_by}

pub in_place : {A : Type 0} (xs : List A) (k : ℕ) (x : A) → slice_get xs k ≡ Some x → IsIn x xs
in_place [] k x h = absurd cc
in_place (y ∷ xs) zero x h = let s : y ≡ x = cc in inl (sym s)
in_place (y ∷ xs) (suc k) x h = inr (in_place xs k x h)

pub place_of : {A : Type 0} (xs : List A) (x : A) → IsIn x xs → (k : ℕ) × (slice_get xs k ≡ Some x)
place_of [] x i = absurd i
place_of (y ∷ xs) x (inl s) = (0, ap Some (sym s))
place_of (y ∷ xs) x (inr i) = let r = place_of xs x i in (suc r.0, r.1)

module _ {S : Type 0} (c : Chronicle S) (a : Partial S) (look : Binding S) where
  -- Its dates can go on, and no window is lost under its least binding.
  pub open_by_parts : (level : ℕ → ℕ) (pool entries : List (Entry S)) (n : ℕ) → IsPartial c pool a look → IsLevelClosed level a
      → IsOpen c level pool entries n a ↔ (CanGoOn c level a n × ((w : Window S) → IsIn w c.windows → IsLost look a entries n w → ⊥))
  open_by_parts level pool entries n p closed = (
    λ k. (k.dates, λ w i l. k.windows w i (lost_up look k.look (λ v x e. p.binding.least k.look k.partial.binding.equal v x e) a a entries n w (λ e x j. j) l)),
    λ k. record { look = look; partial = p; closed = closed; dates = k.0; windows = k.1 },
  )

  -- no window is lost exactly where none is as its progress tells it
  pub none_lost : (entries : List (Entry S)) (n : ℕ) (count : ℕ → ℕ) (broken : ℕ → Bool) → HasProgress c look a entries n count broken
      → ((w : Window S) → IsIn w c.windows → IsLost look a entries n w → ⊥) ↔ NoneLostBy c look a n count broken
  none_lost entries n count broken has = (
    λ none k. some_if (slice_get c.windows k) _ (λ w i from to stretch bound by.
        none w (in_place c.windows k w i) (record {
          from = from;
          to = to;
          stretch = stretch;
          bound = bound;
          lost = lost_by look from to entries n w.body (count k) (broken k) (of_some (slice_get c.windows k) w _ i (has k) from to stretch bound) by;
        })),
    λ none w i l.
        let r = place_of c.windows w i in
        of_some (slice_get c.windows r.0) w _ r.1 (none r.0) l.from l.to l.stretch l.bound
        (lost_back look l.from l.to entries n w.body (count r.0) (broken r.0) (of_some (slice_get c.windows r.0) w _ r.1 (has r.0) l.from l.to l.stretch l.bound) l.lost),
  )

  pub open_by_progress : (level : ℕ → ℕ) (pool entries : List (Entry S)) (n : ℕ) (count : ℕ → ℕ) (broken : ℕ → Bool) → IsPartial c pool a look → IsLevelClosed level a → HasProgress c look a entries n count broken
      → IsOpen c level pool entries n a ↔ (CanGoOn c level a n × NoneLostBy c look a n count broken)
  open_by_progress level pool entries n count broken p closed has =
      let o = open_by_parts level pool entries n p closed in
      let w = none_lost entries n count broken has in
      (λ k. let r = o.0 k in (r.0, w.0 r.1), λ k. o.1 (k.0, w.1 k.1))

-- ---- a fork keeps the stretches of the windows that were begun

module _ {S : Type 0} where
  same_end : (o p : Option (Entry S)) (x y k : ℤ) → ((e : Entry S) → o ≡ Some e → p ≡ Some e) → IsSomeAnd o (λ e. x ≡ pos e.date +ℤ k) → IsSomeAnd p (λ e. y ≡ pos e.date +ℤ k) → x ≡ y
  same_end None p x y k f h g = absurd h
  same_end (Some e) p x y k f h g = h ∙ sym (other p y k e (f e refl) g)
    where
      other : (p : Option (Entry S)) (y k : ℤ) (e : Entry S) → p ≡ Some e → IsSomeAnd p (λ d. y ≡ pos d.date +ℤ k) → y ≡ (pos e.date +ℤ k)
      other None y k e s g = absurd cc
      other (Some d) y k e s g = let q : d ≡ e = cc in subst (λ (t : Entry S). y ≡ (pos t.date +ℤ k)) q g

  -- the stretch of a begun window stays
  pub same_stretch : (a b : Partial S) (w : Window S) (from to start end : ℤ) → Extends a b → IsStretch a w from to → IsStretch b w start end → (from ≡ start) × (to ≡ end)
  same_stretch a b w from to start end part s t = (
    same_end (at a w.from.event) (at b w.from.event) from start w.from.offset (λ e i. part w.from.event e i) s.starts t.starts,
    same_end (at a w.to.event) (at b w.to.event) to end w.to.offset (λ e i. part w.to.event e i) s.ends t.ends,
  )

-- ---- a mark

module _ {S : Type 0} (look : Binding S) (a : Partial S) (entries : List (Entry S)) (h : ℕ) (w : Window S) where
  -- a begun window that is met as its progress tells it is met
  pub met_by : (from to : ℤ) (count : ℕ) (broken : Bool) → IsStretch a w from to → BodyIsBound look w.body → IsProgress entries look w.body from to (pos h) count broken → IsMetBy w.body to (pos h) count broken → IsMet look a entries h w
  met_by from to count broken stretch bound p m = record { from = from; to = to; stretch = stretch; bound = bound; settled = m.0; so = so_by look from to entries h w.body count broken p m }
