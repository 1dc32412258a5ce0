-- Met windows stay met, and aren't lost.
use Rattle.std.proofs.Common.{◌≡◌, ℕ, ◌≤◌, List, [], ◌∷◌, ◌++◌, refl, sym, subst, ◌∙◌, inl, inr, arith}
use Rattle.std.specs.Prelude.{ℤ, pos, ◌≤ℤ◌, ◌<ℤ◌, ◌+ℤ◌, Option, Some, None, IsSomeAnd}
use Rattle.std.proofs.lemmas.Int.{ints}
use Rattle.crs_base.specs.Words.{IsIn}
use Rattle.crs_base.specs.Entry.{Entry}
use Rattle.crs_base.proofs.Values.{value_forth}
use Rattle.crs_model.specs.Models.{Window, Body, NoEvent, Occurs, Hold}
use Rattle.crs_model.specs.Matching.{Binding}
use Rattle.crs_model.specs.Partial.{Partial, at}
use Rattle.crs_model.specs.Verdicts.{Count, IsSo, IsLost, IsMet}

count_zero : {A : Type 0} (P : A → Type 0) (ys : List A) → ((x : A) → IsIn x ys → P x → ⊥) → Count P ys 0
count_zero P [] none = refl
count_zero P (y ∷ ys) none = inr (none y (inl refl), count_zero P ys (λ x i. none x (inr i)))

pub count_forth : {A : Type 0} (P : A → Type 0) (xs ys : List A) (n : ℕ) → ((x : A) → IsIn x ys → P x → ⊥) → Count P xs n → Count P (xs ++ ys) n
count_forth P [] ys n none h = subst (λ (k : ℕ). Count P ys k) (sym h) (count_zero P ys none)
count_forth P (x ∷ xs) ys n none (inl h) = inl (h.0, h.1, h.2, count_forth P xs ys h.1 none h.3)
count_forth P (x ∷ xs) ys n none (inr h) = inr (h.0, count_forth P xs ys n none h.1)

module _ {S : Type 0} (entries more : List (Entry S)) (h g : ℕ) (later : h ≤ g) (late : (e : Entry S) → IsIn e more → h ≤ e.date) where
  after : (t : ℤ) (d n : ℕ) → n ≤ d → t <ℤ pos n → t <ℤ pos d
  after t d n l k = omega (arith, ints)

  not_in : (to : ℤ) (d n : ℕ) → n ≤ d → to ≤ℤ pos n → pos d <ℤ to → ⊥
  not_in to d n a b c = omega (arith, ints)

  so_forth : (look : Binding S) (body : Body S) (from to : ℤ) → to ≤ℤ pos h → IsSo entries look body from to → IsSo (entries ++ more) look body from to
  so_forth look (NoEvent p) from to l so = count_forth _ entries more 0 (λ e i d. not_in to e.date h (late e i) l (d.0).1) so
  so_forth look (Occurs least most p) from to l so = (so.0, count_forth _ entries more so.0 (λ e i d. not_in to e.date h (late e i) l (d.0).1) so.1, so.2, so.3)
  so_forth look (Hold name terms value) from to l so = λ a v is t b c. value_forth a entries more t (λ e i. after t e.date h (late e i) (omega (arith, ints))) v (so a v is t b c)

  pub met_grows : (look : Binding S) (a : Partial S) (w : Window S) → IsMet look a entries h w → IsMet look a (entries ++ more) g w
  met_grows look a w m = record {
    from = m.from;
    to = m.to;
    stretch = m.stretch;
    bound = m.bound;
    settled = let s = m.settled in omega (arith, ints);
    so = so_forth look w.body m.from m.to m.settled m.so;
  }

module _ {S : Type 0} (look : Binding S) (a : Partial S) (entries : List (Entry S)) (h : ℕ) (w : Window S) where
  same_end : (o : Option (Entry S)) (x y k : ℤ) → IsSomeAnd o (λ e. x ≡ pos e.date +ℤ k) → IsSomeAnd o (λ e. y ≡ pos e.date +ℤ k) → x ≡ y
  same_end None x y k p q = absurd p
  same_end (Some e) x y k p q = p ∙ sym q

  below_not : (x n : ℤ) → x ≤ℤ n → n <ℤ x → ⊥
  below_not x n p q = omega (arith, ints)

  pub met_not_lost : IsMet look a entries h w → IsLost look a entries h w → ⊥
  met_not_lost m l =
      let f = same_end (at a w.from.event) m.from l.from w.from.offset m.stretch.starts l.stretch.starts in
      let t = same_end (at a w.to.event) m.to l.to w.to.offset m.stretch.ends l.stretch.ends in
      let so : IsSo entries look w.body l.from l.to = subst (λ (x : ℤ). IsSo entries look w.body l.from x) t (subst (λ (x : ℤ). IsSo entries look w.body x m.to) f m.so) in
      let settled : l.to ≤ℤ pos h = subst (λ (x : ℤ). x ≤ℤ pos h) t m.settled in
      elim l.lost [ inl s ↦ s.1 so | inr s ↦ below_not l.to (pos h) settled s.0 ]
