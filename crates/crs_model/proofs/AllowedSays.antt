-- Whether a binding is allowed.
use Rattle.std.proofs.Common.{◌≡◌, ◌≢◌, ℕ, Bool, true, false, not, List, [], ◌∷◌, refl, sym, ap, ◌∙◌, inl, inr, true≢false}
use Rattle.std.specs.Prelude.{Option, Some, IsTrue, IfSome, ◌↔◌, ◌==◌}
use Rattle.std.specs.List.{list_any}
use Rattle.std.proofs.lemmas.Bool.Decides.{eqb_tells}
use Rattle.std.proofs.lemmas.Bool.{or_left, or_right, or_cases}
use Rattle.crs_base.specs.declared.symbols.Sym.{Sym}
use Rattle.crs_base.specs.Words.{IsIn}

same_sym : (x y : Sym) → x.0 ≡ y.0 → x ≡ y
same_sym x y e = λ i. record { 0 = e i }

eq_says : (a b : ℕ) → (a == b) ≡ true → a ≡ b
eq_says a b e = elim (eqb_tells a b) [ inl s ↦ s.1 | inr o ↦ absurd (true≢false (sym e ∙ o.0)) ]

eq_is : (a b : ℕ) → a ≡ b → (a == b) ≡ true
eq_is a b e = elim (eqb_tells a b) [ inl s ↦ s.0 | inr o ↦ absurd (o.1 e) ]

among : (xs : List Sym) (x : Sym) → list_any (λ y. y.0 == x.0) xs ≡ true → IsIn x xs
among [] x e = absurd cc
among (y ∷ xs) x e = elim (or_cases (y.0 == x.0) (list_any (λ z. z.0 == x.0) xs) e) [ inl a ↦ inl (same_sym x y (sym (eq_says y.0 x.0 a))) | inr b ↦ inr (among xs x b) ]

is_among : (xs : List Sym) (x : Sym) → IsIn x xs → list_any (λ y. y.0 == x.0) xs ≡ true
is_among [] x i = absurd i
is_among (y ∷ xs) x (inl e) = or_left (y.0 == x.0) (list_any (λ z. z.0 == x.0) xs) (eq_is y.0 x.0 (ap (λ (s : Sym). s.0) (sym e)))
is_among (y ∷ xs) x (inr i) = or_right (y.0 == x.0) (list_any (λ z. z.0 == x.0) xs) (is_among xs x i)

pub among_says : (xs : List Sym) (x : Sym) → IsTrue (list_any (λ y. y.0 == x.0) xs) ↔ IsIn x xs
among_says xs x = (among xs x, is_among xs x)

pub differ_says : (o p : Option Sym) (x y : Sym) → o ≡ Some x → p ≡ Some y → IsTrue (not (x.0 == y.0)) ↔ ((z : Sym) → o ≡ Some z → p ≢ Some z)
differ_says o p x y a b = (λ t z c d. no_both (x.0 == y.0) t (eq_is x.0 y.0 (let e : x ≡ y = cc in ap (λ (s : Sym). s.0) e)), λ h. by (x.0 == y.0) refl h)
  where
    no_both : (b : Bool) → not b ≡ true → b ≡ true → ⊥
    no_both true t e = true≢false (sym t)
    no_both false t e = true≢false (sym e)

    by : (v : Bool) → (x.0 == y.0) ≡ v → ((z : Sym) → o ≡ Some z → p ≢ Some z) → not v ≡ true
    by true e h = let s = same_sym x y (eq_says x.0 y.0 e) in absurd (h x a (cc))
    by false e h = refl

pub set_says : (o : Option Sym) (x : Sym) (ys values : List Sym) (b : Bool) → o ≡ Some x → ys ≡ values → b ≡ list_any (λ y. y.0 == x.0) ys → IsTrue b ↔ IfSome o (λ z. IsIn z values)
set_says o x ys values b e s t = rw (e, t, s) (among_says values x)
