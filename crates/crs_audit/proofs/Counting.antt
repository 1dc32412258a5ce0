-- A count goes on.
use Rattle.std.proofs.Common.{◌≡◌, ◌∙◌, ◌<◌, ◌≤◌, ℕ, ◌+◌, suc, Bool, true, false, List, [], ◌∷◌, length, map, drop, get_or, refl, sym, ap, subst, arith, inl, inr}
use Rattle.std.specs.Prelude.{IsTrue, ◌↔◌, if◌then◌else◌}
use Rattle.std.proofs.lemmas.List.{drop_more, drop_all}
use Rattle.crs_model.specs.Verdicts.{Count}

module _ {X E : Type 0} (P : E → Type 0) (f : X → E) (xs : List X) (all : List E) where
  on_by : (x : X) (rest : List E) (n m : ℕ) (b : Bool) → (IsTrue b ↔ P (f x)) → ((k : ℕ) → Count P (f x ∷ rest) k → Count P all (n + k))
      → Count P rest m → Count P all ((if b then n + 1 else n) + m)
  on_by x rest n m true says so k =
      let e : n + suc m ≡ n + 1 + m = omega arith in
      subst (Count P all) e (so (suc m) (inl (says.0 refl, m, refl, k)))
  on_by x rest n m false says so k = so m (inr ((λ p. let t = says.1 p in cc), k))

  pub count_goes_on : (i : ℕ) (x : X) (n new m : ℕ) (b : Bool) → i < length xs → x ≡ get_or xs i x → (IsTrue b ↔ P (f x)) → new ≡ (if b then n + 1 else n)
      → ((k : ℕ) → Count P (map f (drop i xs)) k → Count P all (n + k)) → Count P (map f (drop (i + 1) xs)) m → Count P all (new + m)
  count_goes_on i x n new m b lt is says e so k =
      let d : drop i xs ≡ x ∷ drop (i + 1) xs = drop_more xs i x lt ∙ ap (λ z. z ∷ drop (i + 1) xs) (sym is) in
      subst (λ (z : ℕ). Count P all (z + m)) (sym e)
      (on_by x (map f (drop (i + 1) xs)) n m b says (λ q c. so q (subst (λ (ys : List X). Count P (map f ys) q) (sym d) c)) k)

  pub count_ends : (i n : ℕ) → length xs ≡ i → ((k : ℕ) → Count P (map f (drop i xs)) k → Count P all (n + k)) → Count P all n
  count_ends i n e so =
      let none : drop i xs ≡ [] = drop_all i xs (omega (arith, e)) in
      let z : n + 0 ≡ n = omega arith in
      subst (Count P all) z (so 0 (subst (λ (ys : List X). Count P (map f ys) 0) (sym none) refl))

pub at_most_next : (b : Bool) (n new i : ℕ) → new ≡ (if b then n + 1 else n) → n ≤ i → new ≤ i + 1
at_most_next true n new i e le = omega (arith, e, le)
at_most_next false n new i e le = omega (arith, e, le)
