-- How many of a list there are.
use Rattle.std.proofs.Common.{◌⊎◌, ℕ, ◌+◌, List, [], ◌∷◌, refl, subst, inl, inr, arith}
use Rattle.crs_base.specs.Words.{IsIn}
use Rattle.crs_history.specs.Dropping.{Drops}
use Rattle.crs_model.specs.Verdicts.{Count}
use Rattle.crs_watch.specs.Counts.{CountsTo}

module _ {A : Type 0} where
  pub count_more : (P : A → Type 0) (x : A) (xs : List A) (n : ℕ) → P x → Count P xs n → Count P (x ∷ xs) (n + 1)
  count_more P x xs n p h = inl (p, n, omega arith, h)

  pub count_iff : (P Q : A → Type 0) (xs : List A) (n : ℕ) → ((x : A) → IsIn x xs → P x → Q x) → ((x : A) → IsIn x xs → Q x → P x) → Count P xs n → Count Q xs n
  count_iff P Q [] n f g h = h
  count_iff P Q (x ∷ xs) n f g (inl h) = inl (f x (inl refl) h.0, h.1, h.2, count_iff P Q xs h.1 (λ y i. f y (inr i)) (λ y i. g y (inr i)) h.3)
  count_iff P Q (x ∷ xs) n f g (inr h) = inr (λ q. h.0 (g x (inl refl) q), count_iff P Q xs n (λ y i. f y (inr i)) (λ y i. g y (inr i)) h.1)

  -- what is left out doesn't count
  pub count_left : (P L : A → Type 0) (xs ys : List A) (n : ℕ) → ((x : A) → P x → L x) → Drops (λ x. L x → ⊥) xs ys → Count P ys n → Count P xs n
  count_left P L [] ys n f d h = subst (λ (w : List A). Count P w n) d h
  count_left P L (x ∷ xs) ys n f (inl d) h = elim (subst (λ (w : List A). Count P w n) d.1 h) [
    | inl k ↦ inl (k.0, k.1, k.2, count_left P L xs d.0 k.1 f d.2 k.3)
    | inr k ↦ inr (k.0, count_left P L xs d.0 n f d.2 k.1)
  ]
  count_left P L (x ∷ xs) ys n f (inr d) h = inr ((λ p. d.0 (f x p)), count_left P L xs ys n f d.1 h)

  -- how many there are, where of each it is told whether it is such
  pub count_told : (P : A → Type 0) → ((x : A) → P x ⊎ (P x → ⊥)) → (xs : List A) → (n : ℕ) × Count P xs n
  count_told P f [] = (0, refl)
  count_told P f (x ∷ xs) = let r = count_told P f xs in elim (f x) [ inl p ↦ (r.0 + 1, count_more P x xs r.0 p r.1) | inr q ↦ (r.0, inr (q, r.1)) ]

  -- what counts to a number in one list counts to it in another, where counts of the one are counts of the other
  pub counts_to : {B : Type 0} (P : A → Type 0) (Q : B → Type 0) (xs : List A) (ys : List B) (most n : ℕ) → ((c : ℕ) → Count P xs c → Count Q ys c) → CountsTo P xs most n → CountsTo Q ys most n
  counts_to P Q xs ys most n f (inl c) = inl (f n c)
  counts_to P Q xs ys most n f (inr h) = inr (h.0, h.1, f h.1 h.2, h.3)
