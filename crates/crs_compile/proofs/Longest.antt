-- The longest of spans.
use Rattle.std.proofs.Common.{◌≡◌, ◌⊎◌, inl, inr, refl, sym, subst, ℤ, Option, Some, None, arith}
use Rattle.std.proofs.lemmas.Int.{ints}
use Rattle.crs_model.specs.Reach.{Bounds, IsLongest, IsSmallSpan}

pub further : (a b s : Option ℤ) → Bounds a b → Bounds b s → Bounds a s
further None b s h k = tt
further (Some x) None s h k = absurd h
further (Some x) (Some y) None h k = absurd k
further (Some x) (Some y) (Some z) h k = omega (arith, ints)

-- the longer of the longest of P and that of Q, where R holds of those of P and those of Q
pub joined : (P Q R : Option ℤ → Type 0) (a b d : Option ℤ) → IsLongest P a → IsLongest Q b → IsLongest (λ s. (s ≡ a) ⊎ (s ≡ b)) d
    → ((s : Option ℤ) → P s → R s) → ((s : Option ℤ) → Q s → R s) → ((s : Option ℤ) → R s → P s ⊎ Q s) → IsLongest R d
joined P Q R a b d p q h of_p of_q back = record { one = among d h.one; bounds = λ s r. below s (back s r) }
  where
    among : (x : Option ℤ) → (x ≡ a) ⊎ (x ≡ b) → R x
    among x (inl e) = of_p x (subst P (sym e) p.one)
    among x (inr e) = of_q x (subst Q (sym e) q.one)

    below : (s : Option ℤ) → P s ⊎ Q s → Bounds d s
    below s (inl k) = further d a s (h.bounds a (inl refl)) (p.bounds s k)
    below s (inr k) = further d b s (h.bounds b (inr refl)) (q.bounds s k)

bounds_itself : (x : Option ℤ) → Bounds x x
bounds_itself None = tt
bounds_itself (Some x) = omega (arith, ints)

-- a span by itself
pub alone : (x : Option ℤ) → IsLongest (λ s. s ≡ x) x
alone x = record { one = refl; bounds = λ s e. subst (Bounds x) (sym e) (bounds_itself x) }

pub small_of : (a b d : Option ℤ) → IsSmallSpan a → IsSmallSpan b → (d ≡ a) ⊎ (d ≡ b) → IsSmallSpan d
small_of a b d h k (inl e) = subst IsSmallSpan (sym e) h
small_of a b d h k (inr e) = subst IsSmallSpan (sym e) k
