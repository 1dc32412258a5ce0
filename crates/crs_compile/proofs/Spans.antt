-- The reach, span by span.
use Rattle.std.proofs.Common.{◌≡◌, ◌⊎◌, inl, inr, refl, sym, subst, ◌∙◌, ap, ℕ, ◌+◌, List, ◌∷◌, Option, Some, None, option_map, arith}
use Rattle.std.specs.Prelude.{ℤ, pos, ◌-ℤ◌}
use Rattle.std.proofs.lemmas.Int.{ints}
use borrow.Author.Count.{below_none, below_more}
use Rattle.crs_base.specs.Words.{IsIn}
use Rattle.crs_model.specs.Models.{Anchor}
use Rattle.crs_model.specs.Reach.{IsLongest, IsZero, span_of, IsSpanFrom, IsPairSpan, IsStartSpan, IsReach, IsReachOfAll, IsSmallSpan}
use Rattle.crs_compile.proofs.Longest.{joined, alone, small_of}

abbrev Most : Type 0
Most = ℕ → ℕ → Option ℤ

abbrev pub at_event : ℕ → Anchor
at_event p = record { event = p; offset = pos 0 }

less_zero : (o : Option ℤ) → option_map (λ m. m -ℤ pos 0) o ≡ o
less_zero None = refl
less_zero (Some m) = ap Some (omega (arith, ints))

pub span_at_event : (most : ℕ → ℕ → Option ℤ) (p r : ℕ) → span_of most (at_event p) r ≡ most p r
span_at_event most p r = less_zero (most p r)

-- the longest of 0 and of the spans from the anchor to the events below n
pub record IsFurthest (most : ℕ → ℕ → Option ℤ) (a : Anchor) (n : ℕ) (d : Option ℤ) : Type 0 where
  pub longest : IsLongest (λ s. IsZero s ⊎ IsSpanFrom n most a s) d
  pub small : IsSmallSpan d

-- the longest of 0 and of the spans from the events below k to those below n
pub record IsPairFurthest (most : ℕ → ℕ → Option ℤ) (k n : ℕ) (d : Option ℤ) : Type 0 where
  pub longest : IsLongest (λ s. IsZero s ⊎ IsPairSpan k n most s) d
  pub small : IsSmallSpan d

-- 0 is the longest where there is nothing else
pub zero_alone : (P : Option ℤ → Type 0) → ((s : Option ℤ) → P s → ⊥) → IsLongest (λ s. IsZero s ⊎ P s) (Some (pos 0))
zero_alone P none = record { one = inl refl; bounds = λ s h. (alone (Some (pos 0))).bounds s (only s h) }
  where
    only : (s : Option ℤ) → IsZero s ⊎ P s → IsZero s
    only s (inl z) = z
    only s (inr p) = absurd (none s p)

pub furthest_none : (most : ℕ → ℕ → Option ℤ) (a : Anchor) → IsFurthest most a 0 (Some (pos 0))
furthest_none most a = record {
  longest = zero_alone (IsSpanFrom 0 most a) (λ s f. below_none (λ r. ⊥) f.0 f.1);
  small = omega (arith, ints);
}

pub furthest_more : (most : ℕ → ℕ → Option ℤ) (a : Anchor) (n : ℕ) (d x e : Option ℤ) → x ≡ span_of most a n → IsSmallSpan x
    → IsLongest (λ s. (s ≡ d) ⊎ (s ≡ x)) e → IsFurthest most a n d → IsFurthest most a (n + 1) e
furthest_more most a n d x e is small h f = record {
  longest = joined (λ s. IsZero s ⊎ IsSpanFrom n most a s) (λ s. s ≡ x) (λ s. IsZero s ⊎ IsSpanFrom (n + 1) most a s) d x e f.longest (alone x) h widen (λ s k. inr (n, omega arith, k ∙ is)) back;
  small = small_of d x e f.small small h.one;
}
  where
    widen : (s : Option ℤ) → IsZero s ⊎ IsSpanFrom n most a s → IsZero s ⊎ IsSpanFrom (n + 1) most a s
    widen s (inl z) = inl z
    widen s (inr (r, l, k)) = inr (r, omega arith, k)

    back : (s : Option ℤ) → IsZero s ⊎ IsSpanFrom (n + 1) most a s → (IsZero s ⊎ IsSpanFrom n most a s) ⊎ (s ≡ x)
    back s (inl z) = inl (inl z)
    back s (inr (r, l, k)) =
        below_more (λ q. s ≡ span_of most a q → (IsZero s ⊎ IsSpanFrom n most a s) ⊎ (s ≡ x)) n (λ q b j. inl (inr (q, b, j))) (λ j. inr (j ∙ sym is)) r l k

pub pairs_none : (most : ℕ → ℕ → Option ℤ) (n : ℕ) → IsPairFurthest most 0 n (Some (pos 0))
pairs_none most n = record {
  longest = zero_alone (IsPairSpan 0 n most) (λ s f. below_none (λ r. ⊥) f.0 f.2);
  small = omega (arith, ints);
}

pub pairs_more : (most : ℕ → ℕ → Option ℤ) (k n : ℕ) (d x e : Option ℤ) → IsFurthest most (at_event k) n x
    → IsLongest (λ s. (s ≡ d) ⊎ (s ≡ x)) e → IsPairFurthest most k n d → IsPairFurthest most (k + 1) n e
pairs_more most k n d x e g h f = record {
  longest = joined (λ s. IsZero s ⊎ IsPairSpan k n most s) (λ s. IsZero s ⊎ IsSpanFrom n most (at_event k) s) (λ s. IsZero s ⊎ IsPairSpan (k + 1) n most s) d x e f.longest g.longest h widen next back;
  small = small_of d x e f.small g.small h.one;
}
  where
    widen : (s : Option ℤ) → IsZero s ⊎ IsPairSpan k n most s → IsZero s ⊎ IsPairSpan (k + 1) n most s
    widen s (inl z) = inl z
    widen s (inr (p, r, l, m, j)) = inr (p, r, omega arith, m, j)

    next : (s : Option ℤ) → IsZero s ⊎ IsSpanFrom n most (at_event k) s → IsZero s ⊎ IsPairSpan (k + 1) n most s
    next s (inl z) = inl z
    next s (inr (r, m, j)) = inr (k, r, omega arith, m, j ∙ span_at_event most k r)

    back : (s : Option ℤ) → IsZero s ⊎ IsPairSpan (k + 1) n most s → (IsZero s ⊎ IsPairSpan k n most s) ⊎ (IsZero s ⊎ IsSpanFrom n most (at_event k) s)
    back s (inl z) = inl (inl z)
    back s (inr (p, r, l, m, j)) =
        below_more (λ q. s ≡ most q r → (IsZero s ⊎ IsPairSpan k n most s) ⊎ (IsZero s ⊎ IsSpanFrom n most (at_event k) s)) k
        (λ q b i. inl (inr (q, r, b, m, i))) (λ i. inr (inr (r, m, i ∙ sym (span_at_event most k r)))) p l j

pub starts_more : (most : ℕ → ℕ → Option ℤ) (n : ℕ) (a : Anchor) (rest : List Anchor) (x y d : Option ℤ)
    → IsLongest (λ s. IsZero s ⊎ IsSpanFrom n most a s) x → IsLongest (λ s. IsZero s ⊎ IsStartSpan n most rest s) y → IsLongest (λ s. (s ≡ x) ⊎ (s ≡ y)) d
    → IsLongest (λ s. IsZero s ⊎ IsStartSpan n most (a ∷ rest) s) d
starts_more most n a rest x y d f g h =
    joined (λ s. IsZero s ⊎ IsSpanFrom n most a s) (λ s. IsZero s ⊎ IsStartSpan n most rest s) (λ s. IsZero s ⊎ IsStartSpan n most (a ∷ rest) s) x y d f g h first later back
  where
    first : (s : Option ℤ) → IsZero s ⊎ IsSpanFrom n most a s → IsZero s ⊎ IsStartSpan n most (a ∷ rest) s
    first s (inl z) = inl z
    first s (inr k) = inr (a, inl refl, k)

    later : (s : Option ℤ) → IsZero s ⊎ IsStartSpan n most rest s → IsZero s ⊎ IsStartSpan n most (a ∷ rest) s
    later s (inl z) = inl z
    later s (inr (b, i, k)) = inr (b, inr i, k)

    back : (s : Option ℤ) → IsZero s ⊎ IsStartSpan n most (a ∷ rest) s → (IsZero s ⊎ IsSpanFrom n most a s) ⊎ (IsZero s ⊎ IsStartSpan n most rest s)
    back s (inl z) = inl (inl z)
    back s (inr (b, inl e, k)) = inl (inr (subst (λ c. IsSpanFrom n most c s) e k))
    back s (inr (b, inr i, k)) = inr (inr (b, i, k))

pub reach_joined : (most : ℕ → ℕ → Option ℤ) (n : ℕ) (starts : List Anchor) (x y d : Option ℤ)
    → IsLongest (λ s. IsZero s ⊎ IsPairSpan n n most s) x → IsLongest (λ s. IsZero s ⊎ IsStartSpan n most starts s) y → IsLongest (λ s. (s ≡ x) ⊎ (s ≡ y)) d
    → IsReach n most starts d
reach_joined most n starts x y d f g h =
    joined (λ s. IsZero s ⊎ IsPairSpan n n most s) (λ s. IsZero s ⊎ IsStartSpan n most starts s) (λ s. IsZero s ⊎ (IsPairSpan n n most s ⊎ IsStartSpan n most starts s)) x y d f g h first later back
  where
    first : (s : Option ℤ) → IsZero s ⊎ IsPairSpan n n most s → IsZero s ⊎ (IsPairSpan n n most s ⊎ IsStartSpan n most starts s)
    first s (inl z) = inl z
    first s (inr k) = inr (inl k)

    later : (s : Option ℤ) → IsZero s ⊎ IsStartSpan n most starts s → IsZero s ⊎ (IsPairSpan n n most s ⊎ IsStartSpan n most starts s)
    later s (inl z) = inl z
    later s (inr k) = inr (inr k)

    back : (s : Option ℤ) → IsZero s ⊎ (IsPairSpan n n most s ⊎ IsStartSpan n most starts s) → (IsZero s ⊎ IsPairSpan n n most s) ⊎ (IsZero s ⊎ IsStartSpan n most starts s)
    back s (inl z) = inl (inl z)
    back s (inr (inl k)) = inl (inr k)
    back s (inr (inr k)) = inr (inr k)

pub all_more : (x : Option ℤ) (rest : List (Option ℤ)) (y d : Option ℤ) → IsReachOfAll rest y → IsLongest (λ s. (s ≡ x) ⊎ (s ≡ y)) d → IsReachOfAll (x ∷ rest) d
all_more x rest y d g h = joined (λ s. s ≡ x) (λ s. IsZero s ⊎ IsIn s rest) (λ s. IsZero s ⊎ IsIn s (x ∷ rest)) x y d (alone x) g h (λ s e. inr (inl e)) later back
  where
    later : (s : Option ℤ) → IsZero s ⊎ IsIn s rest → IsZero s ⊎ IsIn s (x ∷ rest)
    later s (inl z) = inl z
    later s (inr i) = inr (inr i)

    back : (s : Option ℤ) → IsZero s ⊎ IsIn s (x ∷ rest) → (s ≡ x) ⊎ (IsZero s ⊎ IsIn s rest)
    back s (inl z) = inr (inl z)
    back s (inr (inl e)) = inl e
    back s (inr (inr i)) = inr (inr i)
