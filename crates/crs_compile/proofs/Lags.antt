-- The lag, span by span.
use Rattle.std.proofs.Common.{◌≡◌, ◌⊎◌, inl, inr, refl, sym, subst, ◌∙◌, ap, ℕ, List, [], ◌∷◌, Option, Some}
use Rattle.std.specs.Prelude.{ℤ, pos}
use Rattle.crs_base.specs.Words.{IsIn}
use Rattle.crs_model.specs.Models.{Anchor}
use Rattle.crs_model.specs.Hierarchy.{end_span, IsEndSpan, IsEmitSpan, IsLag}
use Rattle.crs_model.specs.Reach.{IsLongest, IsZero, IsSpanFrom}
use Rattle.crs_compile.proofs.Longest.{joined, alone}
use Rattle.crs_compile.proofs.Spans.{at_event, zero_alone, span_at_event}

pub ends_none : (most : ℕ → ℕ → Option ℤ) (p : ℕ) → IsLongest (λ s. IsZero s ⊎ IsEndSpan most [] p s) (Some (pos 0))
ends_none most p = zero_alone (IsEndSpan most [] p) (λ s k. k.1)

pub ends_more : (most : ℕ → ℕ → Option ℤ) (p : ℕ) (b : Anchor) (rest : List Anchor) (x y d : Option ℤ) → x ≡ end_span most p b
    → IsLongest (λ s. IsZero s ⊎ IsEndSpan most rest p s) y → IsLongest (λ s. (s ≡ x) ⊎ (s ≡ y)) d → IsLongest (λ s. IsZero s ⊎ IsEndSpan most (b ∷ rest) p s) d
ends_more most p b rest x y d is g h =
    joined (λ s. s ≡ x) (λ s. IsZero s ⊎ IsEndSpan most rest p s) (λ s. IsZero s ⊎ IsEndSpan most (b ∷ rest) p s) x y d (alone x) g h (λ s e. inr (b, inl refl, e ∙ is)) later back
  where
    later : (s : Option ℤ) → IsZero s ⊎ IsEndSpan most rest p s → IsZero s ⊎ IsEndSpan most (b ∷ rest) p s
    later s (inl z) = inl z
    later s (inr k) = inr (k.0, inr k.1, k.2)

    back : (s : Option ℤ) → IsZero s ⊎ IsEndSpan most (b ∷ rest) p s → (s ≡ x) ⊎ (IsZero s ⊎ IsEndSpan most rest p s)
    back s (inl z) = inr (inl z)
    back s (inr (c, inl e, k)) = inl (k ∙ ap (end_span most p) e ∙ sym is)
    back s (inr (c, inr i, k)) = inr (inr (c, i, k))

pub emit_joined : (n : ℕ) (most : ℕ → ℕ → Option ℤ) (ends : List Anchor) (p : ℕ) (x y d : Option ℤ)
    → IsLongest (λ s. IsZero s ⊎ IsSpanFrom n most (at_event p) s) x → IsLongest (λ s. IsZero s ⊎ IsEndSpan most ends p s) y → IsLongest (λ s. (s ≡ x) ⊎ (s ≡ y)) d
    → IsLongest (λ s. IsZero s ⊎ IsEmitSpan n most ends p s) d
emit_joined n most ends p x y d f g h =
    joined (λ s. IsZero s ⊎ IsSpanFrom n most (at_event p) s) (λ s. IsZero s ⊎ IsEndSpan most ends p s) (λ s. IsZero s ⊎ IsEmitSpan n most ends p s) x y d f g h first later back
  where
    first : (s : Option ℤ) → IsZero s ⊎ IsSpanFrom n most (at_event p) s → IsZero s ⊎ IsEmitSpan n most ends p s
    first s (inl z) = inl z
    first s (inr (r, l, k)) = inr (inl (r, l, k ∙ span_at_event most p r))

    later : (s : Option ℤ) → IsZero s ⊎ IsEndSpan most ends p s → IsZero s ⊎ IsEmitSpan n most ends p s
    later s (inl z) = inl z
    later s (inr k) = inr (inr k)

    back : (s : Option ℤ) → IsZero s ⊎ IsEmitSpan n most ends p s → (IsZero s ⊎ IsSpanFrom n most (at_event p) s) ⊎ (IsZero s ⊎ IsEndSpan most ends p s)
    back s (inl z) = inl (inl z)
    back s (inr (inl (r, l, k))) = inl (inr (r, l, k ∙ sym (span_at_event most p r)))
    back s (inr (inr k)) = inr (inr k)

pub lags_none : (n : ℕ) (most : ℕ → ℕ → Option ℤ) (ends : List Anchor) → IsLag n most ends [] (Some (pos 0))
lags_none n most ends = zero_alone (λ s. (p : ℕ) × IsIn p [] × IsEmitSpan n most ends p s) (λ s k. k.1)

pub lags_more : (n : ℕ) (most : ℕ → ℕ → Option ℤ) (ends : List Anchor) (p : ℕ) (rest : List ℕ) (x y d : Option ℤ)
    → IsLongest (λ s. IsZero s ⊎ IsEmitSpan n most ends p s) x → IsLag n most ends rest y → IsLongest (λ s. (s ≡ x) ⊎ (s ≡ y)) d → IsLag n most ends (p ∷ rest) d
lags_more n most ends p rest x y d f g h =
    joined (λ s. IsZero s ⊎ IsEmitSpan n most ends p s) (λ s. IsZero s ⊎ ((q : ℕ) × IsIn q rest × IsEmitSpan n most ends q s)) (λ s. IsZero s ⊎ ((q : ℕ) × IsIn q (p ∷ rest) × IsEmitSpan n most ends q s)) x y d f g h first later back
  where
    first : (s : Option ℤ) → IsZero s ⊎ IsEmitSpan n most ends p s → IsZero s ⊎ ((q : ℕ) × IsIn q (p ∷ rest) × IsEmitSpan n most ends q s)
    first s (inl z) = inl z
    first s (inr k) = inr (p, inl refl, k)

    later : (s : Option ℤ) → IsZero s ⊎ ((q : ℕ) × IsIn q rest × IsEmitSpan n most ends q s) → IsZero s ⊎ ((q : ℕ) × IsIn q (p ∷ rest) × IsEmitSpan n most ends q s)
    later s (inl z) = inl z
    later s (inr k) = inr (k.0, inr k.1, k.2)

    back : (s : Option ℤ) → IsZero s ⊎ ((q : ℕ) × IsIn q (p ∷ rest) × IsEmitSpan n most ends q s) → (IsZero s ⊎ IsEmitSpan n most ends p s) ⊎ (IsZero s ⊎ ((q : ℕ) × IsIn q rest × IsEmitSpan n most ends q s))
    back s (inl z) = inl (inl z)
    back s (inr (q, inl e, k)) = inl (inr (subst (λ r. IsEmitSpan n most ends r s) e k))
    back s (inr (q, inr i, k)) = inr (inr (q, i, k))
