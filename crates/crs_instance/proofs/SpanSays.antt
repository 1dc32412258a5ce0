-- What spans say of windows.
use Rattle.std.proofs.Common.{◌≡◌, ℕ, zero, suc, ◌<◌, ◌+◌, ◌^◌, List, [], ◌∷◌, ◌++◌, length, refl, sym, ap, subst, ◌∙◌, arith}
use Rattle.std.specs.Prelude.{ℤ, pos, neg_ℤ, ◌<ℤ◌, Option, Some, slice_index_or, replicate}
use Rattle.std.specs.Int.{int_max, int_min}
use Rattle.std.proofs.lemmas.Int.{ints}
use Rattle.std.proofs.lemmas.List.{get_or_default, map-append}
use Rattle.crs_stn.specs.Cycle.{lesser}
use Rattle.crs_stn.specs.DateWindow.{greater_of, least_of}
use Rattle.crs_model.specs.declared.date_window.DateWindow.{DateWindow}
use Rattle.crs_instance.specs.declared.span.Span.{Span}
use Rattle.crs_instance.specs.Instances.{window_at}
use Rattle.crs_instance.specs.Spans.{end_of, start_of, window_of, windows_of, no_span}

pub end_least : (a b : ℤ) → end_of (int_min a b) ≡ lesser (end_of a) (end_of b)
end_least a b = grind (arith, ints)

pub start_greatest : (a b : ℤ) → start_of (int_max a b) ≡ greater_of (start_of a) (start_of b)
start_greatest a b = grind (arith, ints)

pub end_some : (n : ℤ) → n <ℤ pos (2 ^ 50) → end_of n ≡ Some n
end_some n l = grind (arith, ints)

pub start_some : (n : ℤ) → neg_ℤ (pos (2 ^ 50)) <ℤ n → start_of n ≡ Some n
start_some n l = grind (arith, ints)

-- a window of a list of spans
pub window_there : (ss : List Span) (r : ℕ) → window_at (windows_of ss) r ≡ window_of (slice_index_or ss r no_span)
window_there [] r = refl
window_there (s ∷ ss) zero = refl
window_there (s ∷ ss) (suc r) = window_there ss r

pub windows_replicate : (n : ℕ) (s : Span) → windows_of (replicate n s) ≡ replicate n (window_of s)
windows_replicate zero s = refl
windows_replicate (suc n) s = ap (λ (t : List DateWindow). window_of s ∷ t) (windows_replicate n s)

pub window_in : (ss : List Span) (e : ℕ) (d : Span) → e < length ss → window_of (slice_index_or ss e d) ≡ window_at (windows_of ss) e
window_in ss e d l = ap window_of (get_or_default ss e d no_span l) ∙ sym (window_there ss e)

pub window_from : (ss : List Span) (e : ℕ) (s : Span) → s ≡ slice_index_or ss e s → e < length ss → window_of s ≡ window_at (windows_of ss) e
window_from ss e s is l = ap window_of (is ∙ get_or_default ss e s no_span l) ∙ sym (window_there ss e)

-- one more span
pub windows_push : (ss more : List Span) (s : Span) → more ≡ ss ++ s ∷ [] → windows_of more ≡ windows_of ss ++ window_of s ∷ []
windows_push ss more s is = ap windows_of is ∙ map-append window_of ss (s ∷ [])

-- the least end of one event more
pub more_ends : (r latest l earliest : ℤ) (f : ℕ → Option ℤ) (e : ℕ) → l ≡ latest → end_of r ≡ lesser (end_of l) (end_of earliest) → end_of latest ≡ f e → end_of earliest ≡ least_of f e → end_of r ≡ least_of f (e + 1)
more_ends r latest l earliest f e s is one rest =
    let next : suc e ≡ e + 1 = omega arith in
    subst (λ (n : ℕ). end_of r ≡ least_of f n) next
    (is ∙ ap (λ (z : ℤ). lesser (end_of z) (end_of earliest)) s ∙ ap (λ (o : Option ℤ). lesser o (end_of earliest)) one ∙ ap (lesser (f e)) rest)
