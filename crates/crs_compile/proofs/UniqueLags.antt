-- There are one lag and one stratum of each chronicle.
use Rattle.std.proofs.Common.{◌≡◌, ◌⊎◌, inl, inr, refl, ap, sym, subst, ◌∙◌, ◌<◌, ◌≤◌, ◌+◌, ℕ, zero, suc, List, [], ◌∷◌, ◌++◌, length, map, zip, Option, Some, append_assoc, arith}
use Rattle.std.specs.Prelude.{ℤ, pos, ◌+ℤ◌, ◌-ℤ◌, option_map, take, slice_get}
use Rattle.std.specs.List.{AllZip, AllByRecursion}
use Rattle.crs_base.specs.Words.{IsIn}
use Rattle.crs_base.proofs.Words.{in_append, in_append_left}
use Rattle.crs_model.specs.Models.{Anchor, Window, Emit, Chronicle, Name}
use Rattle.crs_model.specs.ProperModels.{IsProperWindow, IsProperEmit, IsProperChronicle}
use Rattle.crs_model.specs.Reach.{IsZero}
use Rattle.crs_model.specs.Hierarchy.{IsGreatest, Feeds, AreInOrder, IsAbove, AreStrata, IsEmitSpan, IsLag}
use Rattle.crs_model.specs.ShortLags.{AreSlow, AreLags, AreInTime, ClosesSlow}
use Rattle.crs_compile.proofs.Unique.{equal_spans, Agree, minimal_agree, AreBelow}

-- Lags.

one_lag : (n : ℕ) (most : ℕ → ℕ → Option ℤ) (ends : List Anchor) (from : List ℕ) (x y : Option ℤ) → IsLag n most ends from x → IsLag n most ends from y → x ≡ y
one_lag n most ends from x y h k = equal_spans x y (h.bounds y k.one) (k.bounds x h.one)

abbrev EmitSpans : ℕ → (ℕ → ℕ → Option ℤ) → List Anchor → List ℕ → Option ℤ → Type 0
EmitSpans n most ends from s = IsZero s ⊎ ((p : ℕ) × IsIn p from × IsEmitSpan n most ends p s)

emit_spans_same : (k n : ℕ) (f g : ℕ → ℕ → Option ℤ) (ends : List Anchor) (from : List ℕ) (s : Option ℤ) → k ≤ n → Agree n f g → AreBelow k ends → ((p : ℕ) → IsIn p from → p < k)
    → EmitSpans k f ends from s → EmitSpans k g ends from s
emit_spans_same k n f g ends from s l same below dated (inl z) = inl z
emit_spans_same k n f g ends from s l same below dated (inr (p, i, inl (r, b, e))) = let a = dated p i in inr (p, i, inl (r, b, e ∙ same p r (omega arith) (omega arith)))
emit_spans_same k n f g ends from s l same below dated (inr (p, i, inr (b, j, e))) =
    let a = dated p i in
    let c = below b j in
    inr (p, i, inr (b, j, e ∙ ap (option_map (λ m. (m +ℤ b.offset) -ℤ pos 1)) (same p b.event (omega arith) (omega arith))))

lag_same : (k n : ℕ) (f g : ℕ → ℕ → Option ℤ) (ends : List Anchor) (from : List ℕ) (x : Option ℤ) → k ≤ n → Agree n f g → AreBelow k ends → ((p : ℕ) → IsIn p from → p < k) → IsLag k f ends from x → IsLag k g ends from x
lag_same k n f g ends from x l same below dated h = record {
  one = emit_spans_same k n f g ends from x l same below dated h.one;
  bounds = λ s i. h.bounds s (emit_spans_same k n g f ends from s l (λ p q a b. sym (same p q a b)) below dated i);
}

module _ {S : Type 0} (names : List (Name S)) where
  ends_below : (c : Chronicle S) (ws : List (Window S)) → AllByRecursion (IsProperWindow names c) ws → AreBelow (length c.events) (map (λ w. w.to) ws)
  ends_below c [] h a i = absurd i
  ends_below c (w ∷ ws) h a (inl e) = subst (λ b. b.event < length c.events) (sym e) h.0.to.event
  ends_below c (w ∷ ws) h a (inr i) = ends_below c ws h.1 a i

  dates_below : (c : Chronicle S) (es : List (Emit S)) → AllByRecursion (IsProperEmit names c) es → (p : ℕ) → IsIn p (map (λ e. e.event) es) → p < length c.events
  dates_below c [] h p i = absurd i
  dates_below c (e ∷ es) h p (inl q) = subst (λ b. b < length c.events) (sym q) h.0.event
  dates_below c (e ∷ es) h p (inr i) = dates_below c es h.1 p i

  pub one_lag_each : (cs : List (Chronicle S)) (xs ys : List (Option ℤ)) → AllByRecursion (IsProperChronicle names) cs → AreLags cs xs → AreLags cs ys → xs ≡ ys
  one_lag_each [] [] [] p h k = refl
  one_lag_each [] [] (y ∷ ys) p h k = absurd k
  one_lag_each [] (x ∷ xs) ys p h k = absurd h
  one_lag_each (c ∷ cs) [] ys p h k = absurd h
  one_lag_each (c ∷ cs) (x ∷ xs) [] p h k = absurd k
  one_lag_each (c ∷ cs) (x ∷ xs) (y ∷ ys) p h k =
      let n : ℕ = length c.events + length c.free in
      let same = minimal_agree c.bounds n h.0.0 k.0.0 h.0.1 k.0.1 in
      let moved = lag_same (length c.events) n h.0.0 k.0.0 (map (λ w. w.to) c.windows) (map (λ e. e.event) c.emits) x (omega arith) same (ends_below c c.windows p.0.windows) (dates_below c c.emits p.0.emits) h.0.2 in
      let first : x ≡ y = one_lag (length c.events) k.0.0 (map (λ w. w.to) c.windows) (map (λ e. e.event) c.emits) x y moved k.0.2 in
      λ i. first i ∷ one_lag_each cs xs ys p.1 h.1 k.1 i

-- Strata.

one_greatest : (P : ℕ → Type 0) (a b : ℕ) → IsGreatest P a → IsGreatest P b → a ≡ b
one_greatest P a b h k = let x = h.bounds b k.one in let y = k.bounds a h.one in omega (arith, x, y)

zip_parts : {A B : Type 0} (xs ys : List A) (ks ms : List B) → length xs ≡ length ks → zip (xs ++ ys) (ks ++ ms) ≡ zip xs ks ++ zip ys ms
zip_parts [] ys [] ms e = refl
zip_parts [] ys (k ∷ ks) ms e = absurd (omega (arith, e))
zip_parts (x ∷ xs) ys [] ms e = absurd (omega (arith, e))
zip_parts (x ∷ xs) ys (k ∷ ks) ms e = ap (λ l. (x, k) ∷ l) (zip_parts xs ys ks ms (omega (arith, e)))

in_zip : {A B : Type 0} (xs : List A) (ys : List B) (x : A) (y : B) → IsIn (x, y) (zip xs ys) → IsIn x xs
in_zip [] ys x y i = absurd i
in_zip (a ∷ xs) [] x y i = absurd i
in_zip (a ∷ xs) (b ∷ ys) x y (inl e) = inl (ap (λ p. p.0) e)
in_zip (a ∷ xs) (b ∷ ys) x y (inr i) = inr (in_zip xs ys x y i)

module _ {S : Type 0} where
  -- the stratum of a chronicle is of those before it alone
  abbrev Above : List (Chronicle S) → List ℕ → Chronicle S → ℕ → Type 0
  Above cs strata c m = (m ≡ 0) ⊎ IsAbove cs strata c m

  before_alone : (pre post : List (Chronicle S)) (c : Chronicle S) (ks ns : List ℕ) (a : ℕ) → length pre ≡ length ks → ((d : Chronicle S) → IsIn d (c ∷ post) → Feeds d c → ⊥)
      → IsGreatest (Above (pre ++ c ∷ post) (ks ++ ns) c) a → IsGreatest (Above pre ks c) a
  before_alone pre post c ks ns a e later h = record { one = back a h.one; bounds = λ m i. h.bounds m (on m i) }
    where
      parts : zip (pre ++ c ∷ post) (ks ++ ns) ≡ zip pre ks ++ zip (c ∷ post) ns
      parts = zip_parts pre (c ∷ post) ks ns e

      back : (m : ℕ) → Above (pre ++ c ∷ post) (ks ++ ns) c m → Above pre ks c m
      back m (inl z) = inl z
      back m (inr (d, k, i, f, s)) = elim (in_append (zip pre ks) (zip (c ∷ post) ns) (d, k) (subst (IsIn (d, k)) parts i)) [
        | inl j ↦ inr (d, k, j, f, s)
        | inr j ↦ absurd (later d (in_zip (c ∷ post) ns d k j) f)
      ]

      on : (m : ℕ) → Above pre ks c m → Above (pre ++ c ∷ post) (ks ++ ns) c m
      on m (inl z) = inl z
      on m (inr (d, k, i, f, s)) = inr (d, k, subst (IsIn (d, k)) (sym parts) (in_append_left (zip pre ks) (zip (c ∷ post) ns) (d, k) i), f, s)

  abbrev Stand : List (Chronicle S) → List ℕ → List (Chronicle S) → List ℕ → Type 0
  Stand cs strata ds ns = AllZip (λ c n. IsGreatest (Above cs strata c) n) ds ns

  longer : (pre : List (Chronicle S)) (ks : List ℕ) (c : Chronicle S) (a : ℕ) → length pre ≡ length ks → length (pre ++ c ∷ []) ≡ length (ks ++ a ∷ [])
  longer [] [] c a e = refl
  longer [] (k ∷ ks) c a e = absurd (omega (arith, e))
  longer (d ∷ pre) [] c a e = absurd (omega (arith, e))
  longer (d ∷ pre) (k ∷ ks) c a e = ap suc (longer pre ks c a (omega (arith, e)))

  moved : (post pre : List (Chronicle S)) (ks : List ℕ) (c : Chronicle S) (a : ℕ) (rest own : List ℕ) → Stand (pre ++ c ∷ post) (ks ++ a ∷ rest) post own → Stand ((pre ++ c ∷ []) ++ post) ((ks ++ a ∷ []) ++ rest) post own
  moved post pre ks c a rest own h =
      subst (λ cs. Stand cs ((ks ++ a ∷ []) ++ rest) post own) (sym (append_assoc pre (c ∷ []) post)) (subst (λ ls. Stand (pre ++ c ∷ post) ls post own) (sym (append_assoc ks (a ∷ []) rest)) h)

  one_each : (post pre : List (Chronicle S)) (ks ns ms : List ℕ) → length pre ≡ length ks → AreInOrder post → Stand (pre ++ post) (ks ++ ns) post ns → Stand (pre ++ post) (ks ++ ms) post ms → ns ≡ ms
  one_each [] pre ks [] [] e o h k = refl
  one_each [] pre ks [] (b ∷ ms) e o h k = absurd k
  one_each [] pre ks (a ∷ ns) ms e o h k = absurd h
  one_each (c ∷ post) pre ks [] ms e o h k = absurd h
  one_each (c ∷ post) pre ks (a ∷ ns) [] e o h k = absurd k
  one_each (c ∷ post) pre ks (a ∷ ns) (b ∷ ms) e o h k =
      let first : a ≡ b = one_greatest (Above pre ks c) a b (before_alone pre post c ks (a ∷ ns) a e o.0 h.0) (before_alone pre post c ks (b ∷ ms) b e o.0 k.0) in
      let long = longer pre ks c a e in
      let x : Stand ((pre ++ c ∷ []) ++ post) ((ks ++ a ∷ []) ++ ns) post ns = moved post pre ks c a ns ns h.1 in
      let y : Stand ((pre ++ c ∷ []) ++ post) ((ks ++ a ∷ []) ++ ms) post ms = subst (λ s. Stand ((pre ++ c ∷ []) ++ post) ((ks ++ s ∷ []) ++ ms) post ms) (sym first) (moved post pre ks c b ms ms k.1) in
      λ i. first i ∷ one_each post (pre ++ c ∷ []) (ks ++ a ∷ []) ns ms long o.1 x y i

  pub one_strata : (cs : List (Chronicle S)) (ns ms : List ℕ) → AreInOrder cs → AreStrata cs ns → AreStrata cs ms → ns ≡ ms
  one_strata cs ns ms o h k = one_each cs [] [] ns ms refl o h k

within : {A : Type 0} (xs : List A) (n : ℕ) (x : A) → slice_get xs n ≡ Some x → suc n ≤ length xs
within [] n x e = absurd cc
within (y ∷ xs) zero x e = omega arith
within (y ∷ xs) (suc n) x e = let r = within xs n x e in omega (arith, r)

-- Proper chronicles in order are in time, or one closes too slow, and never both.
pub not_both : (S : Type 0) (names : List (Name S)) (cs : List (Chronicle S)) (line : ℕ) → AllByRecursion (IsProperChronicle names) cs → AreInOrder cs → AreInTime S cs → ClosesSlow S cs line → ⊥
not_both S names cs line proper order h k =
    let strata = one_strata cs k.strata h.strata order k.are_strata h.are_strata in
    let lags = one_lag_each names cs k.lags h.lags proper k.are_lags h.are_lags in
    h.fast (suc k.place) (within cs k.place k.closed k.there) (subst (λ (x : List ℕ × List (Option ℤ)). AreSlow (zip (take (suc k.place) x.0) (take (suc k.place) x.1))) (λ i. (strata i, lags i)) k.slow)
