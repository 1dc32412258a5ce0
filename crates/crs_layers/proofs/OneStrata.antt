-- There is one stratum of each chronicle.
use Rattle.std.proofs.Common.{◌≡◌, ◌⊎◌, inl, inr, refl, ap, sym, subst, ℕ, suc, List, [], ◌∷◌, ◌++◌, length, zip, append_assoc, arith}
use Rattle.std.specs.List.{AllZip}
use Rattle.crs_base.specs.Words.{IsIn}
use Rattle.crs_base.proofs.Words.{in_append, in_append_left}
use Rattle.crs_model.specs.Models.{Chronicle}
use Rattle.crs_model.specs.Hierarchy.{IsGreatest, Feeds, AreInOrder, IsAbove, AreStrata}

one_greatest : (P : ℕ → Type 0) (a b : ℕ) → IsGreatest P a → IsGreatest P b → a ≡ b
one_greatest P a b h k = let x = h.bounds b k.one in let y = k.bounds a h.one in omega (arith, x, y)

zip_parts : {A B : Type 0} (xs ys : List A) (ks ms : List B) → length xs ≡ length ks → zip (xs ++ ys) (ks ++ ms) ≡ zip xs ks ++ zip ys ms
zip_parts [] ys [] ms e = refl
zip_parts [] ys (k ∷ ks) ms e = absurd (omega (arith, e))
zip_parts (x ∷ xs) ys [] ms e = absurd (omega (arith, e))
zip_parts (x ∷ xs) ys (k ∷ ks) ms e = ap (λ l. (x, k) ∷ l) (zip_parts xs ys ks ms (omega (arith, e)))

in_zip : {A B : Type 0} (xs : List A) (ys : List B) (x : A) (y : B) → IsIn (x, y) (zip xs ys) → IsIn x xs
in_zip [] ys x y i = absurd i
in_zip (a ∷ xs) [] x y i = absurd i
in_zip (a ∷ xs) (b ∷ ys) x y (inl e) = inl (ap (λ p. p.0) e)
in_zip (a ∷ xs) (b ∷ ys) x y (inr i) = inr (in_zip xs ys x y i)

module _ {S : Type 0} where
  -- the stratum of a chronicle is of those before it alone
  abbrev Above : List (Chronicle S) → List ℕ → Chronicle S → ℕ → Type 0
  Above cs strata c m = (m ≡ 0) ⊎ IsAbove cs strata c m

  before_alone : (pre post : List (Chronicle S)) (c : Chronicle S) (ks ns : List ℕ) (a : ℕ) → length pre ≡ length ks → ((d : Chronicle S) → IsIn d (c ∷ post) → Feeds d c → ⊥)
      → IsGreatest (Above (pre ++ c ∷ post) (ks ++ ns) c) a → IsGreatest (Above pre ks c) a
  before_alone pre post c ks ns a e later h = record { one = back a h.one; bounds = λ m i. h.bounds m (on m i) }
    where
      parts : zip (pre ++ c ∷ post) (ks ++ ns) ≡ zip pre ks ++ zip (c ∷ post) ns
      parts = zip_parts pre (c ∷ post) ks ns e

      back : (m : ℕ) → Above (pre ++ c ∷ post) (ks ++ ns) c m → Above pre ks c m
      back m (inl z) = inl z
      back m (inr (d, k, i, f, s)) = elim (in_append (zip pre ks) (zip (c ∷ post) ns) (d, k) (subst (IsIn (d, k)) parts i)) [
        | inl j ↦ inr (d, k, j, f, s)
        | inr j ↦ absurd (later d (in_zip (c ∷ post) ns d k j) f)
      ]

      on : (m : ℕ) → Above pre ks c m → Above (pre ++ c ∷ post) (ks ++ ns) c m
      on m (inl z) = inl z
      on m (inr (d, k, i, f, s)) = inr (d, k, subst (IsIn (d, k)) (sym parts) (in_append_left (zip pre ks) (zip (c ∷ post) ns) (d, k) i), f, s)

  abbrev Stand : List (Chronicle S) → List ℕ → List (Chronicle S) → List ℕ → Type 0
  Stand cs strata ds ns = AllZip (λ c n. IsGreatest (Above cs strata c) n) ds ns

  longer : (pre : List (Chronicle S)) (ks : List ℕ) (c : Chronicle S) (a : ℕ) → length pre ≡ length ks → length (pre ++ c ∷ []) ≡ length (ks ++ a ∷ [])
  longer [] [] c a e = refl
  longer [] (k ∷ ks) c a e = absurd (omega (arith, e))
  longer (d ∷ pre) [] c a e = absurd (omega (arith, e))
  longer (d ∷ pre) (k ∷ ks) c a e = ap suc (longer pre ks c a (omega (arith, e)))

  moved : (post pre : List (Chronicle S)) (ks : List ℕ) (c : Chronicle S) (a : ℕ) (rest own : List ℕ) → Stand (pre ++ c ∷ post) (ks ++ a ∷ rest) post own → Stand ((pre ++ c ∷ []) ++ post) ((ks ++ a ∷ []) ++ rest) post own
  moved post pre ks c a rest own h =
      subst (λ cs. Stand cs ((ks ++ a ∷ []) ++ rest) post own) (sym (append_assoc pre (c ∷ []) post)) (subst (λ ls. Stand (pre ++ c ∷ post) ls post own) (sym (append_assoc ks (a ∷ []) rest)) h)

  one_each : (post pre : List (Chronicle S)) (ks ns ms : List ℕ) → length pre ≡ length ks → AreInOrder post → Stand (pre ++ post) (ks ++ ns) post ns → Stand (pre ++ post) (ks ++ ms) post ms → ns ≡ ms
  one_each [] pre ks [] [] e o h k = refl
  one_each [] pre ks [] (b ∷ ms) e o h k = absurd k
  one_each [] pre ks (a ∷ ns) ms e o h k = absurd h
  one_each (c ∷ post) pre ks [] ms e o h k = absurd h
  one_each (c ∷ post) pre ks (a ∷ ns) [] e o h k = absurd k
  one_each (c ∷ post) pre ks (a ∷ ns) (b ∷ ms) e o h k =
      let first : a ≡ b = one_greatest (Above pre ks c) a b (before_alone pre post c ks (a ∷ ns) a e o.0 h.0) (before_alone pre post c ks (b ∷ ms) b e o.0 k.0) in
      let long = longer pre ks c a e in
      let x : Stand ((pre ++ c ∷ []) ++ post) ((ks ++ a ∷ []) ++ ns) post ns = moved post pre ks c a ns ns h.1 in
      let y : Stand ((pre ++ c ∷ []) ++ post) ((ks ++ a ∷ []) ++ ms) post ms = subst (λ s. Stand ((pre ++ c ∷ []) ++ post) ((ks ++ s ∷ []) ++ ms) post ms) (sym first) (moved post pre ks c b ms ms k.1) in
      λ i. first i ∷ one_each post (pre ++ c ∷ []) (ks ++ a ∷ []) ns ms long o.1 x y i

  pub one_strata : (cs : List (Chronicle S)) (ns ms : List ℕ) → AreInOrder cs → AreStrata cs ns → AreStrata cs ms → ns ≡ ms
  one_strata cs ns ms o h k = one_each cs [] [] ns ms refl o h k
