-- Lists of what is armed.
use Rattle.std.proofs.Common.{◌≡◌, ℕ, ◌<◌, ◌+◌, ◌-◌, ◌^◌, Bool, true, false, not, cond, ◌&&◌, List, [], ◌∷◌, map, filter, refl, sym, ap, subst, ◌∙◌, arith}
use Rattle.std.specs.Cmp.{IsTotalOrder}
use Rattle.std.specs.List.{All, AllByRecursion}
use Rattle.std.specs.List.Sorted.{IsStrictlySortedBy}
use Rattle.std.specs.Ordering.{nat_cmp, ordering_then, is_eq, is_le, is_lt, MatchOrdering}
use Rattle.std.specs.declared.cmp.Ordering.{Ordering}
use Rattle.std.specs.declared.cmp.Ordering.TheVariants.{Less, Equal, Greater}
use Rattle.std.specs.declared.ops.Bound.TheVariants.{Included}
use Rattle.std.specs.BTreeMap.{insert_entry}
use Rattle.std.specs.BTreeMap.Range.{range_contains}
use Rattle.std.specs.Map.{keys_of}
use Rattle.std.proofs.lemmas.Cmp.{ranked}
use Rattle.std.proofs.lemmas.Map.Views.{All-keys-insert_entry}
use Rattle.std.proofs.lemmas.List.Elements.{All-from_recursion, recursion_from_All}
use Rattle.crs_model.specs.declared.progress.Stretch.{Stretch}
use Rattle.crs_watch.specs.Watching.{Armed, touched_cmp, has_date, armed_pair, armed_cmp, IsSized, is_touched}

-- a filter of a filter, whose first test is another one on these elements
filter_both : {A B : Type 0} (f : A → B) (P : B → Type 0) (p q r : A → Bool) → ((x : A) → P (f x) → p x ≡ q x) → (xs : List A) → AllByRecursion P (map f xs)
    → filter r (filter p xs) ≡ filter (λ x. q x && r x) xs
filter_both f P p q r same [] all = refl
filter_both {A} f P p q r same (x ∷ xs) all = by (p x) (q x) (same x all.0) (filter_both f P p q r same xs all.1)
  where
    both : List A
    both = filter (λ y. q y && r y) xs

    by : (a b : Bool) → a ≡ b → filter r (filter p xs) ≡ both → filter r (cond a (x ∷ filter p xs) (filter p xs)) ≡ cond (b && r x) (x ∷ both) both
    by true true e h = ap (λ ys. cond (r x) (x ∷ ys) ys) h
    by false false e h = h
    by true false e h = absurd cc
    by false true e h = absurd cc

least_le : (n : ℕ) (o : Ordering) → MatchOrdering o (0 < n) (0 ≡ n) (n < 0) → is_le o ≡ true
least_le n Less h = refl
least_le n Equal h = refl
least_le n Greater h = absurd (omega (arith, h))

most_not_lt : (m n : ℕ) (o : Ordering) → n < m + 1 → MatchOrdering o (m < n) (m ≡ n) (n < m) → is_lt o ≡ false
most_not_lt m n Less l h = absurd (omega (arith, h))
most_not_lt m n Equal l h = refl
most_not_lt m n Greater l h = refl

le_then : (o p q : Ordering) → is_le p ≡ true → is_le q ≡ true → is_le (ordering_then (ordering_then o p) q) ≡ is_le o
le_then Less p q h k = refl
le_then Equal Less q h k = refl
le_then Equal Equal q h k = k
le_then Equal Greater q h k = h
le_then Greater p q h k = refl

lt_then : (o p q : Ordering) → is_lt p ≡ false → is_lt q ≡ false → is_lt (ordering_then (ordering_then o p) q) ≡ is_lt o
lt_then Less p q h k = refl
lt_then Equal Less q h k = h
lt_then Equal Equal q h k = k
lt_then Equal Greater q h k = refl
lt_then Greater p q h k = refl

le_not_lt : (o : Ordering) → (is_le o && not (is_lt o)) ≡ is_eq o
le_not_lt Less = refl
le_not_lt Equal = refl
le_not_lt Greater = refl

tied_of : (o : Ordering) → is_eq o ≡ true → o ≡ Equal
tied_of Less h = absurd cc
tied_of Equal h = refl
tied_of Greater h = absurd cc

and_first : (a b : Bool) → (a && b) ≡ true → a ≡ true
and_first true b h = refl
and_first false b h = h

module _ {K : Type 0} (cmp : K → K → Ordering) (name : K) where
  -- between the least and the greatest pair of the name
  abbrev pub is_between : K × ℕ × ℕ → Bool
  is_between k = range_contains (armed_cmp cmp) (Included (name, 0, 0)) (Included (name, 2 ^ 64 - 1, 2 ^ 8 - 1)) k

  -- that is, of the name
  between_is_named : (k : K × ℕ × ℕ) → IsSized k → is_between k ≡ is_eq (cmp name k.0)
  between_is_named k sized =
      let high_id = most_not_lt (2 ^ 64 - 1) k.1 _ sized.0 (ranked (2 ^ 64 - 1) k.1 _ refl) in
      let high_window = most_not_lt (2 ^ 8 - 1) k.2 _ sized.1 (ranked (2 ^ 8 - 1) k.2 _ refl) in
      let low = le_then (cmp name k.0) _ _ (least_le k.1 _ (ranked 0 k.1 _ refl)) (least_le k.2 _ (ranked 0 k.2 _ refl)) in
      rw (low, lt_then (cmp name k.0) _ _ high_id high_window) (le_not_lt (cmp name k.0))

  module _ (date : ℕ) where
    abbrev touched : Armed K → Armed K
    touched es = filter (is_touched cmp name date) es

    pub touched_between : (es : Armed K) → All IsSized (keys_of es)
        → filter (λ e. has_date date e.1) (filter (λ e. is_between e.0) es) ≡ filter (is_touched cmp name date) es
    touched_between es sized =
        filter_both (λ e. e.0) IsSized (λ e. is_between e.0) (λ e. is_eq (cmp name e.0.0)) (λ e. has_date date e.1)
        (λ e h. between_is_named e.0 h) es (recursion_from_All IsSized (keys_of es) sized)

    module _ (o : IsTotalOrder cmp) where
      abbrev AreAfter : (K × ℕ × ℕ) × Stretch → Armed K → Type 0
      AreAfter x es = AllByRecursion (λ p. touched_cmp (armed_pair x) p ≡ Less) (map armed_pair es)

      of_name : (e : (K × ℕ × ℕ) × Stretch) → is_touched cmp name date e ≡ true → cmp name e.0.0 ≡ Equal
      of_name e h = tied_of (cmp name e.0.0) (and_first (is_eq (cmp name e.0.0)) (has_date date e.1) h)

      -- of two pairs of the name the lesser is so by id and window
      below : (x y : K × ℕ × ℕ) → cmp name x.0 ≡ Equal → cmp name y.0 ≡ Equal → armed_cmp cmp x y ≡ Less
          → touched_cmp (x.1, x.2) (y.1, y.2) ≡ Less
      below x y h k l = subst (λ r. ordering_then (ordering_then r (nat_cmp x.1 y.1)) (nat_cmp x.2 y.2) ≡ Less) (sym (o.congr name x.0 y.0 h) ∙ k) l

      all_after : (x : (K × ℕ × ℕ) × Stretch) → cmp name x.0.0 ≡ Equal → (es : Armed K) → AllByRecursion (λ k. armed_cmp cmp x.0 k ≡ Less) (keys_of es)
          → AreAfter x (touched es)
      all_after x h [] all = tt
      all_after x h (e ∷ es) all = by (is_touched cmp name date e) refl (all_after x h es all.1)
        where
          by : (b : Bool) → is_touched cmp name date e ≡ b → AreAfter x (touched es) → AreAfter x (cond b (e ∷ touched es) (touched es))
          by true q r = (below x.0 e.0 h (of_name e q) all.0, r)
          by false q r = r

      abbrev Ascend : Armed K → Type 0
      Ascend es = IsStrictlySortedBy touched_cmp (map armed_pair es)

      one_more : (e : (K × ℕ × ℕ) × Stretch) (es : Armed K) (b : Bool) → is_touched cmp name date e ≡ b
          → AllByRecursion (λ k. armed_cmp cmp e.0 k ≡ Less) (keys_of es)
          → Ascend (touched es) → Ascend (cond b (e ∷ touched es) (touched es))
      unfolding IsStrictlySortedBy
      one_more e es true q all h = (all_after e (of_name e q) es all, h)
      one_more e es false q all h = h

      pub pairs_ascend : (es : Armed K) → IsStrictlySortedBy (armed_cmp cmp) (keys_of es)
          → IsStrictlySortedBy touched_cmp (map armed_pair (filter (is_touched cmp name date) es))
      unfolding IsStrictlySortedBy
      pairs_ascend [] h = tt
      pairs_ascend (e ∷ es) h = one_more e es (is_touched cmp name date e) refl h.0 (pairs_ascend es h.1)

module _ {K : Type 0} where
  sized_filter : (p : (K × ℕ × ℕ) × Stretch → Bool) (es : Armed K) → AllByRecursion IsSized (keys_of es)
      → AllByRecursion IsSized (keys_of (filter p es))
  sized_filter p [] all = all
  sized_filter p (e ∷ es) all = by (p e) (sized_filter p es all.1)
    where
      by : (b : Bool) → AllByRecursion IsSized (keys_of (filter p es)) → AllByRecursion IsSized (keys_of (cond b (e ∷ filter p es) (filter p es)))
      by true h = (all.0, h)
      by false h = h

  -- the keys are of their sizes after a filter, and after a key of its sizes was put in
  pub sized_left : (p : (K × ℕ × ℕ) × Stretch → Bool) (es left : Armed K) → All IsSized (keys_of es) → left ≡ filter p es → All IsSized (keys_of left)
  sized_left p es left all is =
      let each = sized_filter p es (recursion_from_All IsSized (keys_of es) all) in
      All-from_recursion IsSized (keys_of left) (subst (λ xs. AllByRecursion IsSized (keys_of xs)) (sym is) each)

  pub sized_put : (cmp : K → K → Ordering) (key : K × ℕ × ℕ) (s : Stretch) (es new : Armed K) → All IsSized (keys_of es) → IsSized key
      → new ≡ insert_entry (armed_cmp cmp) es key s → All IsSized (keys_of new)
  sized_put cmp key s es new all sized is = subst (λ xs. All IsSized (keys_of xs)) (sym is) (All-keys-insert_entry (armed_cmp cmp) key s IsSized es all sized)
