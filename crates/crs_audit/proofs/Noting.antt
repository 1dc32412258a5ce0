-- Keys that are noted in a set.
use Rattle.std.proofs.Common.{◌≡◌, ◌∙◌, ◌<◌, ℕ, Bool, true, false, not, List, [], ◌∷◌, length, map, refl, sym, ap, subst, inl, inr, ◌⊎◌, true≢false}
use Rattle.std.specs.Prelude.{◌↔◌, ◌||◌}
use Rattle.std.specs.List.{list_any}
use Rattle.std.specs.Ordering.{nat_cmp, match_ordering, is_eq, ordering_reverse}
use Rattle.std.specs.Cmp.Lexicographic.{slice_cmp}
use Rattle.std.specs.BTreeSet.{insert_key}
use Rattle.std.specs.declared.cmp.Ordering.{Ordering}
use Rattle.std.specs.declared.cmp.Ordering.TheVariants.{Less, Equal, Greater}
use Rattle.std.proofs.lemmas.Map.Lookups.{exact_bytes}
use Rattle.std.proofs.lemmas.Cmp.{nat_list_cmp_total}
use Rattle.crs_base.specs.declared.symbols.Sym.{Sym}
use Rattle.crs_base.specs.Words.{IsIn}
use Rattle.crs_base.specs.Symbols.{AreDistinct}
use Rattle.crs_model.specs.Renaming.{text_in}
use Rattle.crs_audit.specs.Audits.{Earlier}
use Rattle.crs_audit.specs.Noted.{IsNoted, AreNoted}

own_reverse : (o : Ordering) → o ≡ ordering_reverse o → o ≡ Equal
own_reverse Less e = absurd cc
own_reverse Equal e = refl
own_reverse Greater e = absurd cc

same_list : (xs : List ℕ) → slice_cmp nat_cmp xs xs ≡ Equal
same_list xs = own_reverse (slice_cmp nat_cmp xs xs) (nat_list_cmp_total.antisymm xs xs)

module _ {K : Type 0} (f : K → List ℕ) where
  abbrev by : K → K → Ordering
  by a b = slice_cmp nat_cmp (f a) (f b)

  abbrev has : K → List K → Bool
  has k ks = list_any (λ x. is_eq (by k x)) ks

  in_keys : (k : K) (ks : List K) → has k ks ≡ true → IsIn (f k) (map f ks)
  in_keys k [] h = absurd cc
  in_keys k (x ∷ ks) h = here (by k x) refl h (in_keys k ks)
    where
      here : (o : Ordering) → by k x ≡ o → (is_eq o || has k ks) ≡ true → (has k ks ≡ true → IsIn (f k) (map f ks)) → IsIn (f k) (map f (x ∷ ks))
      here Less e t r = inr (r t)
      here Equal e t r = inl (exact_bytes (f k) (f x) e)
      here Greater e t r = inr (r t)

  has_key : (k : K) (ks : List K) → IsIn (f k) (map f ks) → has k ks ≡ true
  has_key k [] i = absurd i
  has_key k (x ∷ ks) (inl e) =
      let s : by k x ≡ Equal = subst (λ (ys : List ℕ). slice_cmp nat_cmp (f k) ys ≡ Equal) e (same_list (f k)) in
      ap (λ (o : Ordering). is_eq o || has k ks) s
  has_key k (x ∷ ks) (inr i) = either (is_eq (by k x)) (has_key k ks i)
    where
      either : (b : Bool) → has k ks ≡ true → (b || has k ks) ≡ true
      either true h = refl
      either false h = h

  inserted : (k : K) (ks : List K) (y : List ℕ) → IsIn y (map f (insert_key by ks k)) → (y ≡ f k) ⊎ IsIn y (map f ks)
  inserted k [] y (inl e) = inl e
  inserted k [] y (inr i) = absurd i
  inserted k (x ∷ ks) y i = here (by k x) i (inserted k ks y)
    where
      here : (o : Ordering) → IsIn y (map f (match_ordering o (k ∷ x ∷ ks) (x ∷ ks) (x ∷ insert_key by ks k))) → (IsIn y (map f (insert_key by ks k)) → (y ≡ f k) ⊎ IsIn y (map f ks))
          → (y ≡ f k) ⊎ IsIn y (map f (x ∷ ks))
      here Less (inl e) r = inl e
      here Less (inr i) r = inr i
      here Equal i r = inr i
      here Greater (inl e) r = inr (inl e)
      here Greater (inr i) r = elim (r i) [ inl e ↦ inl e | inr j ↦ inr (inr j) ]

  insert : (k : K) (ks : List K) (y : List ℕ) → (y ≡ f k) ⊎ IsIn y (map f ks) → IsIn y (map f (insert_key by ks k))
  insert k [] y (inl e) = inl e
  insert k [] y (inr i) = absurd i
  insert k (x ∷ ks) y i = here (by k x) refl i (insert k ks y)
    where
      here : (o : Ordering) → by k x ≡ o → (y ≡ f k) ⊎ IsIn y (map f (x ∷ ks)) → ((y ≡ f k) ⊎ IsIn y (map f ks) → IsIn y (map f (insert_key by ks k)))
          → IsIn y (map f (match_ordering o (k ∷ x ∷ ks) (x ∷ ks) (x ∷ insert_key by ks k)))
      here Less e (inl q) r = inl q
      here Less e (inr i) r = inr i
      here Equal e (inl q) r = inl (q ∙ exact_bytes (f k) (f x) e)
      here Equal e (inr i) r = i
      here Greater e (inl q) r = inr (r (inl q))
      here Greater e (inr (inl q)) r = inl q
      here Greater e (inr (inr i)) r = inr (r (inr i))

  -- what an insertion says
  pub noted : (k : K) (old new : List K) (key : List ℕ) (added : Bool) → f k ≡ key → new ≡ insert_key by old k → added ≡ not (has k old) → IsNoted key (map f old) (map f new) added
  noted k old new key added s e a = told (has k old) refl
    where
      told : (b : Bool) → has k old ≡ b → IsNoted key (map f old) (map f new) added
      told true t = subst (IsNoted key (map f old) (map f new)) (sym (a ∙ ap not t)) (subst (λ (y : List ℕ). IsIn y (map f old)) s (in_keys k old t))
      told false t = subst (IsNoted key (map f old) (map f new)) (sym (a ∙ ap not t)) (
        (λ i. let u = has_key k old (subst (λ (y : List ℕ). IsIn y (map f old)) (sym s) i) in absurd (never t u)),
        λ y. (
          (λ i. subst (λ (z : List ℕ). (y ≡ z) ⊎ IsIn y (map f old)) s (inserted k old y (subst (λ (ks : List K). IsIn y (map f ks)) e i))),
          (λ i. subst (λ (ks : List K). IsIn y (map f ks)) (sym e) (insert k old y (subst (λ (z : List ℕ). (y ≡ z) ⊎ IsIn y (map f old)) (sym s) i))),
        ),
      )
        where
          never : has k old ≡ false → has k old ≡ true → ⊥
          never p q = true≢false (sym q ∙ p)

-- ---- the claims that are noted

module _ (texts : List (List ℕ)) (apart : AreDistinct texts) (s : Sym) (known : s.0 < length texts) (numbers : List ℕ) where
  pub is_twice : (keys : List (List ℕ)) (earlier : List Earlier) → AreNoted texts keys earlier → IsIn (s.0 ∷ numbers) keys → IsIn (text_in texts s, numbers) earlier
  is_twice keys earlier h i = (h s numbers known).0 i

  pub not_twice : (keys : List (List ℕ)) (earlier : List Earlier) → AreNoted texts keys earlier → (IsIn (s.0 ∷ numbers) keys → ⊥) → IsIn (text_in texts s, numbers) earlier → ⊥
  not_twice keys earlier h n i = n ((h s numbers known).1 i)

  pub noted_more : (old new : List (List ℕ)) (earlier : List Earlier) → AreNoted texts old earlier → ((k : List ℕ) → IsIn k new ↔ ((k ≡ s.0 ∷ numbers) ⊎ IsIn k old))
      → AreNoted texts new ((text_in texts s, numbers) ∷ earlier)
  noted_more old new earlier h more t ns l = (
    (λ i. elim ((more (t.0 ∷ ns)).0 i) [
      | inl q ↦ inl (let a : t.0 ≡ s.0 = cc in let b : ns ≡ numbers = cc in λ j. (text_in texts (record { 0 = a j }), b j))
      | inr k ↦ inr ((h t ns l).0 k)
    ]),
    (λ i. (more (t.0 ∷ ns)).1 (elim i [
      | inl q ↦ inl (let a : t.0 ≡ s.0 = apart t.0 s.0 l known (ap (λ z. z.0) q) in let b : ns ≡ numbers = ap (λ z. z.1) q in λ j. a j ∷ b j)
      | inr k ↦ inr ((h t ns l).1 k)
    ])),
  )
