-- How often a date and a text are said in a list of entries, and lists in key order that say all as often.
use Rattle.std.proofs.Common.{◌≡◌, ◌≢◌, ◌<◌, ◌⊎◌, ℕ, ◌+◌, Bool, true, false, cond, List, [], ◌∷◌, ◌++◌, refl, sym, ap, subst, ◌∙◌, inl}
use Rattle.std.proofs.Common.{inr, arith, Ordering, Less, Equal, Greater, nat_cmp}
use Rattle.std.specs.List.{AllZip, AllByRecursion}
use Rattle.std.specs.Ordering.{is_lt, ordering_reverse, ordering_then}
use Rattle.crs_base.specs.Words.{IsIn, Ordered}
use Rattle.crs_base.specs.Entry.{Key, key_of, key_cmp, Entry, entry_cmp}
use Rattle.crs_base.proofs.KeyOrder.{key_total, key_exact, entry_total}
use Rattle.crs_base.proofs.Words.{each_from_in, in_from_each, ordered_to}
use Rattle.crs_model.specs.Matching.{AreDistinct}
use Rattle.crs_model.specs.Order.{put_in_order, put_all, in_key_order, HaveSameMembers}
use Rattle.crs_model.proofs.InOrder.{in_put, ordered_put}
use Rattle.crs_model.proofs.Settled.{put_in}

-- 1 where they are equal
abbrev pub tied : Ordering → ℕ
tied Less = 0
tied Equal = 1
tied Greater = 0

abbrev pub tie : Key → Key → ℕ
tie z k = tied (key_cmp z k)

equal_itself : (o : Ordering) → o ≡ ordering_reverse o → o ≡ Equal
equal_itself Less e = absurd (cc)
equal_itself Equal e = refl
equal_itself Greater e = absurd (cc)

pub key_itself : (k : Key) → key_cmp k k ≡ Equal
key_itself k = equal_itself (key_cmp k k) (key_total.antisymm k k)

tie_itself : (k : Key) → tie k k ≡ 1
tie_itself k = ap tied (key_itself k)

neither_above : (o p : Ordering) → o ≡ ordering_reverse p → o ≢ Greater → p ≢ Greater → o ≡ Equal
neither_above Less Less e h k = absurd (cc)
neither_above Less Equal e h k = absurd (cc)
neither_above Less Greater e h k = absurd (k refl)
neither_above Equal p e h k = refl
neither_above Greater p e h k = absurd (h refl)

said_step : (d t n : Ordering) → ordering_then d (ordering_then t n) ≡ Less → ordering_then d (ordering_then t Equal) ≢ Greater
said_step Less t n h e = absurd (cc)
said_step Equal Less n h e = absurd (cc)
said_step Equal Equal n h e = absurd (cc)
said_step Equal Greater n h e = absurd (cc)
said_step Greater t n h e = absurd (cc)

tied_back : (z k : Key) (o : Ordering) → key_cmp z k ≡ o → (k ≡ z) ⊎ (tied o ≡ 0)
tied_back z k Less e = inr refl
tied_back z k Equal e = inl (sym (key_exact z k e))
tied_back z k Greater e = inr refl

module _ {S : Type 0} where
  -- what an entry says: its key without the arrival number
  abbrev pub said : Entry S → Key
  said e = record { date = e.date; text = e.text; arrival = 0 }

  -- how many of them say it
  abbrev pub ties : Key → List (Entry S) → ℕ
  ties z [] = 0
  ties z (x ∷ xs) = tie z (said x) + ties z xs

  abbrev Rises : Entry S → Entry S → Type 0
  Rises a b = key_cmp (said a) (said b) ≢ Greater

  abbrev pub Says : Entry S → Entry S → Type 0
  Says x y = said x ≡ said y

  rises : (a b : Entry S) → entry_cmp a b ≡ Less → Rises a b
  rises a b h = said_step _ _ (nat_cmp a.arrival b.arrival) h

  found_by : (z : Key) (y : Entry S) (ys : List (Entry S)) → (said y ≡ z) ⊎ (tie z (said y) ≡ 0) → 0 < tie z (said y) + ties z ys
      → (0 < ties z ys → (x : Entry S) × IsIn x ys × (said x ≡ z)) → (x : Entry S) × IsIn x (y ∷ ys) × (said x ≡ z)
  found_by z y ys (inl e) h rest = (y, inl refl, e)
  found_by z y ys (inr e) h rest = let r = rest (omega (arith, e, h)) in (r.0, inr r.1, r.2)

  pub found : (z : Key) (ys : List (Entry S)) → 0 < ties z ys → (x : Entry S) × IsIn x ys × (said x ≡ z)
  found z [] h = absurd (omega arith)
  found z (y ∷ ys) h = found_by z y ys (tied_back z (said y) (key_cmp z (said y)) refl) h (found z ys)

  -- what is said by one that stands behind the first isn't below it
  not_above : (y x : Entry S) (ys : List (Entry S)) → AllByRecursion (Rises y) ys → IsIn x (y ∷ ys) → Rises y x
  not_above y x ys o (inl e) g =
      absurd (let k : key_cmp (said y) (said x) ≡ Equal = ap (λ (w : Entry S). key_cmp (said y) (said w)) e ∙ key_itself (said y) in cc)
  not_above y x ys o (inr i) g = in_from_each (Rises y) ys o x i g

  pub some_here : (x : Entry S) (xs : List (Entry S)) → 0 < ties (said x) (x ∷ xs)
  some_here x xs = let e = tie_itself (said x) in omega (arith, e)

  first_below : (x y : Entry S) (xs ys : List (Entry S)) → AllByRecursion (Rises y) ys → ties (said x) (x ∷ xs) ≡ ties (said x) (y ∷ ys)
      → Rises y x
  first_below x y xs ys o e =
      let f = found (said x) (y ∷ ys) (subst (λ (n : ℕ). 0 < n) e (some_here x xs)) in
      subst (λ (k : Key). key_cmp (said y) k ≢ Greater) f.2 (not_above y f.0 ys o f.1)

  -- lists in order that say all as often say the same one by one
  same_said : (xs ys : List (Entry S)) → Ordered Rises xs → Ordered Rises ys → ((z : Key) → ties z xs ≡ ties z ys) → AllZip Says xs ys
  same_said [] [] o p e = tt
  same_said [] (y ∷ ys) o p e = absurd (let k = some_here y ys in let m = e (said y) in omega (arith, k, m))
  same_said (x ∷ xs) [] o p e = absurd (let k = some_here x xs in let m = e (said x) in omega (arith, k, m))
  same_said (x ∷ xs) (y ∷ ys) o p e =
      let below : Rises y x = first_below x y xs ys p.0 (e (said x)) in
      let above : Rises x y = first_below y x ys xs o.0 (sym (e (said y))) in
      let first : said x ≡ said y =
      key_exact (said x) (said y)
      (neither_above (key_cmp (said x) (said y)) (key_cmp (said y) (said x)) (key_total.antisymm (said x) (said y)) above below) in
      (first, same_said xs ys o.1 p.1 (λ z. let m = e z in let k = ap (tie z) first in omega (arith, m, k)))

  ties_put : (z : Key) (e : Entry S) (xs : List (Entry S)) → ties z (put_in_order e xs) ≡ tie z (said e) + ties z xs
  ties_put z e [] = refl
  ties_put z e (x ∷ xs) = by (is_lt (entry_cmp e x)) (ties_put z e xs)
    where
      by : (b : Bool) → ties z (put_in_order e xs) ≡ tie z (said e) + ties z xs
          → ties z (cond b (e ∷ x ∷ xs) (x ∷ put_in_order e xs)) ≡ tie z (said e) + (tie z (said x) + ties z xs)
      by true h = refl
      by false h = omega (arith, h)

  pub ties_all : (z : Key) (sorted xs : List (Entry S)) → ties z (put_all sorted xs) ≡ ties z sorted + ties z xs
  ties_all z sorted [] = omega arith
  ties_all z sorted (e ∷ xs) =
      let k = ties_put z e sorted in
      let r = ties_all z (put_in_order e sorted) xs in
      omega (arith, k, r)

  pub ties_last : (z : Key) (xs : List (Entry S)) (e : Entry S) → ties z (xs ++ e ∷ []) ≡ ties z xs + tie z (said e)
  ties_last z [] e = omega arith
  ties_last z (x ∷ xs) e = let r = ties_last z xs e in omega (arith, r)

  -- all in key order have the same members
  all_in : (x : Entry S) (sorted xs : List (Entry S)) → IsIn x sorted → IsIn x (put_all sorted xs)
  all_in x sorted [] h = h
  all_in x sorted (e ∷ xs) h = all_in x (put_in_order e sorted) xs (put_in e x sorted (inr h))

  all_new : (x : Entry S) (sorted xs : List (Entry S)) → IsIn x xs → IsIn x (put_all sorted xs)
  all_new x sorted [] h = absurd h
  all_new x sorted (e ∷ xs) (inl q) = all_in x (put_in_order e sorted) xs (put_in e x sorted (inl q))
  all_new x sorted (e ∷ xs) (inr h) = all_new x (put_in_order e sorted) xs h

  in_all : (x : Entry S) (sorted xs : List (Entry S)) → IsIn x (put_all sorted xs) → IsIn x sorted ⊎ IsIn x xs
  in_all x sorted [] h = inl h
  in_all x sorted (e ∷ xs) h = elim (in_all x (put_in_order e sorted) xs h) [
    | inl k ↦ elim (in_put entry_total e x sorted k) [ inl q ↦ inr (inl q) | inr i ↦ inl i ]
    | inr k ↦ inr (inr k)
  ]

  pub ordered_members : (xs : List (Entry S)) → HaveSameMembers (in_key_order xs) xs
  ordered_members xs = record {
    there = λ x i. elim (in_all x [] xs i) [ inl k ↦ absurd k | inr k ↦ k ];
    back = λ x i. all_new x [] xs i;
  }

  same_arrival : (e y : Entry S) → entry_cmp e y ≡ Equal → e.arrival ≡ y.arrival
  same_arrival e y h =
      ap (λ (k : Key). k.arrival) (key_exact (key_of e) (key_of y) h)

  ordered_all : (sorted xs : List (Entry S)) → Ordered (λ a b. entry_cmp a b ≡ Less) sorted → AreDistinct xs
      → ((x y : Entry S) → IsIn x xs → IsIn y sorted → x.arrival ≢ y.arrival) → Ordered (λ a b. entry_cmp a b ≡ Less) (put_all sorted xs)
  ordered_all sorted [] o d k = o
  ordered_all sorted (e ∷ xs) o d k = ordered_all (put_in_order e sorted) xs
      (ordered_put entry_total e sorted
      (each_from_in (λ y. entry_cmp e y ≢ Equal) sorted (λ y i q. k e y (inl refl) i (same_arrival e y q))) o)
      d.1
      (λ x y i j. elim (in_put entry_total e y sorted j) [
        | inl q ↦ (λ m. in_from_each (λ x. e.arrival ≢ x.arrival) xs d.0 x i (sym (m ∙ ap (λ z. z.arrival) q)))
        | inr n ↦ k x y (inr i) n
      ])

  pub ordered : (xs : List (Entry S)) → AreDistinct xs → Ordered (λ a b. entry_cmp a b ≡ Less) (in_key_order xs)
  ordered xs d = ordered_all [] xs tt d (λ x y i j. absurd j)

  -- in key order, two lists that say all as often say the same one by one
  pub same_in_order : (xs ys : List (Entry S)) → AreDistinct xs → AreDistinct ys → ((z : Key) → ties z xs ≡ ties z ys)
      → AllZip Says (in_key_order xs) (in_key_order ys)
  same_in_order xs ys d e h = same_said (in_key_order xs) (in_key_order ys)
      (ordered_to (λ a b. entry_cmp a b ≡ Less) Rises rises (in_key_order xs) (ordered xs d))
      (ordered_to (λ a b. entry_cmp a b ≡ Less) Rises rises (in_key_order ys) (ordered ys e))
      (λ z. let a = ties_all z [] xs in let b = ties_all z [] ys in let m = h z in omega (arith, a, b, m))
