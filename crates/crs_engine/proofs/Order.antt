-- Entries in key order, and parted at a date.
use Rattle.std.proofs.Common.{◌≡◌, ◌≢◌, ℕ, ◌<◌, ◌≤◌, List, [], ◌∷◌, ◌++◌, refl, sym, ap, subst, ◌∙◌, inl, inr, cond, not, Bool, true, false, length, map, nat_eq, arith}
use Rattle.std.specs.List.{AllByRecursion, IsDistinct}
use Rattle.std.proofs.lemmas.List.{length-map}
use Rattle.std.proofs.lemmas.List.Elements.{All-from_recursion}
use Rattle.crs_stn.proofs.Routes.{length_distinct}
use Rattle.std.specs.Ordering.{is_lt}
use Rattle.std.specs.declared.cmp.Ordering.TheVariants.{Equal}
use Rattle.std.proofs.lemmas.Bool.{lt-ltb, le-ltb, ne_eqb}
use Rattle.crs_base.specs.declared.symbols.Sym.{Sym}
use Rattle.crs_base.specs.Words.{IsIn, Ordered}
use Rattle.crs_base.specs.Entry.{Entry, Key, key_of, entry_cmp}
use Rattle.crs_base.proofs.Words.{in_from_each, each_from_in, in_append, in_append_left, in_append_right}
use Rattle.crs_base.proofs.KeyOrder.{key_exact}
use Rattle.crs_model.specs.Matching.{AreDistinct}
use Rattle.crs_model.specs.Order.{put_in_order}
use Rattle.crs_model.specs.Open.{before}
use Rattle.crs_engine.specs.Engines.{since, HaveNumbersBelow}

-- ---- parts of an ordered list

module _ {A : Type 0} (R : A → A → Type 0) where
  pub ordered_left : (xs ys : List A) → Ordered R (xs ++ ys) → Ordered R xs
  ordered_left [] ys h = tt
  ordered_left (x ∷ xs) ys h = (each_from_in (R x) xs (λ z i. in_from_each (R x) (xs ++ ys) h.0 z (in_append_left xs ys z i)), ordered_left xs ys h.1)

  pub ordered_right : (xs ys : List A) → Ordered R (xs ++ ys) → Ordered R ys
  ordered_right [] ys h = h
  ordered_right (x ∷ xs) ys h = ordered_right xs ys h.1

  pub ordered_cross : (xs ys : List A) → Ordered R (xs ++ ys) → (x y : A) → IsIn x xs → IsIn y ys → R x y
  ordered_cross [] ys h x y i j = absurd i
  ordered_cross (z ∷ xs) ys h x y (inl e) j = subst (λ (t : A). R t y) (sym e) (in_from_each (R z) (xs ++ ys) h.0 y (in_append_right xs ys y j))
  ordered_cross (z ∷ xs) ys h x y (inr i) j = ordered_cross xs ys h.1 x y i j

  -- without some in the middle
  pub ordered_without : (xs ms ys : List A) → Ordered R (xs ++ (ms ++ ys)) → Ordered R (xs ++ ys)
  ordered_without [] ms ys h = ordered_right ms ys h
  ordered_without (x ∷ xs) ms ys h = (
    each_from_in (R x) (xs ++ ys) (λ z i. in_from_each (R x) (xs ++ (ms ++ ys)) h.0 z (elim (in_append xs ys z i) [ inl a ↦ in_append_left xs (ms ++ ys) z a | inr b ↦ in_append_right xs (ms ++ ys) z (in_append_right ms ys z b) ])),
    ordered_without xs ms ys h.1,
  )

-- ---- keys

pub keys_differ : (a b : Entry Sym) → (a.arrival ≡ b.arrival → ⊥) → entry_cmp a b ≡ Equal → ⊥
keys_differ a b never e = never (ap (λ (k : Key). k.arrival) (key_exact (key_of a) (key_of b) e))

-- ---- one more in order

pub put_cases : (P : List (Entry Sym) → Type 0) (e x : Entry Sym) (xs : List (Entry Sym)) → P (e ∷ x ∷ xs) → P (x ∷ put_in_order e xs) → P (put_in_order e (x ∷ xs))
put_cases P e x xs first later = by (is_lt (entry_cmp e x))
  where
    by : (b : Bool) → P (cond b (e ∷ x ∷ xs) (x ∷ put_in_order e xs))
    by true = first
    by false = later

module _ (e : Entry Sym) where
  pub put_each : (P : Entry Sym → Type 0) (xs : List (Entry Sym)) → P e → AllByRecursion P xs → AllByRecursion P (put_in_order e xs)
  put_each P [] p h = (p, tt)
  put_each P (x ∷ xs) p h = put_cases (λ t. AllByRecursion P t) e x xs (p, (h.0, h.1)) (h.0, put_each P xs p h.1)

  pub put_distinct : (xs : List (Entry Sym)) → AllByRecursion (λ x. e.arrival ≢ x.arrival) xs → AreDistinct xs → AreDistinct (put_in_order e xs)
  put_distinct [] a d = (tt, tt)
  put_distinct (x ∷ xs) a d = put_cases (λ t. AreDistinct t) e x xs (a, d) (put_each (λ y. x.arrival ≢ y.arrival) xs (λ s. a.0 (sym s)) d.0, put_distinct xs a.1 d.1)

  pub in_put_new : (xs : List (Entry Sym)) → IsIn e (put_in_order e xs)
  in_put_new [] = inl refl
  in_put_new (x ∷ xs) = put_cases (λ t. IsIn e t) e x xs (inl refl) (inr (in_put_new xs))

  pub in_put_old : (xs : List (Entry Sym)) (y : Entry Sym) → IsIn y xs → IsIn y (put_in_order e xs)
  in_put_old [] y i = absurd i
  in_put_old (x ∷ xs) y (inl s) = put_cases (λ t. IsIn y t) e x xs (inr (inl s)) (inl s)
  in_put_old (x ∷ xs) y (inr j) = put_cases (λ t. IsIn y t) e x xs (inr (inr j)) (inr (in_put_old xs y j))

-- ---- parted at a date

pub before_parts : (h : ℕ) (done rest : List (Entry Sym)) → AllByRecursion (λ x. x.date < h) done → AllByRecursion (λ x. h ≤ x.date) rest → before h (done ++ rest) ≡ done
before_parts h [] [] a b = refl
before_parts h [] (x ∷ rest) a b = ap (λ (t : Bool). cond t (x ∷ before h rest) (before h rest)) (le-ltb x.date h b.0) ∙ before_parts h [] rest tt b.1
before_parts h (x ∷ done) rest a b = ap (λ (t : Bool). cond t (x ∷ before h (done ++ rest)) (before h (done ++ rest))) (lt-ltb x.date h a.0) ∙ ap (λ (t : List (Entry Sym)). x ∷ t) (before_parts h done rest a.1 b)

pub since_parts : (h : ℕ) (done rest : List (Entry Sym)) → AllByRecursion (λ x. x.date < h) done → AllByRecursion (λ x. h ≤ x.date) rest → since h (done ++ rest) ≡ rest
since_parts h [] [] a b = refl
since_parts h [] (x ∷ rest) a b = ap (λ (t : Bool). cond (not t) (x ∷ since h rest) (since h rest)) (le-ltb x.date h b.0) ∙ ap (λ (t : List (Entry Sym)). x ∷ t) (since_parts h [] rest tt b.1)
since_parts h (x ∷ done) rest a b = ap (λ (t : Bool). cond (not t) (x ∷ since h (done ++ rest)) (since h (done ++ rest))) (lt-ltb x.date h a.0) ∙ since_parts h done rest a.1 b

-- ---- as many entries as numbers

numbers_apart : (e : Entry Sym) (rest : List (Entry Sym)) → AllByRecursion (λ y. e.arrival ≢ y.arrival) rest → AllByRecursion (λ k. nat_eq e.arrival k ≡ false) (map (λ y. y.arrival) rest)
numbers_apart e [] h = tt
numbers_apart e (y ∷ rest) h = (ne_eqb e.arrival y.arrival h.0, numbers_apart e rest h.1)

numbers_distinct : (es : List (Entry Sym)) → AreDistinct es → IsDistinct nat_eq (map (λ y. y.arrival) es)
unfolding IsDistinct
numbers_distinct [] d = tt
numbers_distinct (e ∷ es) d = (numbers_apart e es d.0, numbers_distinct es d.1)

pub numbers_few : (n : ℕ) (es : List (Entry Sym)) → HaveNumbersBelow n es → length es ≤ n
numbers_few n es h =
    let l = length_distinct n (map (λ y. y.arrival) es) (numbers_distinct es h.distinct) (All-from_recursion (λ k. k < n) (map (λ y. y.arrival) es) (each_from_in (λ k. k < n) (map (λ y. y.arrival) es) (λ k i. (h.numbers k).1 i))) in
    let m = length-map es (λ y. y.arrival) in
    omega arith
