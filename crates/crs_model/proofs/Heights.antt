-- The strata of chronicles, one by one.
use Rattle.std.proofs.Common.{◌≡◌, ℕ, zero, suc, ◌+◌, ◌<◌, ◌≤◌, max, Bool, true, false, nat_lt, List, [], ◌∷◌, ◌++◌, map, zip, length, get_or, refl, sym, ap, subst, ◌∙◌, ◌⊎◌, inl, inr, arith, ltb-true}
use Rattle.std.specs.Prelude.{Option, Some, slice_get}
use Rattle.std.specs.List.{AllZip, AllByRecursion}
use Rattle.std.proofs.lemmas.Bool.{ltb-false}
use Rattle.crs_base.specs.Words.{IsIn}
use Rattle.crs_model.specs.Hierarchy.{IsGreatest, IsAboveBy, IsAbove, Feeds, emitted, used, AreInOrder}
use Rattle.crs_model.specs.Models.{Chronicle}

either_of : (a b : ℕ) → (max a b ≡ a) ⊎ (max a b ≡ b)
either_of a b = by (nat_lt a b) refl
  where
    by : (t : Bool) → nat_lt a b ≡ t → (max a b ≡ a) ⊎ (max a b ≡ b)
    by true e = let l : a < b = ltb-true a b e in inr (omega (arith, l))
    by false e = let l : b ≤ a = ltb-false a b e in inl (omega (arith, l))

-- the greatest of P and of Q, where R holds of those of P and those of Q
pub greatest_joined : (P Q R : ℕ → Type 0) (a b : ℕ) → IsGreatest P a → IsGreatest Q b → ((m : ℕ) → P m → R m) → ((m : ℕ) → Q m → R m) → ((m : ℕ) → R m → P m ⊎ Q m) → IsGreatest R (max a b)
greatest_joined P Q R a b p q of_p of_q back = record { one = by (either_of a b); bounds = λ m r. below m (back m r) }
  where
    by : (max a b ≡ a) ⊎ (max a b ≡ b) → R (max a b)
    by (inl e) = subst R (sym e) (of_p a p.one)
    by (inr e) = subst R (sym e) (of_q b q.one)

    below : (m : ℕ) → P m ⊎ Q m → m ≤ max a b
    below m (inl k) = let l = p.bounds m k in omega (arith, l)
    below m (inr k) = let l = q.bounds m k in omega (arith, l)

pub greatest_none : (P : ℕ → Type 0) → ((m : ℕ) → P m → ⊥) → IsGreatest (λ m. (m ≡ 0) ⊎ P m) 0
greatest_none P none = record { one = inl refl; bounds = λ m h. only m h }
  where
    only : (m : ℕ) → (m ≡ 0) ⊎ P m → m ≤ 0
    only m (inl e) = omega (arith, e)
    only m (inr p) = absurd (none m p)

greatest_alone : (n : ℕ) → IsGreatest (λ m. m ≡ n) n
greatest_alone n = record { one = refl; bounds = λ m e. omega (arith, e) }

-- what is put last stands in its place, and the others in theirs
pub put_get : {A : Type 0} (xs : List A) (y z : A) (k : ℕ) → slice_get (xs ++ y ∷ []) k ≡ Some z → (slice_get xs k ≡ Some z) ⊎ ((k ≡ length xs) × (z ≡ y))
put_get [] y z zero e = inr (refl, cc)
put_get [] y z (suc k) e = absurd (cc)
put_get (x ∷ xs) y z zero e = inl e
put_get (x ∷ xs) y z (suc k) e = elim (put_get xs y z k e) [ inl h ↦ inl h | inr h ↦ inr (ap suc h.0, h.1) ]

get_more : {A : Type 0} (xs ys : List A) (k : ℕ) (z : A) → slice_get xs k ≡ Some z → slice_get (xs ++ ys) k ≡ Some z
get_more [] ys k z e = absurd (cc)
get_more (x ∷ xs) ys zero z e = e
get_more (x ∷ xs) ys (suc k) z e = get_more xs ys k z e

place_in : {A : Type 0} (xs : List A) (k : ℕ) (z : A) → slice_get xs k ≡ Some z → IsIn z xs
place_in [] k z e = absurd (cc)
place_in (x ∷ xs) zero z e = inl (cc)
place_in (x ∷ xs) (suc k) z e = inr (place_in xs k z e)

within_get : {A : Type 0} (xs : List A) (k : ℕ) (z : A) → slice_get xs k ≡ Some z → k < length xs
within_get [] k z e = absurd (cc)
within_get (x ∷ xs) zero z e = omega arith
within_get (x ∷ xs) (suc k) z e = let l = within_get xs k z e in omega (arith, l)

module _ {S : Type 0} where
  pub above_none : (x : S) → IsGreatest (λ m. (m ≡ 0) ⊎ IsAboveBy {S = S} [] x m) 0
  above_none x = greatest_none (IsAboveBy [] x) (λ m k. k.2)

  -- a chronicle that emits the name, in front
  pub above_hit : (d : Chronicle S) (k : ℕ) (rest : List (Chronicle S × ℕ)) (x : S) (r : ℕ) → IsIn x (emitted d) → IsGreatest (λ m. (m ≡ 0) ⊎ IsAboveBy rest x m) r → IsGreatest (λ m. (m ≡ 0) ⊎ IsAboveBy ((d, k) ∷ rest) x m) (max r (k + 1))
  above_hit d k rest x r i g = greatest_joined (λ m. (m ≡ 0) ⊎ IsAboveBy rest x m) (λ m. m ≡ k + 1) (λ m. (m ≡ 0) ⊎ IsAboveBy ((d, k) ∷ rest) x m) r (k + 1) g (greatest_alone (k + 1)) widen (λ m e. inr (d, k, inl refl, i, e ∙ omega arith)) back
    where
      widen : (m : ℕ) → (m ≡ 0) ⊎ IsAboveBy rest x m → (m ≡ 0) ⊎ IsAboveBy ((d, k) ∷ rest) x m
      widen m (inl e) = inl e
      widen m (inr a) = inr (a.0, a.1, inr a.2, a.3, a.4)

      back : (m : ℕ) → (m ≡ 0) ⊎ IsAboveBy ((d, k) ∷ rest) x m → ((m ≡ 0) ⊎ IsAboveBy rest x m) ⊎ (m ≡ k + 1)
      back m (inl e) = inl (inl e)
      back m (inr (c, j, inl q, i, e)) = let s = ap (λ p. p.1) q in inr (omega (arith, e, s))
      back m (inr (c, j, inr q, i, e)) = inl (inr (c, j, q, i, e))

  -- one that doesn't
  pub above_miss : (d : Chronicle S) (k : ℕ) (rest : List (Chronicle S × ℕ)) (x : S) (r : ℕ) → (IsIn x (emitted d) → ⊥) → IsGreatest (λ m. (m ≡ 0) ⊎ IsAboveBy rest x m) r → IsGreatest (λ m. (m ≡ 0) ⊎ IsAboveBy ((d, k) ∷ rest) x m) r
  above_miss d k rest x r none g = record { one = widen r g.one; bounds = λ m h. g.bounds m (back m h) }
    where
      widen : (m : ℕ) → (m ≡ 0) ⊎ IsAboveBy rest x m → (m ≡ 0) ⊎ IsAboveBy ((d, k) ∷ rest) x m
      widen m (inl e) = inl e
      widen m (inr a) = inr (a.0, a.1, inr a.2, a.3, a.4)

      back : (m : ℕ) → (m ≡ 0) ⊎ IsAboveBy ((d, k) ∷ rest) x m → (m ≡ 0) ⊎ IsAboveBy rest x m
      back m (inl e) = inl e
      back m (inr (c, j, inl q, i, e)) = absurd (none (subst (λ (z : Chronicle S). IsIn x (emitted z)) (ap (λ p. p.0) q) i))
      back m (inr (c, j, inr q, i, e)) = inr (c, j, q, i, e)

  abbrev pub IsAboveSome : List (Chronicle S × ℕ) → List S → ℕ → Type 0
  IsAboveSome pairs names m = (x : S) × IsIn x names × IsAboveBy pairs x m

  pub some_none : (pairs : List (Chronicle S × ℕ)) → IsGreatest (λ m. (m ≡ 0) ⊎ IsAboveSome pairs [] m) 0
  some_none pairs = greatest_none (IsAboveSome pairs []) (λ m k. k.1)

  pub some_more : (pairs : List (Chronicle S × ℕ)) (x : S) (rest : List S) (a b : ℕ) → IsGreatest (λ m. (m ≡ 0) ⊎ IsAboveBy pairs x m) a → IsGreatest (λ m. (m ≡ 0) ⊎ IsAboveSome pairs rest m) b
      → IsGreatest (λ m. (m ≡ 0) ⊎ IsAboveSome pairs (x ∷ rest) m) (max a b)
  some_more pairs x rest a b g h = greatest_joined (λ m. (m ≡ 0) ⊎ IsAboveBy pairs x m) (λ m. (m ≡ 0) ⊎ IsAboveSome pairs rest m) (λ m. (m ≡ 0) ⊎ IsAboveSome pairs (x ∷ rest) m) a b g h first later back
    where
      first : (m : ℕ) → (m ≡ 0) ⊎ IsAboveBy pairs x m → (m ≡ 0) ⊎ IsAboveSome pairs (x ∷ rest) m
      first m (inl e) = inl e
      first m (inr k) = inr (x, inl refl, k)

      later : (m : ℕ) → (m ≡ 0) ⊎ IsAboveSome pairs rest m → (m ≡ 0) ⊎ IsAboveSome pairs (x ∷ rest) m
      later m (inl e) = inl e
      later m (inr k) = inr (k.0, inr k.1, k.2)

      back : (m : ℕ) → (m ≡ 0) ⊎ IsAboveSome pairs (x ∷ rest) m → ((m ≡ 0) ⊎ IsAboveBy pairs x m) ⊎ ((m ≡ 0) ⊎ IsAboveSome pairs rest m)
      back m (inl e) = inl (inl e)
      back m (inr (y, inl q, k)) = inl (inr (subst (λ z. IsAboveBy pairs z m) q k))
      back m (inr (y, inr i, k)) = inr (inr (y, i, k))

  -- Strata so far, by the places of the chronicles.
  abbrev pub Stands : List (Chronicle S) → List ℕ → ℕ → Type 0
  Stands cs strata k = (c : Chronicle S) (n : ℕ) → slice_get cs k ≡ Some c → slice_get strata k ≡ Some n → IsGreatest (λ m. (m ≡ 0) ⊎ IsAbove cs strata c m) n

  pub record AreSoFar (cs : List (Chronicle S)) (strata : List ℕ) (i : ℕ) : Type 0 where
    pub len : length strata ≡ i
    pub each : (k : ℕ) → Stands cs strata k
    pub low : AllByRecursion (λ k. (k ≡ 0) ⊎ (k < i)) strata

  zip_in : (cs : List (Chronicle S)) (strata : List ℕ) (d : Chronicle S) (k : ℕ) → IsIn (d, k) (zip cs strata) → (j : ℕ) × (slice_get cs j ≡ Some d) × (slice_get strata j ≡ Some k)
  zip_in [] strata d k i = absurd i
  zip_in (c ∷ cs) [] d k i = absurd i
  zip_in (c ∷ cs) (n ∷ ns) d k (inl q) = (0, ap (λ p. Some p.0) (sym q), ap (λ p. Some p.1) (sym q))
  zip_in (c ∷ cs) (n ∷ ns) d k (inr i) = let r = zip_in cs ns d k i in (suc r.0, r.1, r.2)

  in_zip : (cs : List (Chronicle S)) (strata : List ℕ) (d : Chronicle S) (k j : ℕ) → slice_get cs j ≡ Some d → slice_get strata j ≡ Some k → IsIn (d, k) (zip cs strata)
  in_zip [] strata d k j e f = absurd (cc)
  in_zip (c ∷ cs) [] d k j e f = absurd (cc)
  in_zip (c ∷ cs) (n ∷ ns) d k zero e f = let a : c ≡ d = cc in let b : n ≡ k = cc in inl (λ i. (sym a i, sym b i))
  in_zip (c ∷ cs) (n ∷ ns) d k (suc j) e f = inr (in_zip cs ns d k j e f)

  -- no chronicle is fed by itself or a later one
  fed_before : (cs : List (Chronicle S)) (j k : ℕ) (d c : Chronicle S) → AreInOrder cs → k ≤ j → slice_get cs k ≡ Some c → slice_get cs j ≡ Some d → Feeds d c → ⊥
  fed_before [] j k d c o l e f = absurd (cc)
  fed_before (x ∷ cs) j zero d c o l e f = let q : x ≡ c = cc in λ feeds. o.0 d (place_in (x ∷ cs) j d f) (subst (λ (z : Chronicle S). Feeds d z) (sym q) feeds)
  fed_before (x ∷ cs) zero (suc k) d c o l e f = absurd (omega (arith, l))
  fed_before (x ∷ cs) (suc j) (suc k) d c o l e f = fed_before cs j k d c o.1 (omega (arith, l)) e f

  module _ (cs : List (Chronicle S)) (order : AreInOrder cs) (strata : List ℕ) (n : ℕ) where
    above_more : (c : Chronicle S) (m : ℕ) → IsAbove cs strata c m → IsAbove cs (strata ++ n ∷ []) c m
    above_more c m a = let r = zip_in cs strata a.0 a.1 a.2 in (a.0, a.1, in_zip cs (strata ++ n ∷ []) a.0 a.1 r.0 r.1 (get_more strata (n ∷ []) r.0 a.1 r.2), a.3, a.4)

    -- of a chronicle up to the last one's place
    above_less : (c : Chronicle S) (k m : ℕ) → slice_get cs k ≡ Some c → k ≤ length strata → IsAbove cs (strata ++ n ∷ []) c m → IsAbove cs strata c m
    above_less c k m e l a =
        let r = zip_in cs (strata ++ n ∷ []) a.0 a.1 a.2 in
        elim (put_get strata n a.1 r.0 r.2) [
          | inl h ↦ (a.0, a.1, in_zip cs strata a.0 a.1 r.0 r.1 h, a.3, a.4)
          | inr h ↦ (let q = h.0 in absurd (fed_before cs r.0 k a.0 c order (omega (arith, l, q)) e r.1 a.3))
        ]

    greatest_again : (c : Chronicle S) (k x : ℕ) → slice_get cs k ≡ Some c → k ≤ length strata → IsGreatest (λ m. (m ≡ 0) ⊎ IsAbove cs strata c m) x → IsGreatest (λ m. (m ≡ 0) ⊎ IsAbove cs (strata ++ n ∷ []) c m) x
    greatest_again c k x e l g = record { one = widen x g.one; bounds = λ m h. g.bounds m (back m h) }
      where
        widen : (m : ℕ) → (m ≡ 0) ⊎ IsAbove cs strata c m → (m ≡ 0) ⊎ IsAbove cs (strata ++ n ∷ []) c m
        widen m (inl q) = inl q
        widen m (inr a) = inr (above_more c m a)

        back : (m : ℕ) → (m ≡ 0) ⊎ IsAbove cs (strata ++ n ∷ []) c m → (m ≡ 0) ⊎ IsAbove cs strata c m
        back m (inl q) = inl q
        back m (inr a) = inr (above_less c k m e l a)

    -- one more stratum
    pub so_far_more : (i : ℕ) (c : Chronicle S) → slice_get cs i ≡ Some c → AreSoFar cs strata i → IsGreatest (λ m. (m ≡ 0) ⊎ IsAboveSome (zip cs strata) (used c) m) n → AreSoFar cs (strata ++ n ∷ []) (i + 1)
    so_far_more i c at h g = record {
      len = let a = length_put strata in let b = h.len in omega (arith, a, b);
      each = λ k d x e f. elim (put_get strata n x k f) [
        | inl q ↦ greatest_again d k x e (let l = within_get strata k x q in omega (arith, l)) (h.each k d x e q)
        | inr q ↦ (let j = q.0 in subst (λ y. IsGreatest (λ m. (m ≡ 0) ⊎ IsAbove cs (strata ++ n ∷ []) d m) y) (sym q.1) (greatest_again d k n e (omega (arith, j)) (subst (λ (z : Chronicle S). IsGreatest (λ m. (m ≡ 0) ⊎ IsAbove cs strata z m) n) (same d (at_place d k e q.0)) own)))
      ];
      low = lows strata h.low;
    }
      where
        length_put : (xs : List ℕ) → length (xs ++ n ∷ []) ≡ length xs + 1
        length_put [] = omega arith
        length_put (x ∷ xs) = let k = length_put xs in omega (arith, k)

        own : IsGreatest (λ m. (m ≡ 0) ⊎ IsAbove cs strata c m) n
        own = record { one = from n g.one; bounds = λ m k. g.bounds m (to m k) }
          where
            from : (m : ℕ) → (m ≡ 0) ⊎ IsAboveSome (zip cs strata) (used c) m → (m ≡ 0) ⊎ IsAbove cs strata c m
            from m (inl q) = inl q
            from m (inr k) = inr ((k.2).0, (k.2).1, (k.2).2, (k.0, (k.2).3, k.1), (k.2).4)

            to : (m : ℕ) → (m ≡ 0) ⊎ IsAbove cs strata c m → (m ≡ 0) ⊎ IsAboveSome (zip cs strata) (used c) m
            to m (inl q) = inl q
            to m (inr a) = inr ((a.3).0, (a.3).2, (a.0, a.1, a.2, (a.3).1, a.4))

        at_place : (d : Chronicle S) (k : ℕ) → slice_get cs k ≡ Some d → k ≡ length strata → slice_get cs i ≡ Some d
        at_place d k e q = ap (slice_get cs) (sym (q ∙ h.len)) ∙ e

        same : (d : Chronicle S) → slice_get cs i ≡ Some d → c ≡ d
        same d e = some_same (sym at ∙ e)
          where
            some_same : ◌≡◌ {A = Option (Chronicle S)} (Some c) (Some d) → c ≡ d
            some_same q = cc

        low_at : (xs : List ℕ) → AllByRecursion (λ k. (k ≡ 0) ⊎ (k < i)) xs → (j x : ℕ) → slice_get xs j ≡ Some x → (x ≡ 0) ⊎ (x < i)
        low_at [] k j x e = absurd (cc)
        low_at (y ∷ ys) k zero x e = let q : y ≡ x = cc in subst (λ z. (z ≡ 0) ⊎ (z < i)) q k.0
        low_at (y ∷ ys) k (suc j) x e = low_at ys k.1 j x e

        some_before : (xs : List ℕ) (j x : ℕ) → slice_get xs j ≡ Some x → length xs ≡ i → 0 < i
        some_before [] j x e l = absurd (cc)
        some_before (y ∷ ys) j x e l = omega (arith, l)

        low_by : (k m : ℕ) → (k ≡ 0) ⊎ (k < i) → m ≡ suc k → 0 < i → (m ≡ 0) ⊎ (m < i + 1)
        low_by k m (inl q) e l = inr (omega (arith, q, e, l))
        low_by k m (inr q) e l = inr (omega (arith, q, e))

        low_of : (n ≡ 0) ⊎ IsAboveSome (zip cs strata) (used c) n → (n ≡ 0) ⊎ (n < i + 1)
        low_of (inl q) = inl q
        low_of (inr a) = let r = zip_in cs strata (a.2).0 (a.2).1 (a.2).2 in let some : 0 < i = some_before strata r.0 (a.2).1 r.2 h.len in low_by (a.2).1 n (low_at strata h.low r.0 (a.2).1 r.2) (a.2).4 some

        lows : (xs : List ℕ) → AllByRecursion (λ k. (k ≡ 0) ⊎ (k < i)) xs → AllByRecursion (λ k. (k ≡ 0) ⊎ (k < i + 1)) (xs ++ n ∷ [])
        lows [] k = (low_of g.one, tt)
        lows (x ∷ xs) k = (one k.0, lows xs k.1)
          where
            one : (x ≡ 0) ⊎ (x < i) → (x ≡ 0) ⊎ (x < i + 1)
            one (inl q) = inl q
            one (inr q) = inr (omega (arith, q))

  -- all of them
  pub all_stand : (cs : List (Chronicle S)) (strata : List ℕ) (P : Chronicle S → ℕ → Type 0) → length strata ≡ length cs → ((k : ℕ) (c : Chronicle S) (n : ℕ) → slice_get cs k ≡ Some c → slice_get strata k ≡ Some n → P c n) → AllZip P cs strata
  all_stand [] [] P e h = tt
  all_stand [] (n ∷ ns) P e h = absurd (omega (arith, e))
  all_stand (c ∷ cs) [] P e h = absurd (omega (arith, e))
  all_stand (c ∷ cs) (n ∷ ns) P e h = (h 0 c n refl refl, all_stand cs ns P (omega (arith, e)) (λ k. h (suc k)))

-- the element at a place
pub item_at : {A B : Type 0} (f : A → B) (xs : List A) (i : ℕ) (x : A) → x ≡ get_or xs i x → i < length xs → slice_get (map f xs) i ≡ Some (f x)
item_at f [] i x e l = absurd (omega (arith, l))
item_at f (y ∷ ys) zero x e l = ap (λ z. Some (f z)) (sym e)
item_at f (y ∷ ys) (suc i) x e l = item_at f ys i x e (omega (arith, l))

pub low_below : (xs : List ℕ) (i n : ℕ) → i ≤ n → 0 < n → AllByRecursion (λ k. (k ≡ 0) ⊎ (k < i)) xs → AllByRecursion (λ k. k < n) xs
low_below [] i n l m h = tt
low_below (x ∷ xs) i n l m h = (one h.0, low_below xs i n l m h.1)
  where
    one : (x ≡ 0) ⊎ (x < i) → x < n
    one (inl q) = omega (arith, q, m)
    one (inr q) = omega (arith, q, l)
