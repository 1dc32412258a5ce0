-- Two lists of entries that say all as often, paired in key order.
use Rattle.std.proofs.Common.{◌≡◌, ◌≢◌, ◌⊎◌, ℕ, Bool, true, false, cond, List, [], ◌∷◌, nat_lt, refl, sym, ap, subst, ◌∙◌, inl, inr, Less}
use Rattle.std.proofs.Common.{Equal, Greater, Ordering, ◌<◌, nat_cmp, arith, ltb-true, ltb-false}
use Rattle.std.proofs.lemmas.Cmp.{ranked}
use Rattle.std.specs.Ordering.{MatchOrdering, ordering_then}
use Rattle.std.specs.List.{AllZip, AllByRecursion}
use Rattle.std.specs.Ordering.{ordering_reverse}
use Rattle.crs_base.specs.Words.{IsIn, Ordered}
use Rattle.crs_base.specs.Entry.{Key, key_of, key_cmp, Entry, entry_cmp}
use Rattle.crs_base.proofs.KeyOrder.{entry_total, both_tie}
use Rattle.crs_base.proofs.Words.{in_from_each, in_filter, in_filter_back, ordered_filter}
use Rattle.crs_base.proofs.Unique.{same_members}
use Rattle.crs_model.specs.Matching.{AreDistinct}
use Rattle.crs_model.specs.Open.{before}
use Rattle.crs_model.specs.Order.{in_key_order, dated_before, arrived}
use Rattle.crs_model.proofs.Parted.{settled_is}
use Rattle.crs_model.proofs.Ties.{Says, said, tie, ties, found, some_here, ties_all, ordered, ordered_members, same_in_order, key_itself}
use Rattle.crs_model.proofs.Twins.{Same, Twins}

then_less : (a b c : Ordering) → a ≡ Equal → b ≡ Equal → ordering_then a (ordering_then b c) ≡ Less → c ≡ Less
then_less Less b c p q h = absurd (cc)
then_less Equal Less c p q h = absurd (cc)
then_less Equal Equal c p q h = h
then_less Equal Greater c p q h = absurd (cc)
then_less Greater b c p q h = absurd (cc)

ranked_less : (x y : ℕ) (o : Ordering) → MatchOrdering o (x < y) (x ≡ y) (y < x) → o ≡ Less → x < y
ranked_less x y Less m h = m
ranked_less x y Equal m h = absurd (cc)
ranked_less x y Greater m h = absurd (cc)

module _ {S : Type 0} where
  abbrev Below : Entry S → Entry S → Type 0
  Below a b = entry_cmp a b ≡ Less

  -- at one place of both lists
  abbrev pub AtOnePlace : List (Entry S) → List (Entry S) → Entry S → Entry S → Type 0
  AtOnePlace [] ys x y = ⊥
  AtOnePlace (a ∷ xs) [] x y = ⊥
  AtOnePlace (a ∷ xs) (b ∷ ys) x y = ((x ≡ a) × (y ≡ b)) ⊎ AtOnePlace xs ys x y

  zip_to : (P Q : Entry S → Entry S → Type 0) → ((x y : Entry S) → P x y → Q x y) → (xs ys : List (Entry S)) → AllZip P xs ys
      → AllZip Q xs ys
  zip_to P Q f [] [] z = tt
  zip_to P Q f [] (y ∷ ys) z = absurd z
  zip_to P Q f (x ∷ xs) [] z = absurd z
  zip_to P Q f (x ∷ xs) (y ∷ ys) z = (f x y z.0, zip_to P Q f xs ys z.1)

  all_placed : (R : Entry S → Entry S → Type 0) (xs ys : List (Entry S)) → AllZip R xs ys → AllZip (AtOnePlace xs ys) xs ys
  all_placed R [] [] z = tt
  all_placed R [] (y ∷ ys) z = absurd z
  all_placed R (x ∷ xs) [] z = absurd z
  all_placed R (x ∷ xs) (y ∷ ys) z =
      (inl (refl, refl), zip_to (AtOnePlace xs ys) (AtOnePlace (x ∷ xs) (y ∷ ys)) (λ a b p. inr p) xs ys (all_placed R xs ys z.1))

  placed_left : (xs ys : List (Entry S)) (x y : Entry S) → AtOnePlace xs ys x y → IsIn x xs
  placed_left [] ys x y p = absurd p
  placed_left (a ∷ xs) [] x y p = absurd p
  placed_left (a ∷ xs) (b ∷ ys) x y (inl p) = inl p.0
  placed_left (a ∷ xs) (b ∷ ys) x y (inr p) = inr (placed_left xs ys x y p)

  placed_right : (xs ys : List (Entry S)) (x y : Entry S) → AtOnePlace xs ys x y → IsIn y ys
  placed_right [] ys x y p = absurd p
  placed_right (a ∷ xs) [] x y p = absurd p
  placed_right (a ∷ xs) (b ∷ ys) x y (inl p) = inl p.1
  placed_right (a ∷ xs) (b ∷ ys) x y (inr p) = inr (placed_right xs ys x y p)

  says_placed : (xs ys : List (Entry S)) → AllZip Says xs ys → (x y : Entry S) → AtOnePlace xs ys x y → Says x y
  says_placed [] ys z x y p = absurd p
  says_placed (a ∷ xs) [] z x y p = absurd p
  says_placed (a ∷ xs) (b ∷ ys) z x y (inl p) =
      subst (λ (w : Entry S). Says w y) (sym p.0) (subst (λ (w : Entry S). Says a w) (sym p.1) z.0)
  says_placed (a ∷ xs) (b ∷ ys) z x y (inr p) = says_placed xs ys z.1 x y p

  -- two pairs are one, or in the same order on both sides
  abbrev InOneOrder : Entry S → Entry S → Entry S → Entry S → Type 0
  InOneOrder x y a b = ((x ≡ a) × (y ≡ b)) ⊎ ((Below x a × Below y b) ⊎ (Below a x × Below b y))

  above_first : (a b x y : Entry S) (xs ys : List (Entry S)) → AllByRecursion (Below a) xs → AllByRecursion (Below b) ys
      → AtOnePlace xs ys x y → Below a x × Below b y
  above_first a b x y xs ys o p i =
      (in_from_each (Below a) xs o x (placed_left xs ys x y i), in_from_each (Below b) ys p y (placed_right xs ys x y i))

  at_firsts : (x y a b : Entry S) → x ≡ a → y ≡ b → (p : Entry S) (q : Entry S) → Below a p × Below b q → Below x p × Below y q
  at_firsts x y a b e f p q h = (subst (λ (w : Entry S). Below w p) (sym e) h.0, subst (λ (w : Entry S). Below w q) (sym f) h.1)

  in_one_order : (xs ys : List (Entry S)) → Ordered Below xs → Ordered Below ys → (x y a b : Entry S) → AtOnePlace xs ys x y
      → AtOnePlace xs ys a b → InOneOrder x y a b
  in_one_order [] ys o p x y a b i j = absurd i
  in_one_order (c ∷ xs) [] o p x y a b i j = absurd i
  in_one_order (c ∷ xs) (d ∷ ys) o p x y a b (inl i) (inl j) = inl (i.0 ∙ sym j.0, i.1 ∙ sym j.1)
  in_one_order (c ∷ xs) (d ∷ ys) o p x y a b (inl i) (inr j) =
      inr (inl (at_firsts x y c d i.0 i.1 a b (above_first c d a b xs ys o.0 p.0 j)))
  in_one_order (c ∷ xs) (d ∷ ys) o p x y a b (inr i) (inl j) =
      inr (inr (at_firsts a b c d j.0 j.1 x y (above_first c d x y xs ys o.0 p.0 i)))
  in_one_order (c ∷ xs) (d ∷ ys) o p x y a b (inr i) (inr j) = in_one_order xs ys o.1 p.1 x y a b i j

  entry_itself : (x : Entry S) → entry_cmp x x ≡ Equal
  entry_itself x = key_itself (record { date = x.date; text = x.text; arrival = x.arrival })

  not_below_itself : (x y : Entry S) → x ≡ y → Below x y → ⊥
  not_below_itself x y e h =
      let k : entry_cmp x y ≡ Equal = ap (entry_cmp x) (sym e) ∙ entry_itself x in
      let m : entry_cmp x y ≡ Less = h in
      absurd (cc)

  keeps_order : (x y a b : Entry S) → InOneOrder x y a b → entry_cmp x a ≡ entry_cmp y b
  keeps_order x y a b (inl e) = ap (entry_cmp x) (sym e.0) ∙ entry_itself x ∙ sym (entry_itself y) ∙ ap (entry_cmp y) e.1
  keeps_order x y a b (inr (inl h)) = h.0 ∙ sym h.1
  keeps_order x y a b (inr (inr h)) = entry_total.antisymm x a ∙ ap ordering_reverse (h.0 ∙ sym h.1) ∙ sym (entry_total.antisymm y b)

  one_right : (x y a b : Entry S) → InOneOrder x y a b → x ≡ a → y ≡ b
  one_right x y a b (inl e) s = e.1
  one_right x y a b (inr (inl h)) s = absurd (not_below_itself x a s h.0)
  one_right x y a b (inr (inr h)) s = absurd (not_below_itself a x (sym s) h.0)

  one_left : (x y a b : Entry S) → InOneOrder x y a b → y ≡ b → x ≡ a
  one_left x y a b (inl e) s = e.0
  one_left x y a b (inr (inl h)) s = absurd (not_below_itself y b s h.1)
  one_left x y a b (inr (inr h)) s = absurd (not_below_itself b y (sym s) h.1)

  -- entries of one arrival number are one
  pub one_arrival : (xs : List (Entry S)) → AreDistinct xs → (x y : Entry S) → IsIn x xs → IsIn y xs → x.arrival ≡ y.arrival → x ≡ y
  one_arrival [] d x y i j e = absurd i
  one_arrival (a ∷ xs) d x y (inl p) (inl q) e = p ∙ sym q
  one_arrival (a ∷ xs) d x y (inl p) (inr j) e =
      absurd (in_from_each (λ z. a.arrival ≢ z.arrival) xs d.0 y j (sym (ap (λ z. z.arrival) p) ∙ e))
  one_arrival (a ∷ xs) d x y (inr i) (inl q) e =
      absurd (in_from_each (λ z. a.arrival ≢ z.arrival) xs d.0 x i (sym (ap (λ z. z.arrival) q) ∙ sym e))
  one_arrival (a ∷ xs) d x y (inr i) (inr j) e = one_arrival xs d.1 x y i j e

  before_step : (p q : Bool) (T : Entry S → Entry S → Type 0) (a b : Entry S) (xs ys : List (Entry S)) → p ≡ q → T a b → AllZip T xs ys
      → AllZip T (cond p (a ∷ xs) xs) (cond q (b ∷ ys) ys)
  before_step true true T a b xs ys e t z = (t, z)
  before_step true false T a b xs ys e t z = absurd (cc)
  before_step false true T a b xs ys e t z = absurd (cc)
  before_step false false T a b xs ys e t z = z

  before_zip : (T : Entry S → Entry S → Type 0) → Twins T → (h : ℕ) (xs ys : List (Entry S)) → AllZip T xs ys
      → AllZip T (before h xs) (before h ys)
  before_zip T t h [] [] z = tt
  before_zip T t h [] (y ∷ ys) z = absurd z
  before_zip T t h (x ∷ xs) [] z = absurd z
  before_zip T t h (x ∷ xs) (y ∷ ys) z =
      let same : nat_lt x.date h ≡ nat_lt y.date h = ap (λ n. nat_lt n h) (t.same x y z.0).date in
      (before_step (nat_lt x.date h) (nat_lt y.date h) T x y (before h xs) (before h ys) same z.0 (before_zip T t h xs ys z.1))

  -- of two that say the same, the first in key order arrived before the other
  arrives_first : (a b : Entry S) → Says a b → Below a b → a.arrival < b.arrival
  arrives_first a b e h =
      let here : key_cmp (key_of a) (record { date = a.date; text = a.text; arrival = b.arrival }) ≡ Less =
      (λ i. key_cmp (key_of a) (record { date = (e i).date; text = (e i).text; arrival = b.arrival })) ∙ h in
      let one = both_tie _ _ (key_itself (said a)) in
      let two = both_tie _ _ one.1 in
      ranked_less a.arrival b.arrival (nat_cmp a.arrival b.arrival) (ranked a.arrival b.arrival (nat_cmp a.arrival b.arrival) refl)
      (then_less _ _ (nat_cmp a.arrival b.arrival) one.0 two.0 here)

  module _ (n : ℕ) where
    -- one that had arrived says what a later one says that had
    never : (z : Key) (y : Entry S) (ys : List (Entry S)) → AllByRecursion (Below y) ys → said y ≡ z → nat_lt y.arrival n ≡ false → 0 < ties z (arrived n ys) → ⊥
    never z y ys o e late some =
        let f = found z (arrived n ys) some in
        let k = in_filter_back (λ (x : Entry S). nat_lt x.arrival n) ys f.0 f.1 in
        let l = arrives_first y f.0 (e ∙ sym f.2) (in_from_each (Below y) ys o f.0 k.0) in
        let a = ltb-true f.0.arrival n k.1 in
        let b = ltb-false y.arrival n late in
        omega (arith, l, a, b)

  -- as many of each have arrived, so those that have are paired
  chosen : (T : Entry S → Entry S → Type 0) (m n : ℕ) (xs ys : List (Entry S)) → AllZip T xs ys → AllZip Says xs ys → Ordered Below xs → Ordered Below ys
      → ((z : Key) → ties z (arrived m xs) ≡ ties z (arrived n ys)) → AllZip T (arrived m xs) (arrived n ys)
  chosen T m n [] [] t s o p e = tt
  chosen T m n [] (y ∷ ys) t s o p e = absurd t
  chosen T m n (x ∷ xs) [] t s o p e = absurd t
  chosen T m n (x ∷ xs) (y ∷ ys) t s o p e = by (nat_lt x.arrival m) (nat_lt y.arrival n) refl refl e (chosen T m n xs ys t.1 s.1 o.1 p.1)
    where
      by : (a b : Bool) → nat_lt x.arrival m ≡ a → nat_lt y.arrival n ≡ b
          → ((z : Key) → ties z (cond a (x ∷ arrived m xs) (arrived m xs)) ≡ ties z (cond b (y ∷ arrived n ys) (arrived n ys)))
          → (((z : Key) → ties z (arrived m xs) ≡ ties z (arrived n ys)) → AllZip T (arrived m xs) (arrived n ys))
          → AllZip T (cond a (x ∷ arrived m xs) (arrived m xs)) (cond b (y ∷ arrived n ys) (arrived n ys))
      by true true u v k rest = (t.0, rest (λ z. let q = k z in let w = ap (tie z) s.0 in omega (arith, q, w)))
      by true false u v k rest = absurd (never n (said x) y ys p.0 (sym s.0) v (let q = k (said x) in let w = some_here x (arrived m xs) in omega (arith, q, w)))
      by false true u v k rest = absurd (never m (said y) x xs o.0 s.0 u (let q = k (said y) in let w = some_here y (arrived n ys) in omega (arith, q, w)))
      by false false u v k rest = rest k

  -- those that had arrived, put in key order, are those of the key order that had
  pub arrived_is : (m : ℕ) (all : List (Entry S)) → AreDistinct all → arrived m (in_key_order all) ≡ in_key_order (arrived m all)
  arrived_is m all distinct = same_members entry_total (arrived m (in_key_order all)) (in_key_order (arrived m all))
      (ordered_filter Below (λ (e : Entry S). nat_lt e.arrival m) (in_key_order all) (ordered all distinct))
      (ordered (arrived m all) (ordered_filter (λ d e. d.arrival ≢ e.arrival) (λ (e : Entry S). nat_lt e.arrival m) all distinct))
      (λ x i. let k = in_filter_back (λ (e : Entry S). nat_lt e.arrival m) (in_key_order all) x i in (ordered_members (arrived m all)).back x (in_filter (λ (e : Entry S). nat_lt e.arrival m) all x ((ordered_members all).there x k.0) k.1))
      (λ x i. let k = in_filter_back (λ (e : Entry S). nat_lt e.arrival m) all x ((ordered_members (arrived m all)).there x i) in in_filter (λ (e : Entry S). nat_lt e.arrival m) (in_key_order all) x ((ordered_members all).back x k.0) k.1)

  ties_arrived : (z : Key) (m : ℕ) (all : List (Entry S)) → AreDistinct all → ties z (arrived m (in_key_order all)) ≡ ties z (arrived m all)
  ties_arrived z m all distinct = ap (ties z) (arrived_is m all distinct) ∙ (let k = ties_all z [] (arrived m all) in omega (arith, k))

  -- what two lists of entries have to be, so that their entries can be paired
  pub record AreAlike (xs ys : List (Entry S)) : Type 0 where
    pub distinct : AreDistinct xs
    pub other_distinct : AreDistinct ys
    pub ties : (z : Key) → ties z xs ≡ ties z ys
    pub same : (x y : Entry S) → IsIn x xs → IsIn y ys → Says x y → Same x y

  module _ (xs ys : List (Entry S)) (alike : AreAlike xs ys) where
    abbrev Of : Entry S → Entry S → Type 0
    Of = AtOnePlace (in_key_order xs) (in_key_order ys)

    left : (x y : Entry S) → Of x y → IsIn x xs
    left x y p = (ordered_members xs).there x (placed_left (in_key_order xs) (in_key_order ys) x y p)

    right : (x y : Entry S) → Of x y → IsIn y ys
    right x y p = (ordered_members ys).there y (placed_right (in_key_order xs) (in_key_order ys) x y p)

    zipped : AllZip Says (in_key_order xs) (in_key_order ys)
    zipped = same_in_order xs ys alike.distinct alike.other_distinct alike.ties

    order : (x y a b : Entry S) → Of x y → Of a b → InOneOrder x y a b
    order = in_one_order (in_key_order xs) (in_key_order ys) (ordered xs alike.distinct) (ordered ys alike.other_distinct)

    are_twins : Twins Of
    are_twins = record {
      same = λ x y p. alike.same x y (left x y p) (right x y p) (says_placed (in_key_order xs) (in_key_order ys) zipped x y p);
      keeps = λ x y a b p q. keeps_order x y a b (order x y a b p q);
      on =
          λ x y a b p q n e.
          let one : y ≡ b = one_arrival ys alike.other_distinct y b (right x y p) (right a b q) e in
          n (ap (λ z. z.arrival) (one_left x y a b (order x y a b p q) one));
      back =
          λ x y a b p q n e.
          let one : x ≡ a = one_arrival xs alike.distinct x a (left x y p) (left a b q) e in
          n (ap (λ z. z.arrival) (one_right x y a b (order x y a b p q) one));
      one = λ x y z p q. one_right x y x z (order x y x z p q) refl;
      one_back = λ x y z p q. one_left x z y z (order x z y z p q) refl;
    }

    pub pairing : (T : Entry S → Entry S → Type 0) × Twins T × ((h : ℕ) → AllZip T (dated_before h xs) (dated_before h ys))
        × ((m n : ℕ) → ((z : Key) → ties z (arrived m xs) ≡ ties z (arrived n ys)) → AllZip T (in_key_order (arrived m xs)) (in_key_order (arrived n ys)))
    pairing = (
      Of,
      are_twins,
      λ h.
          let z : AllZip Of (before h (in_key_order xs)) (before h (in_key_order ys)) =
          before_zip Of are_twins h (in_key_order xs) (in_key_order ys) (all_placed Says (in_key_order xs) (in_key_order ys) zipped) in
          let a : before h (in_key_order xs) ≡ dated_before h xs =
          settled_is h xs (in_key_order xs) alike.distinct (ordered xs alike.distinct) (ordered_members xs) in
          let b : before h (in_key_order ys) ≡ dated_before h ys =
          settled_is h ys (in_key_order ys) alike.other_distinct (ordered ys alike.other_distinct) (ordered_members ys) in
          subst (λ (us : List (Entry S)). AllZip Of us (dated_before h ys)) a (subst (AllZip Of (before h (in_key_order xs))) b z),
      λ m n e.
          let z : AllZip Of (arrived m (in_key_order xs)) (arrived n (in_key_order ys)) =
          chosen Of m n (in_key_order xs) (in_key_order ys) (all_placed Says (in_key_order xs) (in_key_order ys) zipped) zipped
          (ordered xs alike.distinct) (ordered ys alike.other_distinct)
          (λ k. ties_arrived k m xs alike.distinct ∙ e k ∙ sym (ties_arrived k n ys alike.other_distinct)) in
          subst (λ (us : List (Entry S)). AllZip Of us (in_key_order (arrived n ys))) (arrived_is m xs alike.distinct)
          (subst (AllZip Of (arrived m (in_key_order xs))) (arrived_is n ys alike.other_distinct) z),
    )
