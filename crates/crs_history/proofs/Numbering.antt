-- Numbers of lists of symbols: no two lists have the same.
use Rattle.std.proofs.Common.{◌≡◌, ◌⊎◌, ℕ, ◌≤◌, ◌<◌, ◌+◌, Bool, true, false, cond, List, [], ◌∷◌, ◌++◌, length, drop, get_or, drop-cons, add-one, suc, unwrap_or, Option, Some, None, refl, sym, ap, subst, ◌∙◌, inl, inr, arith}
use Rattle.std.specs.Prelude.{is_some}
use Rattle.std.specs.Ordering.{nat_cmp, is_eq}
use Rattle.std.specs.declared.cmp.Ordering.{Ordering}
use Rattle.std.specs.declared.cmp.Ordering.TheVariants.{Less, Equal, Greater}
use Rattle.std.proofs.lemmas.Map.Lookups.{exact_unsigned}
use Rattle.std.specs.BTreeMap.{is_at}
use Rattle.crs_base.specs.declared.symbols.Sym.{Sym}
use Rattle.crs_base.proofs.KeyOrder.{both_tie}
use Rattle.crs_history.specs.declared.numbers.Step.{Step}
use Rattle.crs_history.specs.ListNumbers.{step_cmp, Steps, count_of, step_of, led, number_from, IsNumbering, Grows}

equal_of : (o : Ordering) → is_eq o ≡ true → o ≡ Equal
equal_of Less h = absurd (cc)
equal_of Equal h = refl
equal_of Greater h = absurd (cc)

-- a step is found by its own key alone
pub step_exact : (k q : Step) → is_at (step_cmp k) q ≡ true → (k.from ≡ q.from) × (k.symbol ≡ q.symbol)
step_exact k q h =
    let both = both_tie (nat_cmp k.from q.from) (nat_cmp k.symbol q.symbol) (equal_of (step_cmp k q) h) in
    (exact_unsigned k.from q.from both.0, exact_unsigned k.symbol q.symbol both.1)

pub sym_of : (s t : Sym) → s.0 ≡ t.0 → s ≡ t
sym_of s t e = ap (λ (n : ℕ). let s : Sym = record { 0 = n } in s) e

pub some_is : (m n : ℕ) → Some m ≡ Some n → m ≡ n
some_is m n e = cc

pub some_not : (m : ℕ) → None ≡ Some m → ⊥
some_not m e = cc

-- what a step leads to
pub led_some : (o : Option ℕ) (f : ℕ → Option ℕ) (k : ℕ) → led o f ≡ Some k → (n : ℕ) × (o ≡ Some n) × (f n ≡ Some k)
led_some None f k h = absurd (some_not k h)
led_some (Some n) f k h = (n, refl, h)

module _ (m : Steps) (ok : IsNumbering m) where
  pub number_up : (ss : List Sym) (n k : ℕ) → number_from m n ss ≡ Some k → n ≤ k
  number_up [] n k h = let e = some_is n k h in omega arith
  number_up (s ∷ ss) n k h =
      let p = led_some (step_of m n s) (λ j. number_from m j ss) k h in
      let a : n < p.0 = ok.ascends n p.0 s p.1 in
      let b : p.0 ≤ k = number_up ss p.0 k p.2 in
      omega arith

  pub number_within : (ss : List Sym) (n k : ℕ) → n ≤ count_of m → number_from m n ss ≡ Some k → k ≤ count_of m
  number_within [] n k le h = let e = some_is n k h in omega arith
  number_within (s ∷ ss) n k le h =
      let p = led_some (step_of m n s) (λ j. number_from m j ss) k h in
      number_within ss p.0 k (ok.within n p.0 s p.1) p.2

-- the way to a number, from its end
abbrev back_of : Steps → List Sym → Option ℕ
back_of m [] = Some 0
back_of m (s ∷ ss) = led (back_of m ss) (λ n. step_of m n s)

abbrev turned : List Sym → List Sym → List Sym
turned [] done = done
turned (s ∷ ss) done = turned ss (s ∷ done)

module _ (m : Steps) where
  way_back : (ss done : List Sym) (n k : ℕ) → back_of m done ≡ Some n → number_from m n ss ≡ Some k → back_of m (turned ss done) ≡ Some k
  way_back [] done n k e h = e ∙ h
  way_back (s ∷ ss) done n k e h =
      let p = led_some (step_of m n s) (λ j. number_from m j ss) k h in
      way_back ss (s ∷ done) p.0 k (ap (λ o. led o (λ j. step_of m j s)) e ∙ p.1) p.2

  module _ (ok : IsNumbering m) where
    back_once : (xs ys : List Sym) (k : ℕ) → back_of m xs ≡ Some k → back_of m ys ≡ Some k → xs ≡ ys
    back_once [] [] k e h = refl
    back_once [] (y ∷ ys) k e h =
        let p = led_some (back_of m ys) (λ n. step_of m n y) k h in
        let a : p.0 < k = ok.ascends p.0 k y p.2 in
        let z : 0 ≡ k = some_is 0 k e in
        absurd (omega arith)
    back_once (x ∷ xs) [] k e h =
        let p = led_some (back_of m xs) (λ n. step_of m n x) k e in
        let a : p.0 < k = ok.ascends p.0 k x p.2 in
        let z : 0 ≡ k = some_is 0 k h in
        absurd (omega arith)
    back_once (x ∷ xs) (y ∷ ys) k e h =
        let p = led_some (back_of m xs) (λ n. step_of m n x) k e in
        let q = led_some (back_of m ys) (λ n. step_of m n y) k h in
        let same = ok.once p.0 q.0 k x y p.2 q.2 in
        let rest = back_once xs ys p.0 p.1 (q.1 ∙ ap Some (sym same.0)) in
        ap (λ z. z ∷ xs) same.1 ∙ ap (λ zs. y ∷ zs) rest

turned_length : (ss done : List Sym) → length (turned ss done) ≡ length ss + length done
turned_length [] done = omega arith
turned_length (s ∷ ss) done = let e = turned_length ss (s ∷ done) in omega arith

pub cons_is : (s t : Sym) (ss ts : List Sym) → s ∷ ss ≡ t ∷ ts → (s ≡ t) × (ss ≡ ts)
cons_is s t ss ts e = (cc, cc)

-- what was turned is the same only where it was
turned_same : (xs ys us vs : List Sym) → length us ≡ length vs → turned xs us ≡ turned ys vs → (xs ≡ ys) × (us ≡ vs)
turned_same [] [] us vs l e = (refl, e)
turned_same [] (y ∷ ys) us vs l e =
    let n = ap length e in
    let k = turned_length ys (y ∷ vs) in
    absurd (omega arith)
turned_same (x ∷ xs) [] us vs l e =
    let n = ap length e in
    let k = turned_length xs (x ∷ us) in
    absurd (omega arith)
turned_same (x ∷ xs) (y ∷ ys) us vs l e =
    let p = turned_same xs ys (x ∷ us) (y ∷ vs) (ap suc l) e in
    let q = cons_is x y us vs p.1 in
    (ap (λ z. z ∷ xs) q.0 ∙ ap (λ zs. y ∷ zs) p.0, q.1)

-- two lists of symbols don't have the same number
pub number_once : (m : Steps) → IsNumbering m → (xs ys : List Sym) (k : ℕ) → number_from m 0 xs ≡ Some k → number_from m 0 ys ≡ Some k → xs ≡ ys
number_once m ok xs ys k e h = (turned_same xs ys [] [] refl (back_once m ok (turned xs []) (turned ys []) k (way_back m xs [] 0 k refl e) (way_back m ys [] 0 k refl h))).0

-- where steps grow, a list keeps its number, and a new number is a greater one
module _ (old new : Steps) (g : Grows old new) where
  pub number_kept : (ss : List Sym) (n k : ℕ) → number_from old n ss ≡ Some k → number_from new n ss ≡ Some k
  number_kept [] n k h = h
  number_kept (s ∷ ss) n k h =
      let p = led_some (step_of old n s) (λ j. number_from old j ss) k h in
      ap (λ o. led o (λ j. number_from new j ss)) (g.kept n p.0 s p.1) ∙ number_kept ss p.0 k p.2

  pub number_fresh : IsNumbering new → (ss : List Sym) (n k : ℕ) → number_from new n ss ≡ Some k → (number_from old n ss ≡ Some k) ⊎ (count_of old < k)
  number_fresh ok [] n k h = inl h
  number_fresh ok (s ∷ ss) n k h =
      let p = led_some (step_of new n s) (λ j. number_from new j ss) k h in
      elim (g.fresh n p.0 s p.1) [
        | inr l ↦ let u : p.0 ≤ k = number_up new ok ss p.0 k p.2 in inr (omega arith)
        | inl e ↦ elim (number_fresh ok ss p.0 k p.2) [
          | inl f ↦ inl (ap (λ o. led o (λ j. number_from old j ss)) e ∙ f)
          | inr l ↦ inr l
        ]
      ]

pub grows_on : (a b d : Steps) → Grows a b → Grows b d → Grows a d
grows_on a b d g h = record {
  more = let l = g.more in let r = h.more in omega arith;
  kept = λ n k s e. h.kept n k s (g.kept n k s e);
  fresh = λ n k s e. elim (h.fresh n k s e) [ inl f ↦ g.fresh n k s f | inr l ↦ inr (let u = g.more in omega arith) ];
}

-- one more step, to a number that none led to
module _ (old new : Steps) (ok : IsNumbering old) (n : ℕ) (s : Sym) (from : n ≤ count_of old) (absent : step_of old n s ≡ None)
    (count : count_of new ≡ count_of old + 1)
    (sets : (i : ℕ) (t : Sym) → step_of new i t ≡ cond (is_at (step_cmp (record { from = n; symbol = s.0 })) (record { from = i; symbol = t.0 })) (Some (count_of old + 1)) (step_of old i t)) where
  by_key : (i : ℕ) (t : Sym) (k : ℕ) (b : Bool) → is_at (step_cmp (record { from = n; symbol = s.0 })) (record { from = i; symbol = t.0 }) ≡ b → cond b (Some (count_of old + 1)) (step_of old i t) ≡ Some k
      → (step_of old i t ≡ Some k) ⊎ ((n ≡ i) × (s ≡ t) × (k ≡ count_of old + 1))
  by_key i t k true e h = let x = step_exact (record { from = n; symbol = s.0 }) (record { from = i; symbol = t.0 }) e in inr (x.0, sym_of s t x.1, sym (some_is (count_of old + 1) k h))
  by_key i t k false e h = inl h

  told : (i k : ℕ) (t : Sym) → step_of new i t ≡ Some k → (step_of old i t ≡ Some k) ⊎ ((n ≡ i) × (s ≡ t) × (k ≡ count_of old + 1))
  told i k t h = by_key i t k _ refl (sym (sets i t) ∙ h)

  keeps : (i k : ℕ) (t : Sym) (b : Bool) → is_at (step_cmp (record { from = n; symbol = s.0 })) (record { from = i; symbol = t.0 }) ≡ b → step_of old i t ≡ Some k → cond b (Some (count_of old + 1)) (step_of old i t) ≡ Some k
  keeps i k t true e h =
      let x = step_exact (record { from = n; symbol = s.0 }) (record { from = i; symbol = t.0 }) e in
      let y : step_of old n s ≡ Some k = subst (λ (w : ℕ). step_of old w s ≡ Some k) (sym x.0) (subst (λ (w : Sym). step_of old i w ≡ Some k) (sym (sym_of s t x.1)) h) in
      absurd (some_not k (sym absent ∙ y))
  keeps i k t false e h = h

  pub step_added : Grows old new
  step_added = record {
    more = omega arith;
    kept = λ i k t h. sets i t ∙ keeps i k t _ refl h;
    fresh = λ i k t h. elim (told i k t h) [ inl e ↦ inl e | inr p ↦ inr (let e = p.2 in omega arith) ];
  }

  pub step_numbering : IsNumbering new
  step_numbering = record {
    ascends = λ i k t h. elim (told i k t h) [ inl e ↦ ok.ascends i k t e | inr p ↦ (let e = p.2 in let f = p.0 in omega arith) ];
    within = λ i k t h. elim (told i k t h) [ inl e ↦ (let l = ok.within i k t e in omega arith) | inr p ↦ (let e = p.2 in omega arith) ];
    once = λ i j k t u h l. elim (told i k t h) [
      | inl e ↦ elim (told j k u l) [
        | inl f ↦ ok.once i j k t u e f
        | inr q ↦ absurd (let w = ok.within i k t e in let x = q.2 in omega arith)
      ]
      | inr p ↦ elim (told j k u l) [
        | inl f ↦ absurd (let w = ok.within j k u f in let x = p.2 in omega arith)
        | inr q ↦ (sym p.0 ∙ q.0, sym p.1 ∙ q.1)
      ]
    ];
  }

-- one step written: that which was there, or where none was, one to a number that none led to
module _ (old new : Steps) (ok : IsNumbering old) (n : ℕ) (s : Sym) (from : n ≤ count_of old) (w : ℕ)
    (sets : (i : ℕ) (t : Sym) → step_of new i t ≡ cond (is_at (step_cmp (record { from = n; symbol = s.0 })) (record { from = i; symbol = t.0 })) (Some w) (step_of old i t)) where
  stays : (i : ℕ) (t : Sym) → step_of old n s ≡ Some w → (b : Bool) → is_at (step_cmp (record { from = n; symbol = s.0 })) (record { from = i; symbol = t.0 }) ≡ b → cond b (Some w) (step_of old i t) ≡ step_of old i t
  stays i t h true e =
      let x = step_exact (record { from = n; symbol = s.0 }) (record { from = i; symbol = t.0 }) e in
      sym h ∙ ap (λ j. step_of old j s) x.0 ∙ ap (λ u. step_of old i u) (sym_of s t x.1)
  stays i t h false e = refl

  same : step_of old n s ≡ Some w → (i : ℕ) (t : Sym) → step_of new i t ≡ step_of old i t
  same h i t = sets i t ∙ stays i t h _ refl

  pub step_grows : (o : Option ℕ) → step_of old n s ≡ o → w ≡ unwrap_or o (count_of old + 1) → count_of new ≡ count_of old + (cond (is_some o) 0 1) → Grows old new
  step_grows None e is count =
      step_added old new ok n s from e count (λ i t. sets i t ∙ ap (λ v. cond (is_at (step_cmp (record { from = n; symbol = s.0 })) (record { from = i; symbol = t.0 })) (Some v) (step_of old i t)) is)
  step_grows (Some k) e is count =
      let h : step_of old n s ≡ Some w = e ∙ ap Some (sym is) in
      record {
        more = omega arith;
        kept = λ i j t l. same h i t ∙ l;
        fresh = λ i j t l. inl (sym (same h i t) ∙ l);
      }

  pub step_numbers : (o : Option ℕ) → step_of old n s ≡ o → w ≡ unwrap_or o (count_of old + 1) → count_of new ≡ count_of old + (cond (is_some o) 0 1) → IsNumbering new
  step_numbers None e is count =
      step_numbering old new ok n s from e count (λ i t. sets i t ∙ ap (λ v. cond (is_at (step_cmp (record { from = n; symbol = s.0 })) (record { from = i; symbol = t.0 })) (Some v) (step_of old i t)) is)
  step_numbers (Some k) e is count =
      let h : step_of old n s ≡ Some w = e ∙ ap Some (sym is) in
      record {
        ascends = λ i j t l. ok.ascends i j t (sym (same h i t) ∙ l);
        within = λ i j t l. (let u = ok.within i j t (sym (same h i t) ∙ l) in omega arith);
        once = λ i j k t u l r. ok.once i j k t u (sym (same h i t) ∙ l) (sym (same h j u) ∙ r);
      }

-- one symbol and then the others
pub number_joined : (m : Steps) (n j k : ℕ) (s : Sym) (ss : List Sym) → number_from m n (s ∷ []) ≡ Some j → number_from m j ss ≡ Some k → number_from m n (s ∷ ss) ≡ Some k
number_joined m n j k s ss one rest =
    let p = led_some (step_of m n s) (λ i. number_from m i []) j one in
    ap (λ o. led o (λ i. number_from m i ss)) p.1 ∙ ap (λ i. number_from m i ss) (some_is p.0 j p.2) ∙ rest

-- a list from its place i on: its first symbol leads to where the others go on
module _ (m : Steps) (ss : List Sym) (i : ℕ) (d : Sym) (inside : i < length ss) (n : ℕ) where
  first_led : number_from m n (drop i ss) ≡ led (step_of m n (get_or ss i d)) (λ k. number_from m k (drop (i + 1) ss))
  first_led = rw (add-one, drop-cons ss i d inside) refl

  pub number_on : (k : ℕ) → step_of m n (get_or ss i d) ≡ Some k → number_from m k (drop (i + 1) ss) ≡ number_from m n (drop i ss)
  number_on k h = sym (first_led ∙ ap (λ o. led o (λ j. number_from m j (drop (i + 1) ss))) h)

  pub number_off : step_of m n (get_or ss i d) ≡ None → number_from m n (drop i ss) ≡ None
  number_off h = first_led ∙ ap (λ o. led o (λ j. number_from m j (drop (i + 1) ss))) h

-- one more symbol at the end
pub number_put : (m : Steps) (ss : List Sym) (n j k : ℕ) (s : Sym) → number_from m n ss ≡ Some j → step_of m j s ≡ Some k → number_from m n (ss ++ s ∷ []) ≡ Some k
number_put m [] n j k s h e = ap (λ o. led o (λ i. number_from m i [])) (ap (λ i. step_of m i s) (some_is n j h) ∙ e)
number_put m (t ∷ ss) n j k s h e =
    let p = led_some (step_of m n t) (λ i. number_from m i ss) j h in
    ap (λ o. led o (λ i. number_from m i (ss ++ s ∷ []))) p.1 ∙ number_put m ss p.0 j k s p.2 e
