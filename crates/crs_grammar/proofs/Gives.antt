-- What is read was written so: one lemma for each reader.
use Rattle.std.proofs.Common.{◌≡◌, ℕ, Bool, true, false, cond, ◌==◌, List, [], ◌∷◌, ◌++◌, Option, Some, None, option_map, refl, sym, ap, subst, ◌∙◌, true≢false, eqb-true, zero, suc, length, append_assoc, ◌⊎◌, inl, inr}
use Rattle.crs_base.specs.Symbols.{is_symbol}
use Rattle.crs_base.specs.Tokens.{Token, Word, Mark}
use Rattle.crs_base.specs.Numbers.{number_of}
use Rattle.crs_grammar.specs.Forms.{Part, Sign, Symbol, Number, Gap, AreWritten, term_form, terms_form, change_form, pattern_form, listed}
use Rattle.crs_grammar.specs.Statements.{Term, Value, Variable, Any, Pattern}
use Rattle.crs_grammar.specs.TokenReading.{◌>>=◌, symbol_at, number_at, mark_at, closed_at, term_at, terms_on, arguments_at, pair_at, change_at, pattern_at}

none_some : {B : Type 0} (y : B) → None ≡ Some y → ⊥
none_some y e = cc

-- an answer that is there comes from one that is there
pub bind_some : {A B : Type 0} (o : Option A) (f : A → Option B) (y : B) → (o >>= f) ≡ Some y → (x : A) × (o ≡ Some x) × (f x ≡ Some y)
bind_some (Some x) f y e = (x, refl, e)
bind_some None f y e = cc

-- the same, with what follows
pub then : {A B G : Type 0} (o : Option A) (f : A → Option B) (y : B) → (o >>= f) ≡ Some y → ((x : A) → o ≡ Some x → f x ≡ Some y → G) → G
then (Some x) f y e go = go x refl e
then None f y e go = absurd (none_some y e)

-- a test that is passed
pub cond_passed : {A : Type 0} (b : Bool) (o : Option A) (y : A) → cond b o None ≡ Some y → (b ≡ true) × (o ≡ Some y)
cond_passed true o y e = (refl, e)
cond_passed false o y e = cc

pub cond_either : {A : Type 0} (b : Bool) (o p : Option A) (y : A) → cond b o p ≡ Some y → ((b ≡ true) × (o ≡ Some y)) ⊎ ((b ≡ false) × (p ≡ Some y))
cond_either true o p y e = inl (refl, e)
cond_either false o p y e = inr (refl, e)

pub some_inj : {A : Type 0} (x y : A) → Some x ≡ Some y → x ≡ y
some_inj x y e = cc

-- the tokens ts write the form and then what back writes
pub symbol_gives : (ts : List Token) (s : List ℕ) (back : List Token) (rest : List Part) → symbol_at ts ≡ Some (s, back) → AreWritten rest back → AreWritten (Symbol s ∷ rest) ts
symbol_gives [] s back rest e h = cc
symbol_gives (Mark m ∷ ts) s back rest e h = cc
symbol_gives (Word w ∷ ts) s back rest e h =
    let p = cond_passed (is_symbol w) (Some (w, ts)) (s, back) e in
    let q = some_inj (w, ts) (s, back) p.1 in
    ((ap (λ x. x.0) q, p.0), subst (AreWritten rest) (sym (ap (λ x. x.1) q)) h)

pub sign_gives : (m : ℕ) (ts back : List Token) (rest : List Part) → mark_at m ts ≡ Some back → AreWritten rest back → AreWritten (Sign m ∷ rest) ts
sign_gives m [] back rest e h = cc
sign_gives m (Word w ∷ ts) back rest e h = cc
sign_gives m (Mark n ∷ ts) back rest e h =
    let p = cond_passed (n == m) (Some ts) back e in
    (eqb-true n m p.0, subst (AreWritten rest) (sym (some_inj ts back p.1)) h)

pub option_map_some : {A B : Type 0} (f : A → B) (o : Option A) (y : B) → option_map f o ≡ Some y → (x : A) × (o ≡ Some x) × (f x ≡ y)
option_map_some f (Some x) y e = (x, refl, some_inj (f x) y e)
option_map_some f None y e = cc

pub number_gives : (ts : List Token) (n : ℕ) (back : List Token) (rest : List Part) → number_at ts ≡ Some (n, back) → AreWritten rest back → AreWritten (Number n ∷ rest) ts
number_gives [] n back rest e h = cc
number_gives (Mark m ∷ ts) n back rest e h = cc
number_gives (Word w ∷ ts) n back rest e h =
    let p = option_map_some (λ k. (k, ts)) (number_of w) (n, back) e in
    (p.1 ∙ ap Some (ap (λ x. x.0) p.2), subst (AreWritten rest) (sym (ap (λ x. x.1) p.2)) h)

-- one form of a term or another
pub term_gives : (ts : List Token) (t : Term) (back : List Token) (rest : List Part) → term_at ts ≡ Some (t, back) → AreWritten rest back → AreWritten (term_form t ++ rest) ts
unfolding term_at
term_gives [] t back rest e h = cc
term_gives (Word w ∷ ts) t back rest e h =
    let p = cond_passed (is_symbol w) (Some (Value w, ts)) (t, back) e in
    let q = some_inj (Value w, ts) (t, back) p.1 in
    subst (λ x. AreWritten (term_form x ++ rest) (Word w ∷ ts)) (ap (λ x. x.0) q) ((refl, p.0), subst (AreWritten rest) (sym (ap (λ x. x.1) q)) h)
term_gives (Mark m ∷ ts) t back rest e h = elim (cond_either (m == 42) (Some (Any, ts)) (cond (m == 63) (symbol_at ts >>= λ x. Some (Variable x.0, x.1)) None) (t, back) e) [
  | inl p ↦
      let q = some_inj (Any, ts) (t, back) p.1 in
      subst (λ x. AreWritten (term_form x ++ rest) (Mark m ∷ ts)) (ap (λ x. x.0) q) (eqb-true m 42 p.0, subst (AreWritten rest) (sym (ap (λ x. x.1) q)) h)
  | inr p ↦
      let r = cond_passed (m == 63) (symbol_at ts >>= λ x. Some (Variable x.0, x.1)) (t, back) p.1 in
      let s = bind_some (symbol_at ts) (λ x. Some (Variable x.0, x.1)) (t, back) r.1 in
      let q = some_inj (Variable s.0.0, s.0.1) (t, back) s.2 in
      subst (λ x. AreWritten (term_form x ++ rest) (Mark m ∷ ts)) (ap (λ x. x.0) q)
      (eqb-true m 63 r.0, symbol_gives ts s.0.0 s.0.1 rest s.1 (subst (AreWritten rest) (sym (ap (λ x. x.1) q)) h))
]

pub same_pair : {A B : Type 0} (x y : A) (u v : B) → ◌≡◌ {A = Option (A × B)} (Some (x, u)) (Some (y, v)) → (x ≡ y) × (u ≡ v)
same_pair {A} {B} x y u v e = let q : ◌≡◌ {A = A × B} (x, u) (y, v) = some_inj {A = A × B} (x, u) (y, v) e in (ap (λ p. p.0) q, ap (λ p. p.1) q)

-- a bracket, or else a comma
pub closed_gives : (m : ℕ) (ts back : List Token) (rest : List Part) → closed_at m ts ≡ Some (true, back) → AreWritten rest back → AreWritten (Sign m ∷ rest) ts
closed_gives m [] back rest e h = cc
closed_gives m (Word w ∷ ts) back rest e h = cc
closed_gives m (Mark n ∷ ts) back rest e h = elim (cond_either (n == m) (Some (true, ts)) (cond (n == 44) (Some (false, ts)) None) (true, back) e) [
  | inl p ↦ (eqb-true n m p.0, subst (AreWritten rest) (sym (same_pair true true ts back p.1).1) h)
  | inr p ↦ absurd (true≢false (sym (same_pair false true ts back (cond_passed (n == 44) (Some (false, ts)) (true, back) p.1).1).0))
]

pub comma_gives : (m : ℕ) (ts back : List Token) (rest : List Part) → closed_at m ts ≡ Some (false, back) → AreWritten rest back → AreWritten (Sign 44 ∷ Gap ∷ rest) ts
comma_gives m [] back rest e h = cc
comma_gives m (Word w ∷ ts) back rest e h = cc
comma_gives m (Mark n ∷ ts) back rest e h = elim (cond_either (n == m) (Some (true, ts)) (cond (n == 44) (Some (false, ts)) None) (false, back) e) [
  | inl p ↦ absurd (true≢false (same_pair true false ts back p.1).0)
  | inr p ↦ let q = cond_passed (n == 44) (Some (false, ts)) (false, back) p.1 in
      (eqb-true n 44 q.0, subst (AreWritten rest) (sym (same_pair false false ts back q.1).1) h)
]

-- terms up to a bracket, behind others
pub terms_give : (n : ℕ) (out : List Term) (ts : List Token) (all : List Term) (back : List Token) → terms_on n out ts ≡ Some (all, back)
    → (rest : List Part) → AreWritten rest back → (u : Term) × (us : List Term) × (all ≡ out ++ u ∷ us) × AreWritten (listed term_form (u ∷ us) ++ Sign 93 ∷ rest) ts
unfolding terms_on
terms_give zero out ts all back e rest h = cc
terms_give (suc n) out ts all back e rest h =
    let p = bind_some (term_at ts) (λ t. closed_at 93 t.1 >>= λ k. cond k.0 (Some (out ++ t.0 ∷ [], k.1)) (terms_on n (out ++ t.0 ∷ []) k.1)) (all, back) e in
    let q = bind_some (closed_at 93 p.0.1) (λ k. cond k.0 (Some (out ++ p.0.0 ∷ [], k.1)) (terms_on n (out ++ p.0.0 ∷ []) k.1)) (all, back) p.2 in
    by p.0.0 p.0.1 p.1 q.0.0 q.0.1 q.1 q.2 (λ f. terms_give n (out ++ p.0.0 ∷ []) q.0.1 all back f rest h)
  where
    by : (t : Term) (ks : List Token) → term_at ts ≡ Some (t, ks) → (b : Bool) (ls : List Token) → closed_at 93 ks ≡ Some (b, ls)
        → cond b (Some (out ++ t ∷ [], ls)) (terms_on n (out ++ t ∷ []) ls) ≡ Some (all, back)
        → (terms_on n (out ++ t ∷ []) ls ≡ Some (all, back) → (u : Term) × (us : List Term) × (all ≡ (out ++ t ∷ []) ++ u ∷ us) × AreWritten (listed term_form (u ∷ us) ++ Sign 93 ∷ rest) ls)
        → (u : Term) × (us : List Term) × (all ≡ out ++ u ∷ us) × AreWritten (listed term_form (u ∷ us) ++ Sign 93 ∷ rest) ts
    by t ks f true ls g k more =
        let w = same_pair (out ++ t ∷ []) all ls back k in
        (t, [], sym w.0, term_gives ts t ks (Sign 93 ∷ rest) f (closed_gives 93 ks ls rest g (subst (AreWritten rest) (sym w.1) h)))
    by t ks f false ls g k more =
        let r = more k in (
          t,
          r.0 ∷ r.1,
          r.2 ∙ append_assoc out (t ∷ []) (r.0 ∷ r.1),
          subst (λ ps. AreWritten ps ts) (sym (append_assoc (term_form t) (Sign 44 ∷ Gap ∷ listed term_form (r.0 ∷ r.1)) (Sign 93 ∷ rest)))
              (term_gives ts t ks (Sign 44 ∷ Gap ∷ (listed term_form (r.0 ∷ r.1) ++ Sign 93 ∷ rest)) f (comma_gives 93 ks ls (listed term_form (r.0 ∷ r.1) ++ Sign 93 ∷ rest) g r.3)),
        )

-- a reader of optional terms
pub arguments_give : (ts : List Token) (us : List Term) (back : List Token) (rest : List Part) → arguments_at ts ≡ Some (us, back) → AreWritten rest back → AreWritten (terms_form us ++ rest) ts
unfolding arguments_at
arguments_give [] us back rest e h = let q = same_pair [] us [] back e in subst (λ x. AreWritten (terms_form x ++ rest) []) q.0 (subst (AreWritten rest) (sym q.1) h)
arguments_give (Word w ∷ ts) us back rest e h = let q = same_pair [] us (Word w ∷ ts) back e in subst (λ x. AreWritten (terms_form x ++ rest) (Word w ∷ ts)) q.0 (subst (AreWritten rest) (sym q.1) h)
arguments_give (Mark m ∷ ts) us back rest e h = elim (cond_either (m == 91) (terms_on (length ts) [] ts) (Some ([], Mark m ∷ ts)) (us, back) e) [
  | inl p ↦ let r = terms_give (length ts) [] ts us back p.1 rest h in
      subst (λ x. AreWritten (terms_form x ++ rest) (Mark m ∷ ts)) (sym r.2)
      (eqb-true m 91 p.0, subst (λ ps. AreWritten ps ts) (sym (append_assoc (listed term_form (r.0 ∷ r.1)) (Sign 93 ∷ []) rest)) r.3)
  | inr p ↦ let q = same_pair [] us (Mark m ∷ ts) back p.1 in subst (λ x. AreWritten (terms_form x ++ rest) (Mark m ∷ ts)) q.0 (subst (AreWritten rest) (sym q.1) h)
]

pub pair_gives : (ts : List Token) (old new : Term) (back : List Token) (rest : List Part) → pair_at ts ≡ Some ((old, new), back) → AreWritten rest back
    → AreWritten (term_form old ++ Sign 44 ∷ Gap ∷ (term_form new ++ Sign 41 ∷ rest)) ts
unfolding pair_at
pair_gives ts old new back rest e h =
    let a = bind_some (term_at ts) (λ t. mark_at 44 t.1 >>= λ b. term_at b >>= λ u. mark_at 41 u.1 >>= λ r. Some ((t.0, u.0), r)) ((old, new), back) e in
    let b = bind_some (mark_at 44 a.0.1) (λ b. term_at b >>= λ u. mark_at 41 u.1 >>= λ r. Some ((a.0.0, u.0), r)) ((old, new), back) a.2 in
    let d = bind_some (term_at b.0) (λ u. mark_at 41 u.1 >>= λ r. Some ((a.0.0, u.0), r)) ((old, new), back) b.2 in
    let f = bind_some (mark_at 41 d.0.1) (λ r. Some ((a.0.0, d.0.0), r)) ((old, new), back) d.2 in
    let q = same_pair (a.0.0, d.0.0) (old, new) f.0 back f.2 in
    let o : a.0.0 ≡ old = ap (λ p. p.0) q.0 in
    let n : d.0.0 ≡ new = ap (λ p. p.1) q.0 in
    term_gives ts old a.0.1 (Sign 44 ∷ Gap ∷ (term_form new ++ Sign 41 ∷ rest)) (a.1 ∙ ap (λ x. Some (x, a.0.1)) o)
    (sign_gives 44 a.0.1 b.0 (Gap ∷ (term_form new ++ Sign 41 ∷ rest)) b.1
    (term_gives b.0 new d.0.1 (Sign 41 ∷ rest) (d.1 ∙ ap (λ x. Some (x, d.0.1)) n)
    (sign_gives 41 d.0.1 f.0 rest f.1 (subst (AreWritten rest) (sym q.1) h))))

regroup : (xs ys zs : List Part) → xs ++ Sign 44 ∷ Gap ∷ (ys ++ Sign 41 ∷ zs) ≡ (xs ++ Sign 44 ∷ Gap ∷ ys ++ Sign 41 ∷ []) ++ zs
regroup xs ys zs = simp append_assoc

pub change_gives : (ts : List Token) (c : Option (Term × Term)) (back : List Token) (rest : List Part) → change_at ts ≡ Some (c, back) → AreWritten rest back → AreWritten (change_form c ++ rest) ts
unfolding change_at
change_gives [] c back rest e h = let q = same_pair None c [] back e in subst (λ x. AreWritten (change_form x ++ rest) []) q.0 (subst (AreWritten rest) (sym q.1) h)
change_gives (Word w ∷ ts) c back rest e h = let q = same_pair None c (Word w ∷ ts) back e in subst (λ x. AreWritten (change_form x ++ rest) (Word w ∷ ts)) q.0 (subst (AreWritten rest) (sym q.1) h)
change_gives (Mark m ∷ ts) c back rest e h = elim (cond_either (m == 58) (mark_at 40 ts >>= λ b. pair_at b >>= λ p. Some (Some p.0, p.1)) (Some (None, Mark m ∷ ts)) (c, back) e) [
  | inl p ↦
      let a = bind_some (mark_at 40 ts) (λ b. pair_at b >>= λ p. Some (Some p.0, p.1)) (c, back) p.1 in
      let b = bind_some (pair_at a.0) (λ p. Some (Some p.0, p.1)) (c, back) a.2 in
      let q = same_pair (Some b.0.0) c b.0.1 back b.2 in
      subst (λ x. AreWritten (change_form x ++ rest) (Mark m ∷ ts)) q.0 (
        eqb-true m 58 p.0,
        sign_gives 40 ts a.0 ((term_form b.0.0.0 ++ Sign 44 ∷ Gap ∷ term_form b.0.0.1 ++ Sign 41 ∷ []) ++ rest) a.1
            (subst (λ ps. AreWritten ps a.0) (regroup (term_form b.0.0.0) (term_form b.0.0.1) rest)
            (pair_gives a.0 b.0.0.0 b.0.0.1 b.0.1 rest b.1 (subst (AreWritten rest) (sym q.1) h))),
      )
  | inr p ↦ let q = same_pair None c (Mark m ∷ ts) back p.1 in subst (λ x. AreWritten (change_form x ++ rest) (Mark m ∷ ts)) q.0 (subst (AreWritten rest) (sym q.1) h)
]

pub pattern_gives : (ts : List Token) (p : Pattern) (back : List Token) (rest : List Part) → pattern_at ts ≡ Some (p, back) → AreWritten rest back → AreWritten (pattern_form p ++ rest) ts
unfolding pattern_at
pattern_gives ts p back rest e h =
    let a = bind_some (symbol_at ts) (λ n. arguments_at n.1 >>= λ u. change_at u.1 >>= λ c. Some (record { name = n.0; terms = u.0; change = c.0 }, c.1)) (p, back) e in
    let b = bind_some (arguments_at a.0.1) (λ u. change_at u.1 >>= λ c. Some (record { name = a.0.0; terms = u.0; change = c.0 }, c.1)) (p, back) a.2 in
    let d = bind_some (change_at b.0.1) (λ c. Some (record { name = a.0.0; terms = b.0.0; change = c.0 }, c.1)) (p, back) b.2 in
    let read : Pattern = record { name = a.0.0; terms = b.0.0; change = d.0.0 } in
    let q = same_pair read p d.0.1 back d.2 in
    subst (λ x. AreWritten (pattern_form x ++ rest) ts) q.0
    (symbol_gives ts a.0.0 a.0.1 ((terms_form b.0.0 ++ change_form d.0.0) ++ rest) a.1
    (subst (λ ps. AreWritten ps a.0.1) (sym (append_assoc (terms_form b.0.0) (change_form d.0.0) rest))
    (arguments_give a.0.1 b.0.0 b.0.1 (change_form d.0.0 ++ rest) b.1
    (change_gives b.0.1 d.0.0 d.0.1 rest d.1 (subst (AreWritten rest) (sym q.1) h)))))

-- how two anchors and what holds are written, bracketed in two ways
pub range_shape : (f t : List Part) → f ++ Sign 44 ∷ Gap ∷ (t ++ Sign 41 ∷ Sign 41 ∷ []) ≡ f ++ Sign 44 ∷ Gap ∷ t ++ Sign 41 ∷ Sign 41 ∷ []
range_shape f t = simp append_assoc

pub hold_shape : (xs ys zs : List Part) → xs ++ Sign 58 ∷ Gap ∷ (ys ++ zs) ≡ (xs ++ Sign 58 ∷ Gap ∷ ys) ++ zs
hold_shape xs ys zs = simp append_assoc
