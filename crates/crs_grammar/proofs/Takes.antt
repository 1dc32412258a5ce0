-- What is written is read so: one lemma for each reader.
use Rattle.std.proofs.Common.{◌≡◌, ℕ, ◌<◌, ◌≤◌, true, false, cond, ◌==◌, List, [], ◌∷◌, ◌++◌, Option, Some, None, option_map, refl, ap, subst, ◌∙◌, zero, suc, length, append_assoc, arith}
use Rattle.std.specs.Prelude.{bytes_eq}
use Rattle.crs_base.specs.Tokens.{Token, Word, Mark}
use Rattle.crs_base.proofs.Texts.{same_bytes}
use Rattle.crs_grammar.specs.Forms.{Part, Keyword, Sign, Symbol, Number, Gap, AreWritten, term_form, listed, symbol_form}
use Rattle.crs_grammar.specs.Statements.{Term, Value, Variable, Any}
use Rattle.crs_grammar.specs.TokenReading.{◌>>=◌, symbol_at, number_at, mark_at, keyword_at, closed_at, term_at, terms_on, values_on}

-- an answer that is there, and what follows
pub on : {A B : Type 0} (o : Option A) (x : A) (f : A → Option B) (y : Option B) → o ≡ Some x → f x ≡ y → (o >>= f) ≡ y
on o x f y e k = ap (λ z. z >>= f) e ∙ k

-- the reader gives x, and the tokens behind it, fewer than before, write the rest
pub record Takes {A : Type 0} (ts : List Token) (o : Option (A × List Token)) (x : A) (rest : List Part) (back : List Token) : Type 0 where
  pub is : o ≡ Some (x, back)
  pub left : AreWritten rest back
  pub shorter : length back < length ts

pub record TakesMark (ts : List Token) (o : Option (List Token)) (rest : List Part) (back : List Token) : Type 0 where
  pub is : o ≡ Some back
  pub left : AreWritten rest back
  pub shorter : length back < length ts

pub same_number : (n : ℕ) → (n == n) ≡ true
same_number n = grind (arith)

pub symbol_takes : (s : List ℕ) (ts : List Token) (rest : List Part) → AreWritten (Symbol s ∷ rest) ts → (back : List Token) × Takes ts (symbol_at ts) s rest back
symbol_takes s [] rest h = absurd h
symbol_takes s (Mark m ∷ ts) rest h = absurd h.0
symbol_takes s (Word w ∷ ts) rest h = (ts, record { is = (λ i. cond (h.0.1 i) (Some (w, ts)) None) ∙ ap (λ x. Some (x, ts)) h.0.0; left = h.1; shorter = omega arith })

pub number_takes : (n : ℕ) (ts : List Token) (rest : List Part) → AreWritten (Number n ∷ rest) ts → (back : List Token) × Takes ts (number_at ts) n rest back
number_takes n [] rest h = absurd h
number_takes n (Mark m ∷ ts) rest h = absurd h.0
number_takes n (Word w ∷ ts) rest h = (ts, record { is = ap (option_map (λ n. (n, ts))) h.0; left = h.1; shorter = omega arith })

pub sign_takes : (m : ℕ) (ts : List Token) (rest : List Part) → AreWritten (Sign m ∷ rest) ts → (back : List Token) × TakesMark ts (mark_at m ts) rest back
sign_takes m [] rest h = absurd h
sign_takes m (Word w ∷ ts) rest h = absurd h.0
sign_takes m (Mark n ∷ ts) rest h = (ts, record { is = (λ i. cond ((ap (λ x. x == m) h.0 ∙ same_number m) i) (Some ts) None); left = h.1; shorter = omega arith })

pub keyword_takes : (k : List ℕ) (ts : List Token) (rest : List Part) → AreWritten (Keyword k ∷ rest) ts → (back : List Token) × TakesMark ts (keyword_at k ts) rest back
keyword_takes k [] rest h = absurd h
keyword_takes k (Mark m ∷ ts) rest h = absurd h.0
keyword_takes k (Word w ∷ ts) rest h = (ts, record { is = (λ i. cond ((ap (λ x. bytes_eq x k) h.0 ∙ same_bytes k) i) (Some ts) None); left = h.1; shorter = omega arith })

pub term_takes : (t : Term) (ts : List Token) (rest : List Part) → AreWritten (term_form t ++ rest) ts → (back : List Token) × Takes ts (term_at ts) t rest back
unfolding term_at
term_takes (Value s) [] rest h = absurd h
term_takes (Value s) (Mark m ∷ ts) rest h = absurd h.0
term_takes (Value s) (Word w ∷ ts) rest h = (ts, record { is = (λ i. cond (h.0.1 i) (Some (Value w, ts)) None) ∙ ap (λ x. Some (Value x, ts)) h.0.0; left = h.1; shorter = omega arith })
term_takes (Variable x) [] rest h = absurd h
term_takes (Variable x) (Word w ∷ ts) rest h = absurd h.0
term_takes (Variable x) (Mark m ∷ ts) rest h =
    let s = symbol_takes x ts rest h.1 in
    let k = s.1.shorter in
    (s.0, record { is = ap (λ n. term_at (Mark n ∷ ts)) h.0 ∙ on _ _ _ _ s.1.is refl; left = s.1.left; shorter = omega (arith, k) })
term_takes Any [] rest h = absurd h
term_takes Any (Word w ∷ ts) rest h = absurd h.0
term_takes Any (Mark m ∷ ts) rest h = (ts, record { is = ap (λ n. term_at (Mark n ∷ ts)) h.0; left = h.1; shorter = omega arith })

-- a list is closed, or goes on
closes : (m : ℕ) (ts : List Token) (rest : List Part) → AreWritten (Sign m ∷ rest) ts → (back : List Token) × Takes ts (closed_at m ts) true rest back
closes m [] rest h = absurd h
closes m (Word w ∷ ts) rest h = absurd h.0
closes m (Mark n ∷ ts) rest h = (ts, record { is = (λ i. cond ((ap (λ x. x == m) h.0 ∙ same_number m) i) (Some (true, ts)) (cond (n == 44) (Some (false, ts)) None)); left = h.1; shorter = omega arith })

goes_on : (m : ℕ) (ts : List Token) (rest : List Part) → (44 == m) ≡ false → AreWritten (Sign 44 ∷ Gap ∷ rest) ts → (back : List Token) × Takes ts (closed_at m ts) false rest back
goes_on m [] rest e h = absurd h
goes_on m (Word w ∷ ts) rest e h = absurd h.0
goes_on m (Mark n ∷ ts) rest e h = (
  ts,
  record {
    is = ap (λ x. cond (x == m) (Some (true, ts)) (cond (x == 44) (Some (false, ts)) None)) h.0 ∙ (λ i. cond (e i) (Some (true, ts)) (Some (false, ts)));
    left = h.1;
    shorter = omega arith;
  },
)

-- terms up to a bracket
pub record Listed {A : Type 0} (o : Option (List A × List Token)) (xs : List A) (rest : List Part) (back : List Token) : Type 0 where
  pub is : o ≡ Some (xs, back)
  pub left : AreWritten rest back

pub terms_take : (n : ℕ) (out : List Term) (ts : List Token) (t : Term) (us : List Term) (rest : List Part) → length ts ≤ n → AreWritten (listed term_form (t ∷ us) ++ Sign 93 ∷ rest) ts → (back : List Token) × Listed (terms_on n out ts) (out ++ t ∷ us) rest back
unfolding terms_on
terms_take zero out ts t [] rest l h = let a = term_takes t ts (Sign 93 ∷ rest) h in let k = a.1.shorter in absurd (omega (arith, k))
terms_take zero out ts t (u ∷ us) rest l h =
    let a = term_takes t ts (Sign 44 ∷ Gap ∷ (listed term_form (u ∷ us) ++ Sign 93 ∷ rest)) (subst (λ ps. AreWritten ps ts) (append_assoc (term_form t) (Sign 44 ∷ Gap ∷ listed term_form (u ∷ us)) (Sign 93 ∷ rest)) h) in
    let k = a.1.shorter in absurd (omega (arith, k))
terms_take (suc n) out ts t [] rest l h =
    let a = term_takes t ts (Sign 93 ∷ rest) h in
    let b = closes 93 a.0 rest a.1.left in
    (b.0, record { is = on _ _ _ _ a.1.is (on _ _ _ _ b.1.is refl); left = b.1.left })
terms_take (suc n) out ts t (u ∷ us) rest l h =
    let a = term_takes t ts (Sign 44 ∷ Gap ∷ (listed term_form (u ∷ us) ++ Sign 93 ∷ rest)) (subst (λ ps. AreWritten ps ts) (append_assoc (term_form t) (Sign 44 ∷ Gap ∷ listed term_form (u ∷ us)) (Sign 93 ∷ rest)) h) in
    let b = goes_on 93 a.0 (listed term_form (u ∷ us) ++ Sign 93 ∷ rest) refl a.1.left in
    let k = a.1.shorter in
    let j = b.1.shorter in
    let r = terms_take n (out ++ t ∷ []) b.0 u us rest (omega (arith, k, j)) b.1.left in
    (r.0, record { is = on _ _ _ _ a.1.is (on _ _ _ _ b.1.is (r.1.is ∙ ap (λ xs. Some (xs, r.0)) (append_assoc out (t ∷ []) (u ∷ us)))); left = r.1.left })

pub values_take : (n : ℕ) (out : List (List ℕ)) (ts : List Token) (v : List ℕ) (vs : List (List ℕ)) (rest : List Part) → length ts ≤ n → AreWritten (listed symbol_form (v ∷ vs) ++ Sign 41 ∷ rest) ts
    → (back : List Token) × Listed (values_on n out ts) (out ++ v ∷ vs) rest back
unfolding values_on
values_take zero out ts v [] rest l h = let a = symbol_takes v ts (Sign 41 ∷ rest) h in let k = a.1.shorter in absurd (omega (arith, k))
values_take zero out ts v (u ∷ us) rest l h = let a = symbol_takes v ts (Sign 44 ∷ Gap ∷ (listed symbol_form (u ∷ us) ++ Sign 41 ∷ rest)) h in let k = a.1.shorter in absurd (omega (arith, k))
values_take (suc n) out ts v [] rest l h =
    let a = symbol_takes v ts (Sign 41 ∷ rest) h in
    let b = closes 41 a.0 rest a.1.left in
    (b.0, record { is = on _ _ _ _ a.1.is (on _ _ _ _ b.1.is refl); left = b.1.left })
values_take (suc n) out ts v (u ∷ us) rest l h =
    let a = symbol_takes v ts (Sign 44 ∷ Gap ∷ (listed symbol_form (u ∷ us) ++ Sign 41 ∷ rest)) h in
    let b = goes_on 41 a.0 (listed symbol_form (u ∷ us) ++ Sign 41 ∷ rest) refl a.1.left in
    let k = a.1.shorter in
    let j = b.1.shorter in
    let r = values_take n (out ++ v ∷ []) b.0 u us rest (omega (arith, k, j)) b.1.left in
    (r.0, record { is = on _ _ _ _ a.1.is (on _ _ _ _ b.1.is (r.1.is ∙ ap (λ xs. Some (xs, r.0)) (append_assoc out (v ∷ []) (u ∷ us)))); left = r.1.left })
