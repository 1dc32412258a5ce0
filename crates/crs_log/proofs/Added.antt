-- Texts that are added to a table.
use Rattle.std.proofs.Common.{◌≡◌, ◌≤◌, ◌<◌, ℕ, ◌+◌, Bool, true, false, cond, ◌||◌, List, [], ◌∷◌, ◌++◌, length, get_or, map, take, drop, refl, sym, ap, subst, ◌∙◌, arith, suc, one-add, length-append, true≢false, not, drop-cons, add-one}
use Rattle.std.proofs.Math.ListN.{get_or-append}
use Rattle.std.proofs.Math.Seq.{get_or-append_seam}
use Rattle.std.specs.Prelude.{bytes_eq}
use Rattle.std.specs.List.{list_any, position_or_len}
use Rattle.std.proofs.lemmas.List.{map-append, take_more}
use Rattle.std.proofs.lemmas.List.Folds.{list_any-append}
use Rattle.std.proofs.Math.Bool.{or-false, or_assoc}
use Rattle.crs_base.specs.Symbols.{is_known, with_text, text_at, with_texts}
use Rattle.crs_base.specs.declared.symbols.Sym.{Sym}
use Rattle.crs_base.proofs.Texts.{bytes_same}
use Rattle.crs_log.specs.Known.{new_texts, one_if_new}
use Rattle.crs_model.specs.Renaming.{text_in}
use Rattle.crs_model.specs.Renaming.{AreKnown}

known_by : (K : List (List ℕ)) (t x : List ℕ) (k s : Bool) → is_known K x ≡ k → bytes_eq t x ≡ s → is_known (cond k K (K ++ x ∷ [])) t ≡ (is_known K t || s)
known_by K t x true true e f = ap (is_known K) (bytes_same t x f) ∙ e ∙ sym (ap (λ b. b || true) (ap (is_known K) (bytes_same t x f) ∙ e))
known_by K t x true false e f = sym (or-false (is_known K t))
known_by K t x false s e f = list_any-append (bytes_eq t) K (x ∷ []) ∙ ap (λ b. is_known K t || b) (ap (λ b. b || false) f ∙ or-false s)

-- what is known once x is
pub known_with : (K : List (List ℕ)) (t x : List ℕ) → is_known (with_text K x) t ≡ (is_known K t || bytes_eq t x)
known_with K t x = known_by K t x (is_known K x) (bytes_eq t x) refl refl

-- what is known once all of these are
pub known_with_all : (xs K : List (List ℕ)) (t : List ℕ) → is_known (with_texts K xs) t ≡ (is_known K t || list_any (bytes_eq t) xs)
known_with_all [] K t = sym (or-false (is_known K t))
known_with_all (x ∷ xs) K t = known_with_all xs (with_text K x) t ∙ ap (λ b. b || list_any (bytes_eq t) xs) (known_with K t x) ∙ or_assoc (is_known K t) (bytes_eq t x) (list_any (bytes_eq t) xs)

pub with_append : (xs ys K : List (List ℕ)) → with_texts K (xs ++ ys) ≡ with_texts (with_texts K xs) ys
with_append [] ys K = refl
with_append (x ∷ xs) ys K = with_append xs ys (with_text K x)

new_by : (K ts : List (List ℕ)) (t : List ℕ) (k : Bool) → is_known K t ≡ k → length (new_texts K (t ∷ ts)) ≡ cond k 0 1 + length (new_texts (cond k K (K ++ t ∷ [])) ts)
new_by K ts t true e = (λ i. length (cond (e i) (new_texts K ts) (t ∷ new_texts (K ++ t ∷ []) ts))) ∙ omega arith
new_by K ts t false e = (λ i. length (cond (e i) (new_texts K ts) (t ∷ new_texts (K ++ t ∷ []) ts))) ∙ omega arith

-- one more text
pub new_step : (K ts : List (List ℕ)) (t : List ℕ) → length (new_texts K (t ∷ ts)) ≡ one_if_new K t + length (new_texts (with_text K t) ts)
new_step K ts t = new_by K ts t (is_known K t) refl

pub met_one : (K xs : List (List ℕ)) (t : List ℕ) (b : Bool) → (is_known K t || list_any (bytes_eq t) xs) ≡ b → one_if_new (with_texts K xs) t ≡ cond b 0 1
met_one K xs t b e = ap (λ k. cond k 0 1) (known_with_all xs K t ∙ e)

one_by : (k : Bool) → cond k 0 1 ≤ 1
one_by true = omega arith
one_by false = omega arith

pub at_most_one : (T : List (List ℕ)) (t : List ℕ) → one_if_new T t ≤ 1
at_most_one T t = one_by (is_known T t)

length_by : (T : List (List ℕ)) (t : List ℕ) (k : Bool) → length (cond k T (T ++ t ∷ [])) ≡ length T + cond k 0 1
length_by T t true = omega arith
length_by T t false = length-append T (t ∷ [])

-- one more text makes the table longer where it is new
pub length_with : (T : List (List ℕ)) (t : List ℕ) → length (with_text T t) ≡ length T + one_if_new T t
length_with T t = length_by T t (is_known T t)

kept_by : (T : List (List ℕ)) (t : List ℕ) (n : ℕ) (k : Bool) → n < length T → text_at (cond k T (T ++ t ∷ [])) n ≡ text_at T n
kept_by T t n true h = refl
kept_by T t n false h = get_or-append T (t ∷ []) [] n h

-- the others keep their numbers
pub kept_text : (T : List (List ℕ)) (t : List ℕ) (n : ℕ) → n < length T → text_at (with_text T t) n ≡ text_at T n
kept_text T t n h = kept_by T t n (is_known T t) h

still_by : (T : List (List ℕ)) (t : List ℕ) (n : ℕ) → n < length T → n < length (with_text T t)
still_by T t n h = let e : length (with_text T t) ≡ length T + one_if_new T t = length_with T t in omega (arith, e, h)

pub kept_texts : (T : List (List ℕ)) (t : List ℕ) (ss : List Sym) → AreKnown T ss → map (text_in (with_text T t)) ss ≡ map (text_in T) ss
kept_texts T t [] h = refl
kept_texts T t (s ∷ ss) h = λ i. kept_text T t s.0 h.0 i ∷ kept_texts T t ss h.1 i

pub still_in : (T : List (List ℕ)) (t : List ℕ) (ss : List Sym) (s : Sym) → AreKnown T ss → s.0 < length (with_text T t) → AreKnown (with_text T t) (ss ++ s ∷ [])
still_in T t [] s h k = (k, tt)
still_in T t (x ∷ ss) s h k = (still_by T t x.0 h.0, still_in T t ss s h.1 k)

-- the place of a text that is there
abbrev pub IsPlaced : List ℕ → List (List ℕ) → ℕ → Type 0
IsPlaced t xs n = (n < length xs) × (text_at xs n ≡ t)

place_step : (x t : List ℕ) (xs : List (List ℕ)) (b : Bool) → bytes_eq t x ≡ b → (list_any (bytes_eq t) xs ≡ true → IsPlaced t xs (position_or_len (bytes_eq t) xs))
    → (b || list_any (bytes_eq t) xs) ≡ true → IsPlaced t (x ∷ xs) (cond (not b) (1 + position_or_len (bytes_eq t) xs) 0)
place_step x t xs true e rest h = (omega arith, sym (bytes_same t x e))
place_step x t xs false e rest h = let k : IsPlaced t xs (position_or_len (bytes_eq t) xs) = rest h in
    subst (λ n. IsPlaced t (x ∷ xs) n) (sym (one-add (position_or_len (bytes_eq t) xs))) (omega (arith, k.0), k.1)

pub place_known : (t : List ℕ) (xs : List (List ℕ)) → is_known xs t ≡ true → IsPlaced t xs (position_or_len (bytes_eq t) xs)
place_known t [] h = absurd (true≢false (sym h))
place_known t (x ∷ xs) h = place_step x t xs (bytes_eq t x) refl (place_known t xs) h

absent_step : (x t : List ℕ) (xs : List (List ℕ)) (b : Bool) → (list_any (bytes_eq t) xs ≡ false → position_or_len (bytes_eq t) xs ≡ length xs) → (b || list_any (bytes_eq t) xs) ≡ false → cond (not b) (1 + position_or_len (bytes_eq t) xs) 0 ≡ suc (length xs)
absent_step x t xs true rest h = absurd (true≢false h)
absent_step x t xs false rest h = one-add (position_or_len (bytes_eq t) xs) ∙ ap suc (rest h)

place_absent : (t : List ℕ) (xs : List (List ℕ)) → is_known xs t ≡ false → position_or_len (bytes_eq t) xs ≡ length xs
place_absent t [] h = refl
place_absent t (x ∷ xs) h = absent_step x t xs (bytes_eq t x) (place_absent t xs) h

placed_by : (T : List (List ℕ)) (t : List ℕ) (k : Bool) → is_known T t ≡ k → IsPlaced t (cond k T (T ++ t ∷ [])) (position_or_len (bytes_eq t) T)
placed_by T t true e = place_known t T e
placed_by T t false e = subst (λ n. IsPlaced t (T ++ t ∷ []) n) (sym (place_absent t T e))
    (let l : length (T ++ t ∷ []) ≡ length T + 1 = length-append T (t ∷ []) in omega (arith, l), get_or-append_seam T t [] [])

-- the place of a text once it is there
pub placed : (T : List (List ℕ)) (t : List ℕ) → IsPlaced t (with_text T t) (position_or_len (bytes_eq t) T)
placed T t = placed_by T t (is_known T t) refl

-- One step of a loop over texts.
module _ {A : Type 0} (f : A → List ℕ) (xs : List A) (i : ℕ) (d : A) (lt : i < length xs) where
  pub drops : map f (drop i xs) ≡ f (get_or xs i d) ∷ map f (drop (i + 1) xs)
  drops = ap (map f) (drop-cons xs i d lt ∙ ap (λ k. get_or xs i d ∷ drop k xs) (sym (add-one i)))

  pub takes : map f (take (i + 1) xs) ≡ map f (take i xs) ++ f (get_or xs i d) ∷ []
  takes = ap (map f) (take_more xs i d lt) ∙ map-append f (take i xs) (get_or xs i d ∷ [])

  pub with_next : (K : List (List ℕ)) → with_texts K (map f (take (i + 1) xs)) ≡ with_text (with_texts K (map f (take i xs))) (f (get_or xs i d))
  with_next K = ap (with_texts K) takes ∙ with_append (map f (take i xs)) (f (get_or xs i d) ∷ []) K

  pub count_next : (K : List (List ℕ)) (count all : ℕ) → count + length (new_texts (with_texts K (map f (take i xs))) (map f (drop i xs))) ≡ all
      → (count + one_if_new (with_texts K (map f (take i xs))) (f (get_or xs i d))) + length (new_texts (with_texts K (map f (take (i + 1) xs))) (map f (drop (i + 1) xs))) ≡ all
  count_next K count all h =
      let T : List (List ℕ) = with_texts K (map f (take i xs)) in
      let t : List ℕ = f (get_or xs i d) in
      let rest : List (List ℕ) = map f (drop (i + 1) xs) in
      let a : length (new_texts T (map f (drop i xs))) ≡ one_if_new T t + length (new_texts (with_text T t) rest) = ap (λ ts. length (new_texts T ts)) drops ∙ new_step T rest t in
      let b : length (new_texts (with_texts K (map f (take (i + 1) xs))) rest) ≡ length (new_texts (with_text T t) rest) = ap (λ U. length (new_texts U rest)) (with_next K) in
      omega (arith, a, b, h)

  -- the room that is left behind a text
  pub room_next : (T U : List (List ℕ)) (limit : ℕ) → U ≡ with_text T (f (get_or xs i d)) → length T + length (new_texts T (map f (drop i xs))) ≤ limit → length U + length (new_texts U (map f (drop (i + 1) xs))) ≤ limit
  room_next T U limit is h =
      let t : List ℕ = f (get_or xs i d) in
      let rest : List (List ℕ) = map f (drop (i + 1) xs) in
      let a : length (new_texts T (map f (drop i xs))) ≡ one_if_new T t + length (new_texts (with_text T t) rest) = ap (λ ts. length (new_texts T ts)) drops ∙ new_step T rest t in
      let b : length (new_texts U rest) ≡ length (new_texts (with_text T t) rest) = ap (λ V. length (new_texts V rest)) is in
      let e : length U ≡ length T + one_if_new T t = ap length is ∙ length_with T t in
      omega (arith, a, b, e, h)

-- no more are new than there are
pub new_at_most : (K ts : List (List ℕ)) → length (new_texts K ts) ≤ length ts
new_at_most K [] = omega arith
new_at_most K (t ∷ ts) =
    let e = new_step K ts t in
    let one = at_most_one K t in
    let rest = new_at_most (with_text K t) ts in
    omega (arith, e, one, rest)
