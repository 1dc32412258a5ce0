-- The tokens of a line, from the front.
use Rattle.std.proofs.Common.{◌≡◌, ℕ, ◌+◌, Bool, true, false, cond, List, [], ◌∷◌, ◌++◌, take, drop, length, refl, sym, ap, ◌∙◌, suc, Option, Some, None, option_map, option_and_then, true≢false, ◌==◌, ◌||◌, ◌&&◌, eqb-true, one-add, append_assoc, subst, ◌≤◌, ◌-◌, arith, length-drop}
use Rattle.std.proofs.lemmas.List.{drop-drop}
use Rattle.std.specs.List.{prefix_len, list_all}
use Rattle.crs_base.specs.Symbols.{is_symbol_byte}
use Rattle.crs_base.specs.Lines.{is_blank}
use Rattle.crs_base.specs.Tokens.{Token, Word, Mark, tokens_behind, behind_equals, behind_mark, begins_word, lengthened}

blank_cases : (c : ℕ) (s t : Bool) → (c == 32) ≡ s → (c == 9) ≡ t → is_symbol_byte c ≡ true → (s || t) ≡ false
blank_cases c true t e f h = absurd (true≢false (sym h ∙ ap is_symbol_byte (eqb-true c 32 e)))
blank_cases c false true e f h = absurd (true≢false (sym h ∙ ap is_symbol_byte (eqb-true c 9 f)))
blank_cases c false false e f h = refl

-- a symbol byte is no blank
pub symbol_no_blank : (c : ℕ) → is_symbol_byte c ≡ true → is_blank c ≡ false
symbol_no_blank c h = blank_cases c (c == 32) (c == 9) refl refl h

module _ (m : ℕ → Bool) where
  longer : (b : ℕ) (w : List ℕ) (o : Option (List Token)) → option_map (lengthened b) (option_map (λ ts. Word w ∷ ts) o) ≡ option_map (λ ts. Word (b ∷ w) ∷ ts) o
  longer b w None = refl
  longer b w (Some ts) = refl

  first_step : (b : ℕ) (bs : List ℕ) → is_blank b ≡ false → is_symbol_byte b ≡ true
      → tokens_behind m false (b ∷ bs) ≡ option_map (λ ts. cond (begins_word bs) (lengthened b ts) (Word (b ∷ []) ∷ ts)) (tokens_behind m false bs)
  first_step b bs blank symbol = λ i. cond (blank i) (tokens_behind m false bs)
      (cond (symbol i) (option_map (λ ts. cond (begins_word bs) (lengthened b ts) (Word (b ∷ []) ∷ ts)) (tokens_behind m false bs))
      (cond (m b) (option_map (λ ts. Mark b ∷ ts) (tokens_behind m (b == 33) bs)) None))

  word_behind : (bs : List ℕ) (b : ℕ) → is_blank b ≡ false → is_symbol_byte b ≡ true
      → tokens_behind m false (b ∷ bs) ≡ option_map (λ ts. Word (b ∷ take (prefix_len is_symbol_byte bs) bs) ∷ ts) (tokens_behind m false (drop (prefix_len is_symbol_byte bs) bs))
  word_behind [] b blank symbol = first_step b [] blank symbol
  word_behind (c ∷ cs) b blank symbol = first_step b (c ∷ cs) blank symbol ∙ by (is_symbol_byte c) refl (word_behind cs c)
    where
      by : (t : Bool) → is_symbol_byte c ≡ t
          → (is_blank c ≡ false → is_symbol_byte c ≡ true → tokens_behind m false (c ∷ cs) ≡ option_map (λ ts. Word (c ∷ take (prefix_len is_symbol_byte cs) cs) ∷ ts) (tokens_behind m false (drop (prefix_len is_symbol_byte cs) cs)))
          → option_map (λ ts. cond (is_symbol_byte c) (lengthened b ts) (Word (b ∷ []) ∷ ts)) (tokens_behind m false (c ∷ cs))
          ≡ option_map (λ ts. Word (b ∷ take (cond (is_symbol_byte c) (1 + prefix_len is_symbol_byte cs) 0) (c ∷ cs)) ∷ ts) (tokens_behind m false (drop (cond (is_symbol_byte c) (1 + prefix_len is_symbol_byte cs) 0) (c ∷ cs)))
      by false e rest = (λ i. option_map (λ ts. cond (e i) (lengthened b ts) (Word (b ∷ []) ∷ ts)) (tokens_behind m false (c ∷ cs)))
          ∙ sym (λ i. option_map (λ ts. Word (b ∷ take (cond (e i) (1 + prefix_len is_symbol_byte cs) 0) (c ∷ cs)) ∷ ts) (tokens_behind m false (drop (cond (e i) (1 + prefix_len is_symbol_byte cs) 0) (c ∷ cs))))
      by true e rest = (λ i. option_map (λ ts. cond (e i) (lengthened b ts) (Word (b ∷ []) ∷ ts)) (rest (symbol_no_blank c e) e i))
          ∙ longer b (c ∷ take (prefix_len is_symbol_byte cs) cs) (tokens_behind m false (drop (prefix_len is_symbol_byte cs) cs))
          ∙ sym ((λ i. option_map (λ ts. Word (b ∷ take (cond (e i) (1 + prefix_len is_symbol_byte cs) 0) (c ∷ cs)) ∷ ts) (tokens_behind m false (drop (cond (e i) (1 + prefix_len is_symbol_byte cs) 0) (c ∷ cs))))
          ∙ ap (λ n. option_map (λ ts. Word (b ∷ take n (c ∷ cs)) ∷ ts) (tokens_behind m false (drop n (c ∷ cs)))) (one-add (prefix_len is_symbol_byte cs)))

  -- the word in front, and the tokens behind it
  pub word_front : (b : ℕ) (bs : List ℕ) → is_symbol_byte b ≡ true
      → tokens_behind m false (b ∷ bs) ≡ option_map (λ ts. Word (take (prefix_len is_symbol_byte (b ∷ bs)) (b ∷ bs)) ∷ ts) (tokens_behind m false (drop (prefix_len is_symbol_byte (b ∷ bs)) (b ∷ bs)))
  word_front b bs symbol = word_behind bs b (symbol_no_blank b symbol) symbol
      ∙ sym ((λ i. option_map (λ ts. Word (take (cond (symbol i) (1 + prefix_len is_symbol_byte bs) 0) (b ∷ bs)) ∷ ts) (tokens_behind m false (drop (cond (symbol i) (1 + prefix_len is_symbol_byte bs) 0) (b ∷ bs))))
      ∙ ap (λ n. option_map (λ ts. Word (take n (b ∷ bs)) ∷ ts) (tokens_behind m false (drop n (b ∷ bs)))) (one-add (prefix_len is_symbol_byte bs)))

-- one more token at the end of those so far
pub push_token : (xs : List Token) (t : Token) (o : Option (List Token)) → option_map (λ ts. (xs ++ t ∷ []) ++ ts) o ≡ option_map (λ ts. xs ++ ts) (option_map (λ ts. t ∷ ts) o)
push_token xs t None = refl
push_token xs t (Some ts) = ap Some (append_assoc xs (t ∷ []) ts)

-- a word read, in a loop over a line
pub word_step : (m : ℕ → Bool) (rest front back : List ℕ) (b : ℕ) (bs : List ℕ) (out new : List Token) (all : Option (List Token)) → rest ≡ b ∷ bs → is_symbol_byte b ≡ true
    → front ≡ take (prefix_len is_symbol_byte rest) rest → back ≡ drop (prefix_len is_symbol_byte rest) rest → new ≡ out ++ Word front ∷ []
    → option_map (λ ts. out ++ ts) (tokens_behind m false rest) ≡ all → option_map (λ ts. new ++ ts) (tokens_behind m false back) ≡ all
word_step m rest front back b bs out new all is symbol at behind pushed before =
    ap (λ xs. option_map (λ ts. xs ++ ts) (tokens_behind m false back)) pushed
    ∙ push_token out (Word front) (tokens_behind m false back)
    ∙ ap (option_map (λ ts. out ++ ts)) ((λ i. option_map (λ ts. Word (at i) ∷ ts) (tokens_behind m false (behind i)))
    ∙ subst (λ r. option_map (λ ts. Word (take (prefix_len is_symbol_byte r) r) ∷ ts) (tokens_behind m false (drop (prefix_len is_symbol_byte r) r)) ≡ tokens_behind m false r) (sym is) (sym (word_front m b bs symbol)))
    ∙ before

-- the place of what stands behind some bytes of a rest
pub place_behind : (line rest back : List ℕ) (n : ℕ) → length rest ≤ length line → rest ≡ drop (length line - length rest) line → n ≤ length rest → back ≡ drop n rest
    → (length back ≤ length line) × (back ≡ drop (length line - length back) line)
place_behind line rest back n short place within is =
    let size : length back ≡ length rest - n = ap length is ∙ length-drop n rest in
    let moved : (length line - length rest) + n ≡ length line - length back = omega (arith, size) in
    (omega (arith, size), is ∙ ap (drop n) place ∙ drop-drop n (length line - length rest) line ∙ ap (λ k. drop k line) moved)

-- back stands behind some bytes of rest
abbrev pub Behind : List ℕ → List ℕ → Type 0
Behind rest back = (n : ℕ) × (n ≤ length rest) × (back ≡ drop n rest)

-- what stands behind the first byte
pub behind_first : (rest : List ℕ) (b : ℕ) (bs : List ℕ) → rest ≡ b ∷ bs → (1 ≤ length rest) × (bs ≡ drop 1 rest)
behind_first rest b bs is = let one : length rest ≡ suc (length bs) = ap length is in (omega (arith, one), sym (ap (drop 1) is))

-- what stands behind a mark
pub behind_mark_place : (b : ℕ) (bs back : List ℕ) → Some back ≡ behind_mark b bs → Behind (b ∷ bs) back
behind_mark_place b bs back e = by (b == 33) bs e
  where
    second : (t : Bool) (c : ℕ) (cs : List ℕ) → Some back ≡ cond t (Some cs) None → Behind (b ∷ c ∷ cs) back
    second true c cs e = let same : back ≡ cs = cc in (2, omega arith, same)
    second false c cs e = cc

    by : (t : Bool) (bs : List ℕ) → Some back ≡ cond t (behind_equals bs) (Some bs) → Behind (b ∷ bs) back
    by false bs e = let same : back ≡ bs = cc in (1, omega arith, same)
    by true [] e = cc
    by true (c ∷ cs) e = second (c == 61) c cs e

module _ (m : ℕ → Bool) (rest : List ℕ) (b : ℕ) (bs : List ℕ) (is : rest ≡ b ∷ bs) where
  -- a blank in front
  pub blank_front : is_blank b ≡ true → tokens_behind m false rest ≡ tokens_behind m false bs
  blank_front e = (λ i. tokens_behind m false (is i)) ∙ λ i. cond (e i) (tokens_behind m false bs)
      (cond (is_symbol_byte b) (option_map (λ ts. cond (begins_word bs) (lengthened b ts) (Word (b ∷ []) ∷ ts)) (tokens_behind m false bs))
      (cond (m b) (option_map (λ ts. Mark b ∷ ts) (tokens_behind m (b == 33) bs)) None))

  byte_front : (s : Bool) → is_blank b ≡ false → is_symbol_byte b ≡ false → m b ≡ s
      → tokens_behind m false rest ≡ cond s (option_map (λ ts. Mark b ∷ ts) (tokens_behind m (b == 33) bs)) None
  byte_front s blank symbol mark = (λ i. tokens_behind m false (is i)) ∙ λ i. cond (blank i) (tokens_behind m false bs)
      (cond (symbol i) (option_map (λ ts. cond (begins_word bs) (lengthened b ts) (Word (b ∷ []) ∷ ts)) (tokens_behind m false bs))
      (cond (mark i) (option_map (λ ts. Mark b ∷ ts) (tokens_behind m (b == 33) bs)) None))

  -- a mark in front
  pub mark_front : (o : Option (List ℕ)) → is_blank b ≡ false → is_symbol_byte b ≡ false → m b ≡ true → o ≡ behind_mark b bs
      → tokens_behind m false rest ≡ option_and_then (λ back. option_map (λ ts. Mark b ∷ ts) (tokens_behind m false back)) o
  mark_front o blank symbol mark at = byte_front true blank symbol mark ∙ by (b == 33) bs
      ∙ ap (option_and_then (λ back. option_map (λ ts. Mark b ∷ ts) (tokens_behind m false back))) (sym at)
    where
      joined : (t : Bool) (c : ℕ) (cs : List ℕ) → option_map (λ ts. Mark b ∷ ts) (cond t (tokens_behind m false cs) None)
          ≡ option_and_then (λ back. option_map (λ ts. Mark b ∷ ts) (tokens_behind m false back)) (cond t (Some cs) None)
      joined true c cs = refl
      joined false c cs = refl

      by : (t : Bool) (cs : List ℕ) → option_map (λ ts. Mark b ∷ ts) (tokens_behind m t cs)
          ≡ option_and_then (λ back. option_map (λ ts. Mark b ∷ ts) (tokens_behind m false back)) (cond t (behind_equals cs) (Some cs))
      by false cs = refl
      by true [] = refl
      by true (c ∷ cs) = joined (c == 61) c cs

-- one more token, in a loop over a line
pub token_step : (m : ℕ → Bool) (rest back : List ℕ) (t : Token) (out new : List Token) (all : Option (List Token)) → tokens_behind m false rest ≡ option_map (λ ts. t ∷ ts) (tokens_behind m false back) → new ≡ out ++ t ∷ []
    → option_map (λ ts. out ++ ts) (tokens_behind m false rest) ≡ all → option_map (λ ts. new ++ ts) (tokens_behind m false back) ≡ all
token_step m rest back t out new all is pushed before =
    ap (λ xs. option_map (λ ts. xs ++ ts) (tokens_behind m false back)) pushed
    ∙ push_token out t (tokens_behind m false back)
    ∙ ap (option_map (λ ts. out ++ ts)) (sym is)
    ∙ before

-- the bytes of a word are symbol bytes
pub all_in_front : (p : ℕ → Bool) (xs : List ℕ) → list_all p (take (prefix_len p xs) xs) ≡ true
all_in_front p [] = refl
all_in_front p (x ∷ xs) = by (p x) refl (all_in_front p xs)
  where
    by : (b : Bool) → p x ≡ b → list_all p (take (prefix_len p xs) xs) ≡ true → list_all p (take (cond (p x) (1 + prefix_len p xs) 0) (x ∷ xs)) ≡ true
    by false e rest = λ i. list_all p (take (cond (e i) (1 + prefix_len p xs) 0) (x ∷ xs))
    by true e rest = (λ i. list_all p (take (cond (e i) (1 + prefix_len p xs) 0) (x ∷ xs)))
        ∙ ap (λ n. list_all p (take n (x ∷ xs))) (one-add (prefix_len p xs))
        ∙ (λ i. e i && rest i)

-- the size of a word, from that of what stands behind its first byte
pub word_size : (rest : List ℕ) (b : ℕ) (bs : List ℕ) (k : ℕ) → rest ≡ b ∷ bs → is_symbol_byte b ≡ true → k ≡ prefix_len is_symbol_byte bs → 1 + k ≡ prefix_len is_symbol_byte rest
word_size rest b bs k is symbol at = ap (λ n. 1 + n) at ∙ sym ((λ i. prefix_len is_symbol_byte (is i)) ∙ (λ i. cond (symbol i) (1 + prefix_len is_symbol_byte bs) 0))

pub word_within : (rest : List ℕ) (b : ℕ) (bs : List ℕ) (k : ℕ) → rest ≡ b ∷ bs → k ≤ length bs → 1 + k ≤ length rest
word_within rest b bs k is within = let one : length rest ≡ suc (length bs) = ap length is in omega (arith, one, within)
