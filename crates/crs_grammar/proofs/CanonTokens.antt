-- The tokens of a canonical text.
use Rattle.std.proofs.Common.{◌≡◌, get_or, ℕ, ℤ, pos, negsuc, ◌+◌, ◌*◌, ◌<◌, ◌≤◌, Bool, true, false, cond, ◌==◌, ◌&&◌, ◌||◌, List, [], ◌∷◌, ◌++◌, map, take, drop, length, Option, Some, None, option_map, refl, sym, ap, subst, ◌∙◌, true≢false, eqb-true, zero, suc, one-add, append_assoc, arith, nat_le}
use Rattle.std.specs.Prelude.{codes, decimal, neg_ℤ}
use Rattle.std.specs.Fmt.{signed_decimal}
use Rattle.std.specs.List.{AllByRecursion, flat_map, list_all, prefix_len}
use Rattle.std.specs.Int.Digits.{digits_of, AllBelowBase, number_from_digits_after}
use Rattle.std.specs.Int.RustNames.{unsigned_abs}
use Rattle.std.proofs.lemmas.Bool.{le-leb, and_parts}
use Rattle.std.proofs.lemmas.Fmt.{decimal-digits_of, decimal_digit}
use Rattle.std.proofs.lemmas.Int.Digits.{all_below_base_digits_of, number_digits_of, length-digits_of-le, first_digits_of}
use Rattle.std.proofs.lemmas.List.{length-map}
use Rattle.crs_base.specs.Lines.{is_blank}
use Rattle.crs_base.specs.Numbers.{is_digit, value_on, number_on, number_of, integer_of}
use Rattle.crs_base.specs.Symbols.{is_symbol, is_symbol_byte}
use Rattle.crs_base.specs.Tokens.{Token, Word, Mark, tokens_behind, begins_word, lengthened, is_model_mark}
use Rattle.crs_base.proofs.TokenSteps.{word_front}
use Rattle.crs_grammar.specs.Canon.{part_text}
use Rattle.crs_grammar.specs.Forms.{Part, Keyword, Sign, Symbol, Number, Integer, Gap, Missing, AreWritten, term_form, terms_form, change_form, pattern_form, shift_form, anchor_form, listed, symbol_form, values_form, level_form, values_in_form, low_part, high_part, most_part, body_form, span_form, begin_form, form_of}
use Rattle.crs_grammar.specs.GrammarLaws.{IsWritable, CanonicalIsRead}
use Rattle.crs_grammar.specs.Statements.{Term, Value, Variable, Any, Pattern, Shift, Here, Later, Earlier, Anchor, Body, NoEvent, Occurs, Hold, Statement, Message, Attribute, Derived, Begin, Happens, Point, Between, Among, Differ, Over, Emits, Close, is_inside}
use Rattle.crs_grammar.proofs.TakesStatements.{meant_is_read}
use Rattle.crs_grammar.proofs.Gives.{range_shape, hold_shape}

-- Numbers.

digits_are : (ds : List ℕ) → AllBelowBase 10 ds → list_all is_digit (map (λ d. 48 + d) ds) ≡ true
digits_are [] h = refl
digits_are (d ∷ ds) h =
    let k = h.0 in
    (λ i. (le-leb 48 (48 + d) (omega arith) i && le-leb (48 + d) 57 (omega arith) i) && digits_are ds h.1 i)

value_is : (n : ℕ) (ds : List ℕ) → value_on n (map (λ d. 48 + d) ds) ≡ number_from_digits_after 10 n ds
value_is n [] = refl
value_is n (d ∷ ds) = ap (λ m. value_on m (map (λ d. 48 + d) ds)) (omega arith) ∙ value_is (n * 10 + d) ds

-- the text of a number: digits, which are read as it
record IsNumeralOf (n : ℕ) (w : List ℕ) : Type 0 where
  digits : list_all is_digit w ≡ true
  some : 0 < length w
  is : number_of w ≡ Some n

some_digits : (ds : List ℕ) → 0 < get_or ds 0 0 → 0 < length ds
some_digits [] h = absurd (omega arith)
some_digits (d ∷ ds) h = omega arith

numeral_of : (n : ℕ) (ds w : List ℕ) → w ≡ map (λ d. 48 + d) ds → AllBelowBase 10 ds → 0 < length ds → length ds ≤ 19 → number_from_digits_after 10 0 ds ≡ n → IsNumeralOf n w
numeral_of n ds w e below some few is = subst (IsNumeralOf n) (sym e) (record {
  digits = digits_are ds below;
  some = subst (λ k. 0 < k) (sym (length-map ds (λ d. 48 + d))) some;
  is = (λ i. cond (le-leb 1 (length (map (λ d. 48 + d) ds)) (subst (λ k. 1 ≤ k) (sym (length-map ds (λ d. 48 + d))) (omega arith)) i && le-leb (length (map (λ d. 48 + d) ds)) 19 (subst (λ k. k ≤ 19) (sym (length-map ds (λ d. 48 + d))) few) i) (number_on 0 (map (λ d. 48 + d) ds)) None)
      ∙ (λ i. cond (digits_are ds below i) (Some (value_on 0 (map (λ d. 48 + d) ds))) None)
      ∙ ap Some (value_is 0 ds ∙ is);
})

numeral : (n : ℕ) → n < 10000000000000000000 → IsNumeralOf n (decimal n)
numeral zero h = subst (IsNumeralOf zero) (sym (decimal_digit zero (omega arith))) (record { digits = refl; some = omega arith; is = refl })
numeral (suc n) h =
    (numeral_of (suc n) (digits_of 10 (suc n)) (decimal (suc n)) (decimal-digits_of (suc n) (omega arith) (omega arith)) (all_below_base_digits_of 10 (suc n) (omega arith)))
    (some_digits (digits_of 10 (suc n)) (first_digits_of 10 (suc n) (omega arith) (omega arith))) (length-digits_of-le 10 19 (suc n) (omega arith) h) (number_digits_of 10 (suc n) (omega arith))

not_minus : (c : ℕ) → is_digit c ≡ true → (c == 45) ≡ false
not_minus c h = by (c == 45) refl
  where
    by : (b : Bool) → (c == 45) ≡ b → (c == 45) ≡ false
    by false e = e
    by true e = absurd (true≢false (sym h ∙ ap is_digit (eqb-true c 45 e)))

integer_numeral : (n : ℕ) (w : List ℕ) → IsNumeralOf n w → integer_of w ≡ Some (pos n)
integer_numeral n [] h = let k = h.some in absurd (omega arith)
integer_numeral n (c ∷ cs) h =
    let d = and_parts (is_digit c) (list_all is_digit cs) h.digits in
    (λ i. cond (not_minus c d.0 i) (option_map (λ n. neg_ℤ (pos n)) (number_of cs)) (option_map pos (number_of (c ∷ cs)))) ∙ ap (option_map pos) h.is

-- Words.

record IsWordText (w : List ℕ) : Type 0 where
  some : 0 < length w
  bytes : list_all is_symbol_byte w ≡ true

digit_symbol : (c : ℕ) → is_digit c ≡ true → is_symbol_byte c ≡ true
digit_symbol c h = ap (λ a. a || (nat_le 65 c && nat_le c 90) || (nat_le 97 c && nat_le c 122) || (c == 95) || (c == 46) || (c == 45)) h

digits_symbols : (w : List ℕ) → list_all is_digit w ≡ true → list_all is_symbol_byte w ≡ true
digits_symbols [] h = refl
digits_symbols (c ∷ cs) h = let d = and_parts (is_digit c) (list_all is_digit cs) h in (λ i. digit_symbol c d.0 i && digits_symbols cs d.1 i)

numeral_word : (n : ℕ) (w : List ℕ) → IsNumeralOf n w → IsWordText w
numeral_word n w h = record { some = h.some; bytes = digits_symbols w h.digits }

first_part : (a b c : Bool) → (a && b && c) ≡ true → (a ≡ true) × (c ≡ true)
first_part true true true e = (refl, refl)
first_part true true false e = cc
first_part true false c e = cc
first_part false b c e = cc

leb_one : (n : ℕ) → nat_le 1 n ≡ true → 0 < n
leb_one zero e = cc
leb_one (suc n) e = omega arith

symbol_word : (s : List ℕ) → is_symbol s ≡ true → IsWordText s
symbol_word s h = let p = first_part (nat_le 1 (length s)) (nat_le (length s) 64) (list_all is_symbol_byte s) h in record { some = leb_one (length s) p.0; bytes = p.1 }

prefix_front : (w rest : List ℕ) → list_all is_symbol_byte w ≡ true → begins_word rest ≡ false → prefix_len is_symbol_byte (w ++ rest) ≡ length w
prefix_front [] [] h k = refl
prefix_front [] (c ∷ cs) h k = λ i. cond (k i) (1 + prefix_len is_symbol_byte cs) 0
prefix_front (b ∷ w) rest h k =
    let p = and_parts (is_symbol_byte b) (list_all is_symbol_byte w) h in
    (λ i. cond (p.0 i) (1 + prefix_len is_symbol_byte (w ++ rest)) 0) ∙ one-add (prefix_len is_symbol_byte (w ++ rest)) ∙ ap suc (prefix_front w rest p.1 k)

take_front : (w rest : List ℕ) → take (length w) (w ++ rest) ≡ w
take_front [] rest = refl
take_front (b ∷ w) rest = ap (λ l. b ∷ l) (take_front w rest)

drop_front : (w rest : List ℕ) → drop (length w) (w ++ rest) ≡ rest
drop_front [] rest = refl
drop_front (b ∷ w) rest = drop_front w rest

abbrev read : List ℕ → Option (List Token)
read bs = tokens_behind is_model_mark false bs

-- a word in front
front_word : (w rest : List ℕ) → IsWordText w → begins_word rest ≡ false → read (w ++ rest) ≡ option_map (λ ts. Word w ∷ ts) (read rest)
front_word [] rest h k = let s = h.some in absurd (omega arith)
front_word (b ∷ w) rest h k =
    let p = and_parts (is_symbol_byte b) (list_all is_symbol_byte w) h.bytes in
    let n = prefix_front (b ∷ w) rest h.bytes k in
    word_front is_model_mark b (w ++ rest) p.0
    ∙ (λ i. option_map (λ ts. Word (take (n i) (b ∷ w ++ rest)) ∷ ts) (read (drop (n i) (b ∷ w ++ rest))))
    ∙ (λ i. option_map (λ ts. Word (take_front (b ∷ w) rest i) ∷ ts) (read (drop_front (b ∷ w) rest i)))

-- Parts.

abbrev is_word : Part → Bool
is_word (Keyword k) = true
is_word (Symbol s) = true
is_word (Number n) = true
is_word (Integer z) = true
is_word _ = false

-- no word behind a word
abbrev NotBoth : Bool → Bool → Type 0
NotBoth b false = Unit {0}
NotBoth b true = b ≡ false

abbrev IsKnownPart : Part → Type 0
IsKnownPart (Keyword k) = IsWordText k
IsKnownPart (Sign m) = (is_blank m ≡ false) × (is_symbol_byte m ≡ false) × (is_model_mark m ≡ true)
IsKnownPart _ = Unit {0}

-- a blank or a mark stands between any two words
abbrev Parted : Bool → List Part → Type 0
Parted b [] = Unit {0}
Parted b (p ∷ ps) = NotBoth b (is_word p) × IsKnownPart p × Parted (is_word p) ps

abbrev last : Bool → List Part → Bool
last b [] = b
last b (p ∷ ps) = last (is_word p) ps

parted_append : (b : Bool) (xs ys : List Part) → Parted b xs → Parted (last b xs) ys → Parted b (xs ++ ys)
parted_append b [] ys h k = k
parted_append b (x ∷ xs) ys h k = (h.0, h.1, parted_append (is_word x) xs ys h.2 k)

abbrev part_tokens : Part → List Token
part_tokens (Keyword k) = Word k ∷ []
part_tokens (Sign m) = Mark m ∷ []
part_tokens (Symbol s) = Word s ∷ []
part_tokens (Number n) = Word (decimal n) ∷ []
part_tokens (Integer z) = Word (signed_decimal z) ∷ []
part_tokens Gap = []
part_tokens Missing = []

abbrev text : List Part → List ℕ
text ps = flat_map part_text ps

abbrev tokens : List Part → List Token
tokens ps = flat_map part_tokens ps

integer_word : (z : ℤ) → unsigned_abs z < 10000000000000000000 → IsWordText (signed_decimal z) × (integer_of (signed_decimal z) ≡ Some z)
integer_word (pos n) h = let k = numeral n h in (numeral_word n (decimal n) k, integer_numeral n (decimal n) k)
integer_word (negsuc n) h =
    let k = numeral (suc n) h in
    let w = numeral_word (suc n) (decimal (suc n)) k in
    (record { some = omega arith; bytes = w.bytes }, ap (option_map (λ n. neg_ℤ (pos n))) k.is)

-- the tokens write the parts
written : (ps : List Part) → AllByRecursion IsWritable ps → AreWritten ps (tokens ps)
written [] h = tt
written (Keyword k ∷ ps) h = (refl, written ps h.1)
written (Sign m ∷ ps) h = (refl, written ps h.1)
written (Symbol s ∷ ps) h = ((refl, h.0), written ps h.1)
written (Number n ∷ ps) h = (let k = numeral n h.0 in k.is, written ps h.1)
written (Integer z ∷ ps) h = ((integer_word z h.0).1, written ps h.1)
written (Gap ∷ ps) h = written ps h.1
written (Missing ∷ ps) h = absurd h.0

sign_first : (b : Bool) (m : ℕ) (bs : List ℕ) → is_symbol_byte m ≡ false → begins_word (cond b (33 ∷ 61 ∷ []) (m ∷ []) ++ bs) ≡ false
sign_first true m bs h = refl
sign_first false m bs h = h

-- behind a word no word begins
starts : (ps : List Part) → AllByRecursion IsWritable ps → Parted true ps → begins_word (text ps) ≡ false
starts [] h k = refl
starts (Keyword x ∷ ps) h k = absurd (true≢false k.0)
starts (Sign m ∷ ps) h k = sign_first (m == 33) m (text ps) k.1.1
starts (Symbol s ∷ ps) h k = absurd (true≢false k.0)
starts (Number n ∷ ps) h k = absurd (true≢false k.0)
starts (Integer z ∷ ps) h k = absurd (true≢false k.0)
starts (Gap ∷ ps) h k = refl
starts (Missing ∷ ps) h k = absurd h.0

sign_read : (b : Bool) (m : ℕ) (bs : List ℕ) → (m == 33) ≡ b → is_blank m ≡ false → is_symbol_byte m ≡ false → is_model_mark m ≡ true → read (cond b (33 ∷ 61 ∷ []) (m ∷ []) ++ bs) ≡ option_map (λ ts. Mark m ∷ ts) (read bs)
sign_read true m bs e blank symbol mark = ap (λ n. option_map (λ ts. Mark n ∷ ts) (read bs)) (sym (eqb-true m 33 e))
sign_read false m bs e blank symbol mark =
    (λ i. cond (blank i) (read bs) (cond (symbol i) (option_map (λ ts. cond (begins_word bs) (lengthened m ts) (Word (m ∷ []) ∷ ts)) (read bs)) (cond (mark i) (option_map (λ ts. Mark m ∷ ts) (tokens_behind is_model_mark (m == 33) bs)) None)))
    ∙ ap (λ half. option_map (λ ts. Mark m ∷ ts) (tokens_behind is_model_mark half bs)) e

-- the text of the parts is read as their tokens
parts_read : (ps : List Part) (b : Bool) → AllByRecursion IsWritable ps → Parted b ps → read (text ps) ≡ Some (tokens ps)
parts_read [] b h k = refl
parts_read (Keyword x ∷ ps) b h k = front_word x (text ps) k.1 (starts ps h.1 k.2) ∙ ap (option_map (λ ts. Word x ∷ ts)) (parts_read ps true h.1 k.2)
parts_read (Sign m ∷ ps) b h k = sign_read (m == 33) m (text ps) refl k.1.0 k.1.1 k.1.2 ∙ ap (option_map (λ ts. Mark m ∷ ts)) (parts_read ps false h.1 k.2)
parts_read (Symbol s ∷ ps) b h k = front_word s (text ps) (symbol_word s h.0) (starts ps h.1 k.2) ∙ ap (option_map (λ ts. Word s ∷ ts)) (parts_read ps true h.1 k.2)
parts_read (Number n ∷ ps) b h k = front_word (decimal n) (text ps) (numeral_word n (decimal n) (numeral n h.0)) (starts ps h.1 k.2) ∙ ap (option_map (λ ts. Word (decimal n) ∷ ts)) (parts_read ps true h.1 k.2)
parts_read (Integer z ∷ ps) b h k = front_word (signed_decimal z) (text ps) (integer_word z h.0).0 (starts ps h.1 k.2) ∙ ap (option_map (λ ts. Word (signed_decimal z) ∷ ts)) (parts_read ps true h.1 k.2)
parts_read (Gap ∷ ps) b h k = parts_read ps false h.1 k.2
parts_read (Missing ∷ ps) b h k = absurd h.0

-- The forms are parted.

-- whatever stands in front
abbrev Any_ : List Part → Type 0
Any_ ps = (b : Bool) → Parted b ps

term_parted : (t : Term) → Parted false (term_form t)
term_parted (Value s) = (refl, tt, tt)
term_parted (Variable x) = (tt, (refl, refl, refl), (refl, tt, tt))
term_parted Any = (tt, (refl, refl, refl), tt)

listed_parted : {A : Type 0} (f : A → List Part) → ((x : A) → Parted false (f x)) → (xs : List A) (x : A) → Parted false (listed f (x ∷ xs))
listed_parted f each [] x = each x
listed_parted f each (y ∷ ys) x = parted_append false (f x) (Sign 44 ∷ Gap ∷ listed f (y ∷ ys)) (each x) (tt, (refl, refl, refl), (tt, tt, listed_parted f each ys y))

terms_then : (ts : List Term) (rest : List Part) → Any_ rest → Any_ (terms_form ts ++ rest)
terms_then [] rest h b = h b
terms_then (t ∷ ts) rest h b = (
  tt,
  (refl, refl, refl),
  parted_append false (listed term_form (t ∷ ts) ++ Sign 93 ∷ []) rest
      (parted_append false (listed term_form (t ∷ ts)) (Sign 93 ∷ []) (listed_parted term_form term_parted ts t) (tt, (refl, refl, refl), tt)) (h (last false (listed term_form (t ∷ ts) ++ Sign 93 ∷ []))),
)

pair_parted : (a b : Term) → Parted false (term_form a ++ Sign 44 ∷ Gap ∷ term_form b ++ Sign 41 ∷ [])
pair_parted a b = parted_append false (term_form a ++ Sign 44 ∷ Gap ∷ term_form b) (Sign 41 ∷ [])
    (parted_append false (term_form a) (Sign 44 ∷ Gap ∷ term_form b) (term_parted a) (tt, (refl, refl, refl), (tt, tt, term_parted b))) (tt, (refl, refl, refl), tt)

change_then : (c : Option (Term × Term)) (rest : List Part) → Any_ rest → Any_ (change_form c ++ rest)
change_then None rest h b = h b
change_then (Some c) rest h b = (
  tt,
  (refl, refl, refl),
  (
    tt,
    tt,
    (
      tt,
      (refl, refl, refl),
      parted_append false (term_form c.0 ++ Sign 44 ∷ Gap ∷ term_form c.1 ++ Sign 41 ∷ []) rest (pair_parted c.0 c.1) (h (last false (term_form c.0 ++ Sign 44 ∷ Gap ∷ term_form c.1 ++ Sign 41 ∷ []))),
    ),
  ),
)

pattern_then : (p : Pattern) (rest : List Part) → Any_ rest → Parted false (pattern_form p ++ rest)
pattern_then p rest h = (refl, tt, subst (Parted true) (sym (append_assoc (terms_form p.terms) (change_form p.change) rest)) (terms_then p.terms (change_form p.change ++ rest) (change_then p.change rest h) true))

shift_then : (s : Shift) (rest : List Part) → Any_ rest → Any_ (shift_form s ++ rest)
shift_then Here rest h b = h b
shift_then (Later n) rest h b = (tt, tt, (tt, (refl, refl, refl), (tt, tt, (refl, tt, h true))))
shift_then (Earlier n) rest h b = (tt, tt, (refl, record { some = omega arith; bytes = refl }, (tt, tt, (refl, tt, h true))))

anchor_then : (a : Anchor) (rest : List Part) → Any_ rest → Parted false (anchor_form a ++ rest)
anchor_then a rest h = (refl, tt, shift_then a.shift rest h true)

span_any : (f t : Anchor) → Any_ (span_form f t)
span_any f t b = (
  tt,
  (refl, refl, refl),
  (
    tt,
    tt,
    (
      tt,
      (refl, refl, refl),
      subst (Parted false) (range_shape (anchor_form f) (anchor_form t))
          (anchor_then f (Sign 44 ∷ Gap ∷ (anchor_form t ++ Sign 41 ∷ Sign 41 ∷ []))
          (λ x. (tt, (refl, refl, refl), (tt, tt, anchor_then t (Sign 41 ∷ Sign 41 ∷ []) (λ y. (tt, (refl, refl, refl), (tt, (refl, refl, refl), tt))))))),
    ),
  ),
)

level_any : (l : Option ℕ) → Any_ (level_form l)
level_any None b = tt
level_any (Some n) b = (tt, tt, (refl, record { some = omega arith; bytes = refl }, (tt, tt, (refl, tt, tt))))

most_parted : (m : Option ℕ) (rest : List Part) → Parted true rest → Parted false (most_part m ∷ rest)
most_parted None rest h = (refl, record { some = omega arith; bytes = refl }, h)
most_parted (Some n) rest h = (refl, tt, h)

low_parted : (z : Option ℤ) (rest : List Part) → Parted true rest → Parted false (low_part z ∷ rest)
low_parted None rest h = (refl, record { some = omega arith; bytes = refl }, h)
low_parted (Some z) rest h = (refl, tt, h)

high_parted : (z : Option ℤ) (rest : List Part) → Parted true rest → Parted false (high_part z ∷ rest)
high_parted None rest h = (refl, record { some = omega arith; bytes = refl }, h)
high_parted (Some z) rest h = (refl, tt, h)

body_then : (b : Body) (rest : List Part) → Any_ rest → Parted false (body_form b ++ rest)
body_then (NoEvent p) rest h = (refl, record { some = omega arith; bytes = refl }, (tt, (refl, refl, refl), pattern_then p rest h))
body_then (Occurs least most p) rest h = (
  refl,
  record { some = omega arith; bytes = refl },
  (
    tt,
    (refl, refl, refl),
    (
      tt,
      (refl, refl, refl),
      (
        refl,
        tt,
        (
          tt,
          (refl, refl, refl),
          (
            tt,
            tt,
            (most_parted most (Sign 41 ∷ Sign 44 ∷ Gap ∷ (pattern_form p ++ rest)) (tt, (refl, refl, refl), (tt, (refl, refl, refl), (tt, tt, pattern_then p rest h)))),
          ),
        ),
      ),
    ),
  ),
)
body_then (Hold name terms value) rest h = (
  refl,
  record { some = omega arith; bytes = refl },
  (
    tt,
    (refl, refl, refl),
    (
      refl,
      tt,
      subst (Parted true) (hold_shape (terms_form terms) (term_form value) rest)
          (terms_then terms (Sign 58 ∷ Gap ∷ (term_form value ++ rest)) (λ b. (tt, (refl, refl, refl), (tt, tt, parted_append false (term_form value) rest (term_parted value) (h (last false (term_form value)))))) true),
    ),
  ),
)

symbol_parted : (s : List ℕ) → Parted false (symbol_form s)
symbol_parted s = (refl, tt, tt)

values_any : (vs : List (List ℕ)) → Any_ (values_form vs)
values_any [] b = (tt, (refl, refl, refl), (tt, tt, (tt, (refl, refl, refl), tt)))
values_any (v ∷ vs) b = (tt, (refl, refl, refl), parted_append false (listed symbol_form (v ∷ vs)) (Sign 41 ∷ []) (listed_parted symbol_form symbol_parted vs v) (tt, (refl, refl, refl), tt))

in_values : (vs : List (List ℕ)) (b : Bool) → Parted b (Gap ∷ Keyword (codes "in") ∷ Gap ∷ values_form vs)
in_values vs b = (tt, tt, (refl, record { some = omega arith; bytes = refl }, (tt, tt, values_any vs false)))

values_in_any : (o : Option (List (List ℕ))) → Any_ (values_in_form o)
values_in_any None b = tt
values_in_any (Some vs) b = in_values vs b

word : (k : List ℕ) → 0 < length k → list_all is_symbol_byte k ≡ true → IsWordText k
word k a b = record { some = a; bytes = b }

begin_parted : (prompt : Bool) (name : List ℕ) → Parted false (begin_form prompt name)
begin_parted false name = (refl, word (codes "chronicle") (omega arith) refl, (tt, tt, (refl, tt, (tt, tt, (tt, (refl, refl, refl), tt)))))
begin_parted true name = (
  refl,
  word (codes "prompt") (omega arith) refl,
  (tt, tt, (refl, word (codes "chronicle") (omega arith) refl, (tt, tt, (refl, tt, (tt, tt, (tt, (refl, refl, refl), tt)))))),
)

form_parted : (s : Statement) → Parted false (form_of s)
form_parted (Message name arity) = (refl, word (codes "message") (omega arith) refl, (tt, tt, (refl, tt, (tt, tt, (refl, tt, tt)))))
form_parted (Attribute name arity values) = (refl, word (codes "attribute") (omega arith) refl, (tt, tt, (refl, tt, (tt, tt, (refl, tt, values_in_any values true)))))
form_parted (Derived name arity) = (refl, word (codes "derived") (omega arith) refl, (tt, tt, (refl, tt, (tt, tt, (refl, tt, tt)))))
form_parted (Begin heading) = begin_parted heading.prompt heading.name
form_parted (Happens e) = (
  refl,
  word (codes "event") (omega arith) refl,
  (
    tt,
    (refl, refl, refl),
    pattern_then e.pattern (Sign 44 ∷ Gap ∷ Symbol e.point ∷ Sign 41 ∷ level_form e.level)
        (λ b. (tt, (refl, refl, refl), (tt, tt, (refl, tt, (tt, (refl, refl, refl), level_any e.level false))))),
  ),
)
form_parted (Point name) = (refl, word (codes "point") (omega arith) refl, (tt, tt, (refl, tt, tt)))
form_parted (Between d) = (
  refl,
  tt,
  (
    tt,
    tt,
    (
      refl,
      word (codes "-") (omega arith) refl,
      (
        tt,
        tt,
        (
          refl,
          tt,
          (
            tt,
            tt,
            (
              refl,
              word (codes "in") (omega arith) refl,
              (
                tt,
                tt,
                (
                  tt,
                  (refl, refl, refl),
                  (low_parted d.low (Sign 44 ∷ Gap ∷ high_part d.high ∷ Sign 93 ∷ []) (tt, (refl, refl, refl), (tt, tt, high_parted d.high (Sign 93 ∷ []) (tt, (refl, refl, refl), tt)))),
                ),
              ),
            ),
          ),
        ),
      ),
    ),
  ),
)
form_parted (Among x values) = (tt, (refl, refl, refl), (refl, tt, in_values values true))
form_parted (Differ x y) = (tt, (refl, refl, refl), (refl, tt, (tt, tt, (tt, (refl, refl, refl), (tt, tt, (tt, (refl, refl, refl), (refl, tt, tt)))))))
form_parted (Over w) = body_then w.body (span_form w.from w.to) (span_any w.from w.to)
form_parted (Emits e) = (
  refl,
  word (codes "emit") (omega arith) refl,
  (
    tt,
    (refl, refl, refl),
    pattern_then e.pattern (Sign 44 ∷ Gap ∷ Symbol e.point ∷ Sign 41 ∷ [])
        (λ b. (tt, (refl, refl, refl), (tt, tt, (refl, tt, (tt, (refl, refl, refl), tt))))),
  ),
)
form_parted Close = (tt, (refl, refl, refl), tt)

pub canonical_is_read : CanonicalIsRead
canonical_is_read s h = (tokens (form_of s), parts_read (form_of s) false h (form_parted s), meant_is_read (is_inside s) (tokens (form_of s)) s (refl, written (form_of s) h))
