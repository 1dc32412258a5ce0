-- A line of words that single blanks part, and what it says to an audit.
use Rattle.std.proofs.Common.{◌≡◌, ◌∙◌, ap, sym, refl, ℕ, suc, ◌+◌, ◌*◌, ◌<◌, ◌≤◌, ◌^◌, nat_le, ◌==◌, ◌&&◌, ◌||◌, Bool, true, false, true≢false, leb-true, lt-ltb, le-ltb}
use Rattle.std.proofs.Common.{append-nil, List, [], ◌∷◌, ◌++◌, length, map, Option, Some, None, arith, length-append, All}
use Rattle.std.specs.Prelude.{codes, decimal, not, flat_map, if◌then◌else◌}
use Rattle.std.specs.List.{AllByRecursion, list_all, list_any, slice_split}
use Rattle.std.specs.Option.{option_and_then, option_map, option_or}
use Rattle.std.specs.Str.{bytes_eq}
use Rattle.std.proofs.lemmas.Bool.{and_parts, ne_eqb}
use Rattle.std.proofs.lemmas.List.Elements.{All-from_recursion}
use Rattle.std.proofs.lemmas.List.Folds.{list_all-append}
use Rattle.std.proofs.lemmas.List.Splits.{slice_split_none, slice_split_at}
use Rattle.crs_base.specs.Lines.{bytes_of, is_blank}
use Rattle.crs_base.specs.Numbers.{is_digit}
use Rattle.crs_base.specs.Symbols.{is_symbol}
use Rattle.crs_base.proofs.LineSteps.{whole}
use Rattle.crs_base.proofs.Texts.{bytes_same, same_bytes}
use Rattle.crs_drill.proofs.MadeLines.{IsNumeral, numeral, is_plain, plain_whole}
use Rattle.crs_model.specs.declared.recognition.Mark.{Mark}
use Rattle.crs_model.specs.declared.recognition.Mark.TheVariants.{Clock, Finish}
use Rattle.crs_report.specs.OutputLines.{mark_text}
use Rattle.crs_audit.specs.Claims.{Other, Formless, Claims, words_of, is_claim, below, number_below, mark_of, behind_cites, put_first, numbers_of, some_numbers, claim_with, has_empty, claim_in, said_as, is_tab, is_unfit, said_of}

-- ---- words

-- a byte above the blank
abbrev pub is_dark : ℕ → Bool
is_dark b = nat_le 33 b

-- one or more of them
abbrev pub IsWord : List ℕ → Type 0
IsWord w = (0 < length w) × (list_all is_dark w ≡ true)

abbrev pub AreWords : List (List ℕ) → Type 0
AreWords ws = AllByRecursion IsWord ws

-- each word behind a blank
abbrev pub spaced : List (List ℕ) → List ℕ
spaced ws = flat_map (λ w. 32 ∷ w) ws

apart : (b k low : ℕ) → k < low → nat_le low b ≡ true → (b == k) ≡ false
apart b k low h e = let l = leb-true low b e in ne_eqb b k (omega arith)

not_blank : (b : ℕ) → is_dark b ≡ true → is_blank b ≡ false
not_blank b h = λ i. apart b 32 33 (omega arith) h i || apart b 9 33 (omega arith) h i

no_blanks : (w : List ℕ) → list_all is_dark w ≡ true → AllByRecursion (λ b. is_blank b ≡ false) w
no_blanks [] h = tt
no_blanks (b ∷ w) h = let p = and_parts (is_dark b) (list_all is_dark w) h in (not_blank b p.0, no_blanks w p.1)

pub words_spaced : (w : List ℕ) (ws : List (List ℕ)) → IsWord w → AreWords ws → words_of (w ++ spaced ws) ≡ w ∷ ws
words_spaced w [] h k =
    ap (slice_split is_blank) (append-nil w) ∙ slice_split_none is_blank w (All-from_recursion (λ b. is_blank b ≡ false) w (no_blanks w h.1))
words_spaced w (v ∷ vs) h k =
    slice_split_at is_blank w 32 (v ++ spaced vs) (All-from_recursion (λ b. is_blank b ≡ false) w (no_blanks w h.1)) refl
    ∙ ap (λ (l : List (List ℕ)). w ∷ l) (words_spaced v vs k.0 k.1)

dark_plain : (w : List ℕ) → list_all is_dark w ≡ true → is_plain w ≡ true
dark_plain [] h = refl
dark_plain (b ∷ w) h =
    let p = and_parts (is_dark b) (list_all is_dark w) h in
    (λ i. plain_byte b p.0 i && dark_plain w p.1 i)
  where
    plain_byte : (b : ℕ) → is_dark b ≡ true → nat_le 32 b ≡ true
    plain_byte b e = grind (arith, leb-true 33 b e)

pub plain_both : (x y : List ℕ) → is_plain x ≡ true → is_plain y ≡ true → is_plain (x ++ y) ≡ true
plain_both x y h k = list_all-append (nat_le 32) x y ∙ (λ i. h i && k i)

plain_spaced : (ws : List (List ℕ)) → AreWords ws → is_plain (spaced ws) ≡ true
plain_spaced [] h = refl
plain_spaced (w ∷ ws) h = plain_both (32 ∷ w) (spaced ws) (dark_plain w h.0.1) (plain_spaced ws h.1)

pub plain_line : (w : List ℕ) (ws : List (List ℕ)) → IsWord w → AreWords ws → is_plain (w ++ spaced ws) ≡ true
plain_line w ws h k = plain_both w (spaced ws) (dark_plain w h.1) (plain_spaced ws k)

no_tab : (w : List ℕ) → is_plain w ≡ true → list_any is_tab w ≡ false
no_tab [] h = refl
no_tab (b ∷ w) h =
    let p = and_parts (nat_le 32 b) (is_plain w) h in
    λ i. apart b 9 32 (omega arith) p.0 i || no_tab w p.1 i

none_empty : (ws : List (List ℕ)) → AreWords ws → has_empty ws ≡ false
none_empty [] h = refl
none_empty ([] ∷ ws) h = let s = h.0.0 in absurd (omega arith)
none_empty ((b ∷ w) ∷ ws) h = none_empty ws h.1

-- words of at most k bytes
pub spaced_few : (k : ℕ) (ws : List (List ℕ)) → AllByRecursion (λ w. length w ≤ k) ws → length (spaced ws) ≤ length ws * suc k
spaced_few k [] h = omega arith
spaced_few k (w ∷ ws) h =
    let long : length ((32 ∷ w) ++ spaced ws) ≡ length (32 ∷ w) + length (spaced ws) = length-append (32 ∷ w) (spaced ws) in
    let rest = spaced_few k ws h.1 in
    let few = h.0 in
    omega (arith, long)

-- ---- numbers and marks

digit_dark : (b : ℕ) → is_digit b ≡ true → is_dark b ≡ true
digit_dark b h = let l = leb-true 48 b (and_parts (nat_le 48 b) (nat_le b 57) h).0 in grind (arith, l)

digits_dark : (w : List ℕ) → list_all is_digit w ≡ true → list_all is_dark w ≡ true
digits_dark [] h = refl
digits_dark (b ∷ w) h = let p = and_parts (is_digit b) (list_all is_digit w) h in (λ i. digit_dark b p.0 i && digits_dark w p.1 i)

pub number_word : (n : ℕ) (w : List ℕ) → IsNumeral n w → IsWord w
number_word n w h = (h.some, digits_dark w h.digits)

pub digits_plain : (w : List ℕ) → list_all is_digit w ≡ true → is_plain w ≡ true
digits_plain w h = dark_plain w (digits_dark w h)

-- digits are no word that has others
other : (w t : List ℕ) → list_all is_digit w ≡ true → list_all is_digit t ≡ false → bytes_eq w t ≡ false
other w t h k = by (bytes_eq w t) refl
  where
    by : (b : Bool) → bytes_eq w t ≡ b → b ≡ false
    by true e = absurd (true≢false (sym h ∙ ap (list_all is_digit) (bytes_same w t e) ∙ k))
    by false e = refl

below_is : (limit n : ℕ) (w : List ℕ) → IsNumeral n w → n < limit → number_below limit w ≡ Some n
below_is limit n w h small = ap (option_and_then (below limit)) h.is ∙ (λ i. if lt-ltb n limit small i then Some n else None)

-- the numbers as words
abbrev pub number_words : List ℕ → List (List ℕ)
number_words ns = map decimal ns

abbrev pub AreSmall : List ℕ → Type 0
AreSmall ns = AllByRecursion (λ n. n < 2 ^ 32) ns

small : (n : ℕ) → n < 2 ^ 32 → IsNumeral n (decimal n)
small n h = numeral n (omega arith)

numbers_back : (ns : List ℕ) → AreSmall ns → numbers_of (number_words ns) ≡ Some ns
numbers_back [] h = refl
numbers_back (n ∷ ns) h = λ i. put_first (below_is (2 ^ 32) n (decimal n) (small n h.0) h.0 i) (numbers_back ns h.1 i)

pub numbers_words : (ns : List ℕ) → AreSmall ns → AreWords (number_words ns)
numbers_words [] h = tt
numbers_words (n ∷ ns) h = (number_word n (decimal n) (small n h.0), numbers_words ns h.1)

no_cites : (ns : List ℕ) → AreSmall ns → behind_cites (number_words ns) ≡ None
no_cites [] h = refl
no_cites (n ∷ ns) h =
    λ i. option_or (no_cites ns h.1 i) (if other (decimal n) (codes "cites") (small n h.0).digits refl i then Some (number_words ns) else None)

cites_last : (ws : List (List ℕ)) (ns : List ℕ) → AreSmall ns → behind_cites (ws ++ codes "cites" ∷ number_words ns) ≡ Some (number_words ns)
cites_last [] ns h = λ i. option_or (no_cites ns h i) (if same_bytes (codes "cites") i then Some (number_words ns) else None)
cites_last (w ∷ ws) ns h =
    ap (λ (o : Option (List (List ℕ))). option_or o (if bytes_eq w (codes "cites") then Some (ws ++ codes "cites" ∷ number_words ns) else None)) (cites_last ws ns h)

-- a mark of a clock below 2^40, or an end
abbrev pub IsEarly : Mark → Type 0
IsEarly (Clock t) = t < 2 ^ 40
IsEarly Finish = Unit {0}

pub mark_word : (m : Mark) → IsEarly m → IsWord (mark_text m)
mark_word (Clock t) h = number_word t (decimal t) (numeral t (omega arith))
mark_word Finish h = (omega arith, refl)

pub mark_few : (m : Mark) → IsEarly m → length (mark_text m) ≤ 13
mark_few (Clock t) h = (numeral t (omega arith)).few
mark_few Finish h = omega arith

mark_back : (m : Mark) → IsEarly m → mark_of (mark_text m) ≡ Some m
mark_back (Clock t) h =
    let n : IsNumeral t (decimal t) = numeral t (omega arith) in
    (λ i. if other (decimal t) (codes "end") n.digits refl i then Some Finish else option_map Clock (number_below (2 ^ 40) (decimal t)))
    ∙ ap (option_map Clock) (below_is (2 ^ 40) t (decimal t) n h)
mark_back Finish h = λ i. if same_bytes (codes "end") i then Some Finish else option_map Clock (number_below (2 ^ 40) (codes "end"))

-- ---- what the line says

-- the words behind the first one
abbrev pub claim_words : Mark → List (List ℕ) → List ℕ → List (List ℕ)
claim_words m middle ns = codes "at" ∷ mark_text m ∷ (middle ++ codes "cites" ∷ number_words ns)

-- a line of a claim, in words
pub record IsClaimLine (name : List ℕ) (m : Mark) (middle : List (List ℕ)) (ns : List ℕ) : Type 0 where
  pub symbol : is_symbol name ≡ true
  pub named : IsWord name
  pub early : IsEarly m
  pub words : AreWords middle
  pub numbers : AreSmall ns
  pub some : 0 < length ns
  pub short : length (name ++ spaced (claim_words m middle ns)) ≤ 4096

words_both : (xs ys : List (List ℕ)) → AreWords xs → AreWords ys → AreWords (xs ++ ys)
words_both [] ys h k = k
words_both (x ∷ xs) ys h k = (h.0, words_both xs ys h.1 k)

-- the bytes of the line
abbrev pub claim_line : List ℕ → Mark → List (List ℕ) → List ℕ → List ℕ
claim_line name m middle ns = name ++ spaced (claim_words m middle ns)

-- a line of plain bytes says what its words do
words_of_line : (w : List ℕ) (ws : List (List ℕ)) → IsWord w → AreWords ws → words_of (bytes_of (whole (w ++ spaced ws))) ≡ w ∷ ws
words_of_line w ws h k = ap words_of (plain_whole (w ++ spaced ws) (plain_line w ws h k)) ∙ words_spaced w ws h k

fit : (w : List ℕ) → is_plain w ≡ true → length w ≤ 4096 → is_unfit (whole w) ≡ false
fit w plain short = λ i. le-ltb 4096 (length w) short i || (ap (list_any is_tab) (plain_whole w plain) ∙ no_tab w plain) i

numbers_of_some : (ns : List ℕ) → 0 < length ns → AreSmall ns → some_numbers (number_words ns) ≡ Some ns
numbers_of_some [] some h = absurd (omega arith)
numbers_of_some (n ∷ ns) some h = numbers_back (n ∷ ns) h

module _ (name : List ℕ) (m : Mark) (middle : List (List ℕ)) (ns : List ℕ) (h : IsClaimLine name m middle ns) where
  all_words : AreWords (claim_words m middle ns)
  all_words = (
    (omega arith, refl),
    (mark_word m h.early, words_both middle (codes "cites" ∷ number_words ns) h.words ((omega arith, refl), numbers_words ns h.numbers)),
  )

  -- neither a line feed nor a carriage return stands in it
  pub claim_plain : is_plain (claim_line name m middle ns) ≡ true
  claim_plain = plain_line name (claim_words m middle ns) h.named all_words

  claim_is : claim_in (name ∷ claim_words m middle ns) ≡ Some (record { name = name; mark = m; numbers = ns })
  claim_is =
      (λ i. if h.symbol i && not (none_empty (name ∷ claim_words m middle ns) (h.named, all_words) i)
      then claim_with name (mark_back m h.early i) (option_and_then some_numbers (cites_last middle ns h.numbers i))
      else None)
      ∙ ap (λ (o : Option (List ℕ)). claim_with name (Some m) o) (numbers_of_some ns h.some h.numbers)

  -- it says the name, the mark and the numbers
  pub claim_said : said_of (whole (claim_line name m middle ns)) ≡ Claims (record { name = name; mark = m; numbers = ns })
  claim_said =
      (λ i. if is_claim (words_of_line name (claim_words m middle ns) h.named all_words i)
      then (if fit (claim_line name m middle ns) claim_plain h.short i
      then Formless
      else said_as (claim_in (words_of_line name (claim_words m middle ns) h.named all_words i)))
      else Other)
      ∙ (λ i. if same_bytes (codes "at") i then said_as (claim_in (name ∷ claim_words m middle ns)) else Other)
      ∙ ap said_as claim_is

-- a line whose second word has nothing but digits is no claim
pub digits_said : (w v rest : List ℕ) → IsWord w → 0 < length v → list_all is_digit v ≡ true → is_plain (w ++ 32 ∷ (v ++ 32 ∷ rest)) ≡ true
    → said_of (whole (w ++ 32 ∷ (v ++ 32 ∷ rest))) ≡ Other
digits_said w v rest h some digits plain =
    let free : (x : List ℕ) → list_all is_dark x ≡ true → All (λ b. is_blank b ≡ false) x =
    (λ x k. All-from_recursion (λ b. is_blank b ≡ false) x (no_blanks x k)) in
    let split : words_of (w ++ 32 ∷ (v ++ 32 ∷ rest)) ≡ w ∷ v ∷ words_of rest =
    slice_split_at is_blank w 32 (v ++ 32 ∷ rest) (free w h.1) refl
    ∙ ap (λ (l : List (List ℕ)). w ∷ l) (slice_split_at is_blank v 32 rest (free v (digits_dark v digits)) refl) in
    let words : words_of (bytes_of (whole (w ++ 32 ∷ (v ++ 32 ∷ rest)))) ≡ w ∷ v ∷ words_of rest =
    ap words_of (plain_whole (w ++ 32 ∷ (v ++ 32 ∷ rest)) plain) ∙ split in
    let unclaimed : is_claim (words_of (bytes_of (whole (w ++ 32 ∷ (v ++ 32 ∷ rest))))) ≡ false =
    ap is_claim words ∙ other v (codes "at") digits refl in
    λ i. if unclaimed i
    then (if is_unfit (whole (w ++ 32 ∷ (v ++ 32 ∷ rest))) then Formless else said_as (claim_in (words_of (bytes_of (whole (w ++ 32 ∷ (v ++ 32 ∷ rest)))))))
    else Other
