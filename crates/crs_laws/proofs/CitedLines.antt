-- The line of a recognition whose entries are cited, and what it says to an audit.
use Rattle.std.proofs.Common.{◌≡◌, ◌∙◌, ap, sym, refl, subst, ℕ, zero, suc, ◌+◌, ◌<◌, ◌≤◌, ◌^◌, nat_le, ◌==◌, ◌&&◌, ◌||◌, true, le-leb, leb-true, eqb-true}
use Rattle.std.proofs.Common.{List, [], ◌∷◌, ◌++◌, length, map, Option, Some, None, inl, inr, arith, append_assoc, length-append}
use Rattle.std.specs.Prelude.{codes, decimal, flat_map, zip, slice_get, IfSome, option_map}
use Rattle.std.specs.List.{AllByRecursion, AllZip, list_all}
use Rattle.std.proofs.lemmas.Bool.{and_parts, or_cases}
use Rattle.std.proofs.lemmas.Grind.{flat_map-append}
use Rattle.std.proofs.lemmas.List.{length-map}
use Rattle.std.proofs.lemmas.List.Folds.{list_all-append}
use Rattle.crs_base.specs.Entry.{Entry}
use Rattle.crs_base.specs.Symbols.{is_symbol, is_symbol_byte}
use Rattle.crs_base.proofs.LineSteps.{whole}
use Rattle.crs_drill.proofs.MadeLines.{numeral, is_plain}
use Rattle.crs_model.specs.declared.recognition.Mark.{Mark}
use Rattle.crs_model.specs.Models.{EventDef, Chronicle}
use Rattle.crs_model.specs.Matching.{Assignment, IsAssignment}
use Rattle.crs_model.specs.Renaming.{IsEntryOf}
use Rattle.crs_model.proofs.Renamed.{renamed_look, of_events, patterns_on}
use Rattle.crs_log.specs.Items.{Event, IsChange}
use Rattle.crs_log.proofs.ReadEntries.{IsRead}
use Rattle.crs_report.specs.OutputLines.{mark_text, point_text, value_text, number_text, cites_text, recognition_line}
use Rattle.crs_audit.specs.Claims.{Claims, said_of}
use Rattle.crs_laws.proofs.CitedModels.{IsCitable}
use Rattle.crs_laws.proofs.CitedWords.{is_dark, IsWord, AreWords, spaced, spaced_few, number_word, number_words, AreSmall, IsEarly, mark_few, claim_words, claim_line, IsClaimLine, claim_said, claim_plain}

-- ---- symbols

abbrev pub IsText : List ℕ → Type 0
IsText t = is_symbol t ≡ true

from_low : (b low : ℕ) → 33 ≤ low → nat_le low b ≡ true → is_dark b ≡ true
from_low b low h e = let l = leb-true low b e in le-leb 33 b (omega arith)

from_same : (b k : ℕ) → 33 ≤ k → (b == k) ≡ true → is_dark b ≡ true
from_same b k h e = let s = eqb-true b k e in le-leb 33 b (omega arith)

symbol_dark : (b : ℕ) → is_symbol_byte b ≡ true → is_dark b ≡ true
symbol_dark b h = elim (or_cases ((nat_le 48 b && nat_le b 57) || (nat_le 65 b && nat_le b 90) || (nat_le 97 b && nat_le b 122) || (b == 95) || (b == 46)) (b == 45) h) [
  | inr e ↦ from_same b 45 (omega arith) e
  | inl h ↦ (elim (or_cases ((nat_le 48 b && nat_le b 57) || (nat_le 65 b && nat_le b 90) || (nat_le 97 b && nat_le b 122) || (b == 95)) (b == 46) h) [
    | inr e ↦ from_same b 46 (omega arith) e
    | inl h ↦ (elim (or_cases ((nat_le 48 b && nat_le b 57) || (nat_le 65 b && nat_le b 90) || (nat_le 97 b && nat_le b 122)) (b == 95) h) [
      | inr e ↦ from_same b 95 (omega arith) e
      | inl h ↦ (elim (or_cases ((nat_le 48 b && nat_le b 57) || (nat_le 65 b && nat_le b 90)) (nat_le 97 b && nat_le b 122) h) [
        | inr e ↦ from_low b 97 (omega arith) (and_parts (nat_le 97 b) (nat_le b 122) e).0
        | inl h ↦ (elim (or_cases (nat_le 48 b && nat_le b 57) (nat_le 65 b && nat_le b 90) h) [
          | inr e ↦ from_low b 65 (omega arith) (and_parts (nat_le 65 b) (nat_le b 90) e).0
          | inl e ↦ from_low b 48 (omega arith) (and_parts (nat_le 48 b) (nat_le b 57) e).0
        ])
      ])
    ])
  ])
]

symbols_dark : (w : List ℕ) → list_all is_symbol_byte w ≡ true → list_all is_dark w ≡ true
symbols_dark [] h = refl
symbols_dark (b ∷ w) h = let p = and_parts (is_symbol_byte b) (list_all is_symbol_byte w) h in (λ i. symbol_dark b p.0 i && symbols_dark w p.1 i)

-- a symbol has 1 to 64 bytes, all dark
record IsShortWord (w : List ℕ) : Type 0 where
  some : 0 < length w
  few : length w ≤ 64
  dark : list_all is_dark w ≡ true

short_word : (w : List ℕ) → IsText w → IsShortWord w
short_word w h =
    let p = and_parts (nat_le 1 (length w) && nat_le (length w) 64) (list_all is_symbol_byte w) h in
    let q = and_parts (nat_le 1 (length w)) (nat_le (length w) 64) p.0 in
    record { some = leb-true 1 (length w) q.0; few = leb-true (length w) 64 q.1; dark = symbols_dark w p.1 }

-- ---- words of the line

-- a word of at most k bytes
abbrev IsWordOf : ℕ → List ℕ → Type 0
IsWordOf k w = IsWord w × (length w ≤ k)

dark_both : (x y : List ℕ) → list_all is_dark x ≡ true → list_all is_dark y ≡ true → list_all is_dark (x ++ y) ≡ true
dark_both x y h k = list_all-append is_dark x y ∙ (λ i. h i && k i)

-- `POINT=DATE` and `?VARIABLE=VALUE`
abbrev point_word : EventDef (List ℕ) × Entry (List ℕ) → List ℕ
point_word p = p.0.point ++ codes "=" ++ decimal p.1.date

abbrev value_word : List ℕ × List ℕ → List ℕ
value_word p = (63 ∷ p.0) ++ codes "=" ++ p.1

parted_word : (k l : ℕ) (x y : List ℕ) → 0 < length x → list_all is_dark x ≡ true → list_all is_dark y ≡ true → length x ≤ k → length y ≤ l → IsWordOf (k + 1 + l) (x ++ codes "=" ++ y)
parted_word k l x y some h g few short =
    let one : length (x ++ codes "=") ≡ length x + 1 = length-append x (codes "=") in
    let all : length ((x ++ codes "=") ++ y) ≡ length (x ++ codes "=") + length y = length-append (x ++ codes "=") y in
    ((omega (arith, one, all), dark_both (x ++ codes "=") y (dark_both x (codes "=") h refl) g), omega (arith, one, all))

points_words : (vs : List (EventDef (List ℕ))) (es : List (Entry (List ℕ))) → AllByRecursion (λ v. IsText v.point) vs → AllByRecursion (λ e. e.date < 2 ^ 40) es
    → AllByRecursion (IsWordOf 78) (map point_word (zip vs es))
points_words [] es h k = tt
points_words (v ∷ vs) [] h k = tt
points_words (v ∷ vs) (e ∷ es) h k =
    let s = short_word v.point h.0 in
    let n = numeral e.date (let d = k.0 in omega arith) in
    (parted_word 64 13 v.point (decimal e.date) s.some s.dark (number_word e.date (decimal e.date) n).1 s.few n.few, points_words vs es h.1 k.1)

values_words : (vs xs : List (List ℕ)) → AllByRecursion IsText vs → AllByRecursion IsText xs → AllByRecursion (IsWordOf 130) (map value_word (zip vs xs))
values_words [] xs h k = tt
values_words (v ∷ vs) [] h k = tt
values_words (v ∷ vs) (x ∷ xs) h k =
    let s = short_word v h.0 in
    let t = short_word x k.0 in
    let few = s.few in
    (parted_word 65 64 (63 ∷ v) x (omega arith) s.dark t.dark (omega arith) t.few, values_words vs xs h.1 k.1)

words_of_some : (k : ℕ) (ws : List (List ℕ)) → AllByRecursion (IsWordOf k) ws → AreWords ws × AllByRecursion (λ w. length w ≤ k) ws
words_of_some k [] h = (tt, tt)
words_of_some k (w ∷ ws) h = let rest = words_of_some k ws h.1 in ((h.0.0, rest.0), (h.0.1, rest.1))

words_both : (xs ys : List (List ℕ)) → AreWords xs → AreWords ys → AreWords (xs ++ ys)
words_both [] ys h k = k
words_both (x ∷ xs) ys h k = (h.0, words_both xs ys h.1 k)

zip_few : {A B : Type 0} (xs : List A) (ys : List B) → length (zip xs ys) ≤ length xs
zip_few [] ys = omega arith
zip_few (x ∷ xs) [] = omega arith
zip_few (x ∷ xs) (y ∷ ys) = let rest = zip_few xs ys in omega arith

numbers_few : (ns : List ℕ) → AreSmall ns → AllByRecursion (λ w. length w ≤ 13) (number_words ns)
numbers_few [] h = tt
numbers_few (n ∷ ns) h = let s = h.0 in ((numeral n (omega arith)).few, numbers_few ns h.1)

-- ---- the line

abbrev pub arrivals : List (Entry (List ℕ)) → List ℕ
arrivals es = map (λ e. e.arrival) es

-- the words between the mark and `cites`
abbrev pub middle : Chronicle (List ℕ) → Assignment (List ℕ) → List (List ℕ)
middle c b = map point_word (zip c.events b.entries) ++ map value_word (zip c.variables b.values)

-- the line without its line feed
abbrev pub cited_line : Chronicle (List ℕ) → Mark → Assignment (List ℕ) → List ℕ
cited_line c m b = claim_line c.name m (middle c b) (arrivals b.entries)

points_spaced : (ps : List (EventDef (List ℕ) × Entry (List ℕ))) → flat_map point_text ps ≡ spaced (map point_word ps)
points_spaced [] = refl
points_spaced (p ∷ ps) = ap (λ (t : List ℕ). point_text p ++ t) (points_spaced ps)

values_spaced : (ps : List (List ℕ × List ℕ)) → flat_map value_text ps ≡ spaced (map value_word ps)
values_spaced [] = refl
values_spaced (p ∷ ps) = ap (λ (t : List ℕ). value_text p ++ t) (values_spaced ps)

numbers_spaced : (es : List (Entry (List ℕ))) → flat_map number_text es ≡ spaced (number_words (arrivals es))
numbers_spaced [] = refl
numbers_spaced (e ∷ es) = ap (λ (t : List ℕ). number_text e ++ t) (numbers_spaced es)

spaced_both : (xs ys : List (List ℕ)) → spaced (xs ++ ys) ≡ spaced xs ++ spaced ys
spaced_both xs ys = flat_map-append (λ w. 32 ∷ w) xs ys

regrouped : (a b m p v c : List ℕ) → ((((a ++ b) ++ m) ++ p) ++ v) ++ c ≡ a ++ (b ++ (m ++ ((p ++ v) ++ c)))
regrouped a b m p v c =
    append_assoc (((a ++ b) ++ m) ++ p) v c ∙ append_assoc ((a ++ b) ++ m) p (v ++ c) ∙ append_assoc (a ++ b) m (p ++ (v ++ c))
    ∙ append_assoc a b (m ++ (p ++ (v ++ c))) ∙ ap (λ (t : List ℕ). a ++ (b ++ (m ++ t))) (sym (append_assoc p v c))

pub line_is : (c : Chronicle (List ℕ)) (m : Mark) (b : Assignment (List ℕ)) → recognition_line true c m b ≡ cited_line c m b ++ 10 ∷ []
line_is c m b =
    let ps = zip c.events b.entries in
    let vs = zip c.variables b.values in
    let ns = codes "cites" ∷ number_words (arrivals b.entries) in
    let inside : spaced (middle c b ++ ns) ≡ (flat_map point_text ps ++ flat_map value_text vs) ++ cites_text true b.entries =
    spaced_both (middle c b) ns
    ∙ (λ i. spaced_both (map point_word ps) (map value_word vs) i ++ spaced ns)
    ∙ (λ i. (sym (points_spaced ps) i ++ sym (values_spaced vs) i) ++ (codes " cites" ++ sym (numbers_spaced b.entries) i)) in
    ap (λ (t : List ℕ). t ++ 10 ∷ [])
    (regrouped c.name (codes " at ") (mark_text m) (flat_map point_text ps) (flat_map value_text vs) (cites_text true b.entries)
    ∙ ap (λ (t : List ℕ). c.name ++ (codes " at " ++ (mark_text m ++ t))) (sym inside))

-- ---- what stands in it

of_change : (c : Option (List ℕ × List ℕ)) → IsChange c → IfSome c (λ d. IsText d.0 × IsText d.1)
of_change None h = tt
of_change (Some d) h = h

-- an entry that was read is of symbols
pub of_read : (x : Entry (List ℕ)) → IsRead x → IsEntryOf IsText x
of_read x h =
    let e : Event = h.0 in
    subst (IsEntryOf IsText) (sym h.2) (record { name = h.1.name; args = h.1.args; change = of_change e.change h.1.change })

unrenamed : (o : Option (List ℕ)) (y : List ℕ) → option_map (λ x. x) o ≡ Some y → o ≡ Some y
unrenamed None y h = absurd cc
unrenamed (Some x) y h = h

texts_at : (xs : List (List ℕ)) → ((v : ℕ) → v < length xs → (y : List ℕ) × IsText y × (slice_get xs v ≡ Some y)) → AllByRecursion IsText xs
texts_at [] h = tt
texts_at (x ∷ xs) h =
    let first = h zero (omega arith) in
    let e : x ≡ first.0 = (let s : Some x ≡ Some first.0 = first.2 in cc) in
    (subst IsText (sym e) first.1, texts_at xs (λ v l. h (suc v) (omega (arith, l))))

-- what an assignment of entries that were read has for the line
pub record HasLine (c : Chronicle (List ℕ)) (b : Assignment (List ℕ)) : Type 0 where
  pub values : AllByRecursion IsText b.values
  pub dates : AllByRecursion (λ e. e.date < 2 ^ 40) b.entries
  pub numbers : AreSmall (arrivals b.entries)
  pub many : length b.entries ≡ length c.events

zip_long : {A B : Type 0} (R : A → B → Type 0) (xs : List A) (ys : List B) → AllZip R xs ys → length ys ≡ length xs
zip_long R [] [] h = refl
zip_long R [] (y ∷ ys) h = absurd h
zip_long R (x ∷ xs) [] h = absurd h
zip_long R (x ∷ xs) (y ∷ ys) h = ap suc (zip_long R xs ys h.1)

numbers_small : (limit : ℕ) (es : List (Entry (List ℕ))) → limit < 2 ^ 32 → AllByRecursion (λ e. e.arrival < limit) es → AreSmall (arrivals es)
numbers_small limit [] l h = tt
numbers_small limit (e ∷ es) l h = (let k = h.0 in omega arith, numbers_small limit es l h.1)

pub has_line : (c : Chronicle (List ℕ)) → IsCitable c → (limit : ℕ) → limit < 2 ^ 32 → (pool : List (Entry (List ℕ))) (b : Assignment (List ℕ)) → IsAssignment c pool b
    → AllByRecursion (IsEntryOf IsText) b.entries → AllByRecursion (λ e. e.date < 2 ^ 40) b.entries → AllByRecursion (λ e. e.arrival < limit) b.entries → HasLine c b
has_line c citable limit small pool b a known dates numbers = record {
  values = texts_at b.values (λ v l.
      let k : v < length c.variables = (let e = a.bound in omega arith) in
      let s = citable.named.stands v k in
      let g = of_events (λ (y : List ℕ). y) IsText (renamed_look (λ (y : List ℕ). y) (slice_get b.values)) v c.events b.entries known
      (patterns_on (λ (y : List ℕ). y) (slice_get b.values) c.events b.entries a.equal) s.0 s.1 s.2 s.3 in
      (g.0, g.1, unrenamed (slice_get b.values v) g.0 g.2));
  dates = dates;
  numbers = numbers_small limit b.entries small numbers;
  many = zip_long _ c.events b.entries a.equal;
}

module _ (c : Chronicle (List ℕ)) (citable : IsCitable c) (m : Mark) (early : IsEarly m) (b : Assignment (List ℕ)) (h : HasLine c b) where
  points : AllByRecursion (IsWordOf 78) (map point_word (zip c.events b.entries))
  points = points_words c.events b.entries citable.points h.dates

  values : AllByRecursion (IsWordOf 130) (map value_word (zip c.variables b.values))
  values = values_words c.variables b.values citable.variables h.values

  short : length (cited_line c m b) ≤ 4096
  short =
      let name = short_word c.name citable.symbol in
      let ps = map point_word (zip c.events b.entries) in
      let vs = map value_word (zip c.variables b.values) in
      let ns = number_words (arrivals b.entries) in
      let few_name = name.few in
      let few_mark = mark_few m early in
      let few_points = spaced_few 78 ps (words_of_some 78 ps points).1 in
      let few_values = spaced_few 130 vs (words_of_some 130 vs values).1 in
      let few_numbers = spaced_few 13 ns (numbers_few (arrivals b.entries) h.numbers) in
      let many_points : length ps ≡ length (zip c.events b.entries) = length-map (zip c.events b.entries) point_word in
      let many_values : length vs ≡ length (zip c.variables b.values) = length-map (zip c.variables b.values) value_word in
      let many_numbers : length ns ≡ length (arrivals b.entries) = length-map (arrivals b.entries) decimal in
      let many_entries : length (arrivals b.entries) ≡ length b.entries = length-map b.entries (λ (e : Entry (List ℕ)). e.arrival) in
      let at_points = zip_few c.events b.entries in
      let at_values = zip_few c.variables b.values in
      let many = h.many in
      let events = citable.events_few in
      let variables = citable.variables_few in
      let one : length (c.name ++ spaced (claim_words m (middle c b) (arrivals b.entries))) ≡ length c.name + length (spaced (claim_words m (middle c b) (arrivals b.entries))) =
      length-append c.name (spaced (claim_words m (middle c b) (arrivals b.entries))) in
      let two : length (mark_text m ++ spaced (middle c b ++ codes "cites" ∷ ns)) ≡ length (mark_text m) + length (spaced (middle c b ++ codes "cites" ∷ ns)) =
      length-append (mark_text m) (spaced (middle c b ++ codes "cites" ∷ ns)) in
      let three : length (spaced (middle c b ++ codes "cites" ∷ ns)) ≡ length (spaced (middle c b)) + length (spaced (codes "cites" ∷ ns)) =
      ap length (spaced_both (middle c b) (codes "cites" ∷ ns)) ∙ length-append (spaced (middle c b)) (spaced (codes "cites" ∷ ns)) in
      let four : length (spaced (middle c b)) ≡ length (spaced ps) + length (spaced vs) = ap length (spaced_both ps vs) ∙ length-append (spaced ps) (spaced vs) in
      omega (arith, one, two, three, four, many_points, many_values, many_numbers, many_entries)

  claim : IsClaimLine c.name m (middle c b) (arrivals b.entries)
  claim =
      let name = short_word c.name citable.symbol in
      record {
        symbol = citable.symbol;
        named = (name.some, name.dark);
        early = early;
        words = words_both _ _ (words_of_some 78 _ points).0 (words_of_some 130 _ values).0;
        numbers = h.numbers;
        some = (
            let long : length (arrivals b.entries) ≡ length b.entries = length-map b.entries (λ (e : Entry (List ℕ)). e.arrival) in
            let many = h.many in
            let some = citable.some in
            omega (arith, long)
            );
        short = short;
      }

  -- the line says the chronicle's name, the mark and the entries' numbers
  pub line_said : said_of (whole (cited_line c m b)) ≡ Claims (record { name = c.name; mark = m; numbers = arrivals b.entries })
  line_said = claim_said c.name m (middle c b) (arrivals b.entries) claim

  pub line_plain : is_plain (cited_line c m b) ≡ true
  line_plain = claim_plain c.name m (middle c b) (arrivals b.entries) claim

  pub line_some : 0 < length (cited_line c m b)
  line_some =
      let some = (short_word c.name citable.symbol).some in
      let long : length (cited_line c m b) ≡ length c.name + length (spaced (claim_words m (middle c b) (arrivals b.entries))) =
      length-append c.name (spaced (claim_words m (middle c b) (arrivals b.entries))) in
      omega (arith, long)
