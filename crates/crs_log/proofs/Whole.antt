-- Parts that stand one right behind the other in a line.
use Rattle.std.proofs.Common.{◌≡◌, ◌≤◌, ◌<◌, ℕ, ◌+◌, ◌-◌, List, [], ◌∷◌, ◌++◌, length, get_or, map, take, drop, refl, sym, ap, ◌∙◌, arith, suc, zero, append_assoc, add-one, None, Some, Option, IfSome}
use Rattle.std.proofs.lemmas.List.{append-nil, drop_all}
use Rattle.std.proofs.Math.Seq.{drop-cons}
use Rattle.crs_log.specs.declared.items.Span.{Span}
use Rattle.crs_log.specs.SeenItems.{text_of}
use Rattle.std.proofs.lemmas.List.{drop-drop, drop-take}
use Rattle.crs_base.specs.Entry.{more_text, args_text, canonical}
use Rattle.crs_base.specs.SeenTokens.{word_at}
use Rattle.crs_log.proofs.Places.{front}

none_taken : (k : ℕ) → take {A = ℕ} k [] ≡ []
none_taken zero = refl
none_taken (suc k) = refl

-- what is taken in two steps
taken : (n m : ℕ) (xs : List ℕ) → take (n + m) xs ≡ take n xs ++ take m (drop n xs)
taken zero m xs = let e : 0 + m ≡ m = omega arith in ap (λ k. take k xs) e
taken (suc n) m [] = none_taken (suc n + m) ∙ sym (none_taken m)
taken (suc n) m (x ∷ xs) = let e : suc n + m ≡ suc (n + m) = omega arith in ap (λ k. take k (x ∷ xs)) e ∙ ap (λ l. x ∷ l) (taken n m xs)

-- a byte and what stands behind it
one_more : (line : List ℕ) (e k : ℕ) → e < length line → take (1 + k) (drop e line) ≡ get_or line e 0 ∷ take k (drop (e + 1) line)
one_more line e k l = let s : 1 + k ≡ suc k = omega arith in ap (λ n. take n (drop e line)) s ∙ ap (take (suc k)) (front line e l)

-- a part behind a byte, behind what stands from a place on
pub piece_on : (line : List ℕ) (s e k m : ℕ) → s ≤ e → e < length line → get_or line e 0 ≡ m → word_at line s (e - s) ++ (m ∷ take k (drop (e + 1) line)) ≡ word_at line s ((e + 1 + k) - s)
piece_on line s e k m l w is =
    let n : ℕ = e - s in
    let place : s + n ≡ e = omega arith in
    let size : (e + 1 + k) - s ≡ n + (1 + k) = omega arith in
    sym (ap (λ j. take j (drop s line)) size
    ∙ taken n (1 + k) (drop s line)
    ∙ ap (λ r. take n (drop s line) ++ take (1 + k) r) (drop-drop n s line ∙ ap (λ j. drop j line) place)
    ∙ ap (λ r. take n (drop s line) ++ r) (one_more line e k w ∙ ap (λ b. b ∷ take k (drop (e + 1) line)) is))

-- the rest behind a part
pub parts_on : (line : List ℕ) (s p e : ℕ) (rest : List ℕ) → s ≤ p → p ≤ e → word_at line p (e - p) ≡ rest → word_at line s (e - s) ≡ word_at line s (p - s) ++ rest
parts_on line s p e rest l k is =
    let n : ℕ = p - s in
    let place : s + n ≡ p = omega arith in
    let size : e - s ≡ n + (e - p) = omega arith in
    ap (λ j. take j (drop s line)) size
    ∙ taken n (e - p) (drop s line)
    ∙ ap (λ r. take n (drop s line) ++ take (e - p) r) (drop-drop n s line ∙ ap (λ j. drop j line) place)
    ∙ ap (λ r. take n (drop s line) ++ r) is

abbrev pub none : Span
none = record { start = 0; len = 0 }

pub nothing_on : (line : List ℕ) (at : ℕ) (rest : List ℕ) → word_at line at (at - at) ++ rest ≡ rest
nothing_on line at rest = let e : at - at ≡ 0 = omega arith in ap (λ k. take k (drop at line) ++ rest) e

first_of : (args : List Span) (i : ℕ) → i < length args → drop i args ≡ get_or args i none ∷ drop (i + 1) args
first_of args i l = rw add-one (drop-cons args i none l)

module _ (line : List ℕ) (at end i new : ℕ) (args : List Span) (onward : at ≤ end) (all : List ℕ) (so_far : word_at line at (end - at) ++ more_text (map (text_of line) (drop i args)) ≡ all) (within : end < length line) where
  -- one more argument behind its comma
  pub more_step : i < length args → get_or line end 0 ≡ 44 → (get_or args i none).start ≡ end + 1 → new ≡ (get_or args i none).start + (get_or args i none).len
      → word_at line at (new - at) ++ more_text (map (text_of line) (drop (i + 1) args)) ≡ all
  more_step l comma start is =
      let a : Span = get_or args i none in
      let rest : List ℕ = more_text (map (text_of line) (drop (i + 1) args)) in
      let place : new ≡ end + 1 + a.len = omega (arith, is, start) in
      let piece : word_at line at (end - at) ++ (44 ∷ take a.len (drop (end + 1) line)) ≡ word_at line at ((end + 1 + a.len) - at) = piece_on line at end a.len 44 onward within comma in
      ap (λ n. word_at line at (n - at) ++ rest) place
      ∙ ap (λ t. t ++ rest) (sym piece)
      ∙ append_assoc (word_at line at (end - at)) (44 ∷ take a.len (drop (end + 1) line)) rest
      ∙ ap (λ n. word_at line at (end - at) ++ ((44 ∷ take a.len (drop n line)) ++ rest)) (sym start)
      ∙ ap (λ xs. word_at line at (end - at) ++ more_text (map (text_of line) xs)) (sym (first_of args i l))
      ∙ so_far

  -- the bracket behind the last one
  pub more_ends : length args ≤ i → get_or line end 0 ≡ 93 → word_at line at ((end + 1) - at) ≡ all
  more_ends l bracket =
      let same : end + 1 ≡ end + 1 + 0 = omega arith in
      ap (λ n. word_at line at (n - at)) same
      ∙ sym (piece_on line at end 0 93 onward within bracket)
      ∙ ap (λ xs. word_at line at (end - at) ++ more_text (map (text_of line) xs)) (sym (drop_all i args l))
      ∙ so_far

-- all arguments, from the bracket on
pub args_on : (line : List ℕ) (at p e : ℕ) (first : Span) (more : List Span) → at < length line → get_or line at 0 ≡ 91 → first.start ≡ at + 1 → p ≡ first.start + first.len → p ≤ e
    → word_at line p (e - p) ≡ more_text (map (text_of line) more) → word_at line at (e - at) ≡ args_text (map (text_of line) (first ∷ more))
args_on line at p e first more within bracket start is l rest =
    let place : p ≡ at + 1 + first.len = omega (arith, is, start) in
    let piece : word_at line at (at - at) ++ (91 ∷ take first.len (drop (at + 1) line)) ≡ word_at line at ((at + 1 + first.len) - at) = piece_on line at at first.len 91 (omega arith) within bracket in
    parts_on line at p e (more_text (map (text_of line) more)) (omega (arith, place)) l rest
    ∙ ap (λ t. t ++ more_text (map (text_of line) more)) (ap (λ n. word_at line at (n - at)) place ∙ sym piece ∙ nothing_on line at (91 ∷ take first.len (drop (at + 1) line)) ∙ ap (λ n. 91 ∷ take first.len (drop n line)) (sym start))

-- the name, and the arguments right behind it
pub name_on : (line : List ℕ) (name : Span) (args : List Span) (p e : ℕ) → p ≡ name.start + name.len → p ≤ e → word_at line p (e - p) ≡ args_text (map (text_of line) args)
    → drop name.start (take e line) ≡ canonical (text_of line name) (map (text_of line) args) None
name_on line name args p e is l rest =
    let s : ℕ = name.start in
    let whole : s + (e - s) ≡ e = omega (arith, is, l) in
    let size : p - s ≡ name.len = omega (arith, is) in
    ap (λ n. drop s (take n line)) (sym whole) ∙ drop-take s (e - s) line
    ∙ parts_on line s p e (args_text (map (text_of line) args)) (omega (arith, is)) l rest
    ∙ ap (λ n. word_at line s n ++ args_text (map (text_of line) args)) size
    ∙ sym (append-nil (text_of line name ++ args_text (map (text_of line) args)))

-- the same of an answer
pub some_args : (line : List ℕ) (at p : ℕ) (first : Span) (more : List Span) → at < length line → get_or line at 0 ≡ 91 → first.start ≡ at + 1 → p ≡ first.start + first.len → (r : Option ℕ)
    → IfSome r (λ e. word_at line p (e - p) ≡ more_text (map (text_of line) more)) → IfSome r (λ e. p ≤ e) → IfSome r (λ e. word_at line at (e - at) ≡ args_text (map (text_of line) (first ∷ more)))
some_args line at p first more within bracket start is None h k = tt
some_args line at p first more within bracket start is (Some e) h k = args_on line at p e first more within bracket start is k h
