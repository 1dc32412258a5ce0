-- Parts of a field, cut at each `;`.
use Rattle.std.proofs.Common.{◌≡◌, ◌<◌, ◌≤◌, ◌+◌, ◌≢◌, ◌==◌, ℕ, zero, suc, Bool, true, false, List, [], ◌∷◌, ◌++◌, map, take, drop, get_or, length, codes, arith, refl, ne_eqb, eq-eqb, add-one, append_assoc, append-nil}
use Rattle.std.proofs.lemmas.List.{drop_all}
use Rattle.crs_base.specs.Entry.{args_text, more_text}
use Rattle.crs_import.specs.Records.{parts, onto_first, args_of, with_comma}

-- no `;` stands before that place
abbrev pub NoneBelow : List ℕ → ℕ → Type 0
NoneBelow text n = (k : ℕ) → k < n → get_or text k 0 ≢ 59

cut : (text : List ℕ) (n : ℕ) → NoneBelow text n → n < length text → get_or text n 0 ≡ 59 → parts text ≡ take n text ∷ parts (drop (suc n) text)
cut [] n f h e = absurd (omega arith)
cut (b ∷ bs) zero f h e = let same : (b == 59) ≡ true = eq-eqb b 59 e in rw same refl
cut (b ∷ bs) (suc n) f h e =
    let other : (b == 59) ≡ false = ne_eqb b 59 (f 0 (omega arith)) in
    rw (other, cut bs n (λ k less. f (suc k) (omega arith)) (omega arith) e) refl

-- the first part, and those behind it
pub first_part : (text : List ℕ) (n : ℕ) → NoneBelow text n → n < length text → get_or text n 0 ≡ 59 → parts text ≡ take n text ∷ parts (drop (n + 1) text)
first_part text n f h e = rw add-one (cut text n f h e)

-- a text without `;` is its only part
pub only_part : (text : List ℕ) → NoneBelow text (length text) → parts text ≡ text ∷ []
only_part [] f = refl
only_part (b ∷ bs) f =
    let other : (b == 59) ≡ false = ne_eqb b 59 (f 0 (omega arith)) in
    rw (other, only_part bs (λ k less. f (suc k) (omega arith))) refl

onto_some : (b : ℕ) (ps : List (List ℕ)) → 1 ≤ length (onto_first b ps)
onto_some b [] = omega arith
onto_some b (p ∷ ps) = omega arith

-- there is a part
pub has_part : (text : List ℕ) → 1 ≤ length (parts text)
has_part [] = omega arith
has_part (b ∷ bs) = by (b == 59) refl
  where
    by : (t : Bool) → (b == 59) ≡ t → 1 ≤ length (parts (b ∷ bs))
    by true e = rw e (omega arith)
    by false e = rw e (onto_some b (parts bs))

-- the parts, a comma between each two, and a bracket
abbrev joined : List (List ℕ) → List ℕ
joined [] = codes "]"
joined (p ∷ ps) = p ++ more_text ps

more_joined : (ps : List (List ℕ)) → 1 ≤ length ps → more_text ps ≡ 44 ∷ joined ps
more_joined [] h = absurd (omega arith)
more_joined (p ∷ ps) h = refl

onto_joined : (b : ℕ) (ps : List (List ℕ)) → 1 ≤ length ps → joined (onto_first b ps) ≡ b ∷ joined ps
onto_joined b [] h = absurd (omega arith)
onto_joined b (p ∷ ps) h = refl

with_commas : (text : List ℕ) → map with_comma text ++ codes "]" ≡ joined (parts text)
with_commas [] = refl
with_commas (b ∷ bs) = by (b == 59) refl (with_commas bs)
  where
    by : (t : Bool) → (b == 59) ≡ t → map with_comma bs ++ codes "]" ≡ joined (parts bs) → map with_comma (b ∷ bs) ++ codes "]" ≡ joined (parts (b ∷ bs))
    by true e rest = rw (e, more_joined (parts bs) (has_part bs), rest) refl
    by false e rest = rw (e, onto_joined b (parts bs) (has_part bs), rest) refl

bracketed : (ps : List (List ℕ)) → 1 ≤ length ps → args_text ps ≡ 91 ∷ joined ps
bracketed [] h = absurd (omega arith)
bracketed (p ∷ ps) h = refl

-- arguments are written by their bytes
pub args_written : (text : List ℕ) → 1 ≤ length text → args_text (args_of text) ≡ codes "[" ++ map with_comma text ++ codes "]"
args_written [] h = absurd (omega arith)
args_written (b ∷ bs) h = rw (bracketed (parts (b ∷ bs)) (has_part (b ∷ bs)), with_commas (b ∷ bs)) refl

-- the same behind what is there
pub args_behind : (out out1 out2 out3 text : List ℕ) (k : ℕ) → 1 ≤ length text → length text ≤ k → out1 ≡ out ++ codes "[" → out2 ++ map with_comma (drop k text) ≡ out1 ++ map with_comma text
    → out3 ≡ out2 ++ codes "]" → out3 ≡ out ++ args_text (args_of text)
args_behind out out1 out2 out3 text k some all a b d =
    let none : drop k text ≡ [] = drop_all k text all in
    let told : out2 ≡ out1 ++ map with_comma text = rw append-nil at (rw none at b) in
    rw (args_written text some, d, told, a) (simp append_assoc refl)
