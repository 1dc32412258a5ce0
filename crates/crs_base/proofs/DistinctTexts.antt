-- Lists of texts of which no two are equal.
use Rattle.std.proofs.Common.{◌≡◌, ℕ, zero, suc, ◌<◌, Bool, true, false, cond, ◌||◌, List, [], ◌∷◌, ◌++◌, length, refl, sym, ap, subst, ◌∙◌, true≢false, arith}
use Rattle.std.specs.Prelude.{bytes_eq}
use Rattle.std.proofs.lemmas.Bool.{or_left, or_right, or_parts, or_from}
use Rattle.std.proofs.lemmas.List.{append-nil}
use Rattle.std.proofs.lemmas.List.Folds.{list_any-append}
use Rattle.crs_base.specs.Symbols.{is_known, with_text, text_at, AreDistinct, with_texts}
use Rattle.crs_base.proofs.Texts.{same_bytes, bytes_same}

-- no text stands twice
abbrev pub Distinct : List (List ℕ) → Type 0
Distinct [] = Unit {0}
Distinct (t ∷ ts) = (is_known ts t ≡ false) × Distinct ts

other_way : (t u : List ℕ) (b : Bool) → bytes_eq u t ≡ b → bytes_eq t u ≡ false → b ≡ false
other_way t u true e h = absurd (true≢false (sym (ap (λ x. bytes_eq t x) (bytes_same u t e) ∙ same_bytes t) ∙ h))
other_way t u false e h = refl

-- a text between others
pub between_distinct : (xs ys : List (List ℕ)) (t : List ℕ) → Distinct (xs ++ ys) → is_known (xs ++ ys) t ≡ false → Distinct (xs ++ t ∷ ys)
between_distinct [] ys t d h = (h, d)
between_distinct (x ∷ xs) ys t d h =
    let k = or_parts (bytes_eq t x) (is_known (xs ++ ys) t) h in
    let old = or_parts (is_known xs x) (is_known ys x) (sym (list_any-append (bytes_eq x) xs ys) ∙ d.0) in
    let x_new : is_known (xs ++ t ∷ ys) x ≡ false =
    list_any-append (bytes_eq x) xs (t ∷ ys) ∙ or_from (is_known xs x) (bytes_eq x t || is_known ys x) old.0 (or_from (bytes_eq x t) (is_known ys x) (other_way t x (bytes_eq x t) refl k.0) old.1) in
    (x_new, between_distinct xs ys t d.1 k.1)

pub last_distinct : (xs : List (List ℕ)) (t : List ℕ) → Distinct xs → is_known xs t ≡ false → Distinct (xs ++ t ∷ [])
last_distinct xs t d h = between_distinct xs [] t (subst Distinct (sym (append-nil xs)) d) (ap (λ l. is_known l t) (append-nil xs) ∙ h)

-- the text behind the first ones isn't one of them
pub behind_new : (xs ys : List (List ℕ)) (t : List ℕ) → Distinct (xs ++ t ∷ ys) → is_known xs t ≡ false
behind_new [] ys t d = refl
behind_new (x ∷ xs) ys t d =
    let k = or_parts (is_known xs x) (bytes_eq x t || is_known ys x) (sym (list_any-append (bytes_eq x) xs (t ∷ ys)) ∙ d.0) in
    or_from (bytes_eq t x) (is_known xs t) (other_way x t (bytes_eq t x) refl (or_parts (bytes_eq x t) (is_known ys x) k.1).0) (behind_new xs ys t d.1)

one_distinct : (xs : List (List ℕ)) (t : List ℕ) (b : Bool) → is_known xs t ≡ b → Distinct xs → Distinct (cond b xs (xs ++ t ∷ []))
one_distinct xs t true e d = d
one_distinct xs t false e d = last_distinct xs t d e

-- texts put behind others
pub with_distinct : (xs ts : List (List ℕ)) → Distinct xs → Distinct (with_texts xs ts)
with_distinct xs [] d = d
with_distinct xs (t ∷ ts) d = with_distinct (with_text xs t) ts (one_distinct xs t (is_known xs t) refl d)

-- by the numbers of the texts
none_known : (t : List ℕ) (ts : List (List ℕ)) → ((j : ℕ) → j < length ts → text_at ts j ≡ t → ⊥) → is_known ts t ≡ false
none_known t [] h = refl
none_known t (u ∷ us) h = or_from (bytes_eq t u) (is_known us t) (first (bytes_eq t u) refl) (none_known t us (λ j l e. h (suc j) (omega arith) e))
  where
    first : (b : Bool) → bytes_eq t u ≡ b → b ≡ false
    first true e = absurd (h zero (omega arith) (sym (bytes_same t u e)))
    first false e = refl

pub distinct_by : (ts : List (List ℕ)) → AreDistinct ts → Distinct ts
distinct_by [] h = tt
distinct_by (t ∷ ts) h = (
  none_known t ts (λ j l e. let no : zero ≡ suc j = h zero (suc j) (omega arith) (omega arith) (sym e) in absurd (omega arith)),
  distinct_by ts (λ i j l k e. let same : suc i ≡ suc j = h (suc i) (suc j) (omega arith) (omega arith) e in omega (arith, same)),
)

pub known_at : (ts : List (List ℕ)) (j : ℕ) → j < length ts → is_known ts (text_at ts j) ≡ true
known_at [] j l = absurd (omega arith)
known_at (t ∷ ts) zero l = or_left (bytes_eq t t) (is_known ts t) (same_bytes t)
known_at (t ∷ ts) (suc j) l = or_right (bytes_eq (text_at ts j) t) (is_known ts (text_at ts j)) (known_at ts j (omega arith))

differs : (t : List ℕ) (ts : List (List ℕ)) (j : ℕ) → is_known ts t ≡ false → j < length ts → t ≡ text_at ts j → ⊥
differs t ts j new l e = true≢false (sym (known_at ts j l) ∙ ap (is_known ts) (sym e) ∙ new)

pub apart : (ts : List (List ℕ)) → Distinct ts → AreDistinct ts
apart [] d i j l k e = absurd (omega arith)
apart (t ∷ ts) d zero zero l k e = refl
apart (t ∷ ts) d zero (suc j) l k e = absurd (differs t ts j d.0 (omega arith) e)
apart (t ∷ ts) d (suc i) zero l k e = absurd (differs t ts i d.0 (omega arith) (sym e))
apart (t ∷ ts) d (suc i) (suc j) l k e = ap suc (apart ts d.1 i j (omega arith) (omega arith) e)

-- the same of the texts of a table
pub with_apart : (texts ts : List (List ℕ)) → AreDistinct texts → AreDistinct (with_texts texts ts)
with_apart texts ts d = apart (with_texts texts ts) (with_distinct texts ts (distinct_by texts d))
