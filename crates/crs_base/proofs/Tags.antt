-- A tag is that of one text alone, and what is told of a text stays told behind further texts.
use Rattle.std.proofs.Common.{◌≡◌, ℕ, zero, suc, ◌+◌, ◌*◌, ◌<◌, Bool, true, false, cond, not, List, [], ◌∷◌, ◌++◌, length, position, Some, None, refl, sym, ap, subst, ◌∙◌, true≢false, one-add, ◌||◌, arith, length-append}
use borrow.Author.Tests.{ltb-true, lt-ltb}
use Rattle.std.specs.Prelude.{bytes_eq, nat_lt}
use Rattle.std.specs.List.{position_or_len, list_any}
use Rattle.std.proofs.lemmas.List.Elements.{All-weaker}
use Rattle.crs_base.specs.declared.recent.Tag.{Tag}
use Rattle.crs_base.specs.declared.recent.Place.{Place}
use Rattle.crs_base.specs.declared.recent.Recent.{Recent}
use Rattle.crs_base.specs.Tags.{tag_on}
use Rattle.crs_base.specs.Recent.{AreBytes, IsTagOf, Tells, TellBoth, AreTold}
use Rattle.crs_base.specs.Symbols.{is_known}
use Rattle.crs_base.proofs.Lists.{absent_place}
use Rattle.crs_base.proofs.Texts.{same_bytes}

last_digit : (m n b c : ℕ) → b < 256 → c < 256 → 256 * m + b ≡ 256 * n + c → (m ≡ n) × (b ≡ c)
last_digit m n b c l k e = (omega arith, omega arith)

same_digits : (m n : ℕ) (t u : List ℕ) → AreBytes t → AreBytes u → length t ≡ length u → tag_on m t ≡ tag_on n u → (m ≡ n) × (t ≡ u)
same_digits m n [] [] h k l e = (e, refl)
same_digits m n [] (c ∷ u) h k l e = absurd (omega arith)
same_digits m n (b ∷ t) [] h k l e = absurd (omega arith)
same_digits m n (b ∷ t) (c ∷ u) h k l e =
    let rest = same_digits (256 * m + b) (256 * n + c) t u (λ i. h (suc i)) (λ i. k (suc i)) (omega arith) e in
    let last = last_digit m n b c (h zero) (k zero) rest.0 in
    (last.0, ap (λ x. x ∷ t) last.1 ∙ ap (λ v. c ∷ v) rest.1)

one_text : (t u : List ℕ) (tag : Tag) → AreBytes t → AreBytes u → IsTagOf t tag → IsTagOf u tag → t ≡ u
one_text t u tag h k p q = (same_digits 0 0 t u h k (p.1 ∙ sym q.1) (p.2 ∙ sym q.2)).1

-- what a place tells that has the tag and the number of a text
pub told_here : (texts : List (List ℕ)) (t : List ℕ) (tag : Tag) (n : ℕ) → AreBytes t → IsTagOf t tag → position (bytes_eq t) texts ≡ Some n → Tells texts (record { tag = tag; number = n })
told_here texts t tag n h p e = λ u k q. subst (λ v. position (bytes_eq v) texts ≡ Some n) (one_text t u tag h k p q) e

one_more : (b : Bool) (m n l : ℕ) → (m < l → n ≡ m) → cond (not b) (1 + m) 0 < suc l → cond (not b) (1 + n) 0 ≡ cond (not b) (1 + m) 0
one_more true m n l h k = refl
one_more false m n l h k = ap (λ x. 1 + x) (h (omega arith))

place_more : {X : Type 0} (p : X → Bool) (xs ys : List X) → position_or_len p xs < length xs → position_or_len p (xs ++ ys) ≡ position_or_len p xs
place_more p [] ys l = absurd (omega arith)
place_more p (x ∷ xs) ys l = one_more (p x) (position_or_len p xs) (position_or_len p (xs ++ ys)) (length xs) (place_more p xs ys) l

found : {X : Type 0} (p : X → Bool) (xs : List X) (n : ℕ) (b : Bool) → nat_lt (position_or_len p xs) (length xs) ≡ b → cond b (Some (position_or_len p xs)) None ≡ Some n → (position_or_len p xs < length xs) × (position_or_len p xs ≡ n)
found p xs n true e h = (ltb-true _ _ e, cc)
found p xs n false e h = cc

found_as : {X : Type 0} (p : X → Bool) (xs : List X) (n : ℕ) → n < length xs → position_or_len p xs ≡ n → position p xs ≡ Some n
found_as p xs n l e = rw e (rw (lt-ltb _ _ l) refl)

pub position_more : {X : Type 0} (p : X → Bool) (xs ys : List X) (n : ℕ) → position p xs ≡ Some n → position p (xs ++ ys) ≡ Some n
position_more p xs ys n h =
    let at = found p xs n (nat_lt (position_or_len p xs) (length xs)) refl h in
    found_as p (xs ++ ys) n (simp length-append (omega (arith, at.0, at.1))) (place_more p xs ys at.0 ∙ at.1)

tell_more : (texts more : List (List ℕ)) (place : Place) → Tells texts place → Tells (texts ++ more) place
tell_more texts more place h = λ t k p. position_more (bytes_eq t) texts more place.number (h t k p)

-- what is told of a table is told of it behind further texts
pub told_more : (texts more : List (List ℕ)) (recent : Recent) → AreTold texts recent → AreTold (texts ++ more) recent
told_more texts more recent h = All-weaker (TellBoth texts) (TellBoth (texts ++ more)) (λ pair t. (tell_more texts more pair.lower t.0, tell_more texts more pair.other t.1)) recent.pairs.items h

place_last : {X : Type 0} (p : X → Bool) (xs : List X) (y : X) → list_any p xs ≡ false → p y ≡ true → position_or_len p (xs ++ y ∷ []) ≡ length xs
place_last p [] y h k = rw k refl
place_last p (x ∷ xs) y h k = last_step (p x) (list_any p xs) (position_or_len p (xs ++ y ∷ [])) (length xs) h (λ e. place_last p xs y e k)
  where
    last_step : (b r : Bool) (m n : ℕ) → (b || r) ≡ false → (r ≡ false → m ≡ n) → cond (not b) (1 + m) 0 ≡ suc n
    last_step true r m n h k = absurd (true≢false h)
    last_step false r m n h k = one-add m ∙ ap suc (k h)

-- the number of a text that is put last
pub position_last : (texts : List (List ℕ)) (t : List ℕ) → is_known texts t ≡ false → position (bytes_eq t) (texts ++ t ∷ []) ≡ Some (length texts)
position_last texts t h = found_as (bytes_eq t) (texts ++ t ∷ []) (length texts) (simp length-append (omega arith)) (place_last (bytes_eq t) texts t h (same_bytes t))

known_from : {X : Type 0} (p : X → Bool) (xs : List X) (b : Bool) → list_any p xs ≡ b → position_or_len p xs < length xs → b ≡ true
known_from p xs true e l = refl
known_from p xs false e l = absurd (omega (arith, absent_place p xs e))

-- what is told of a text: its place, and that it is there
pub place_of_found : {X : Type 0} (p : X → Bool) (xs : List X) (n : ℕ) → position p xs ≡ Some n → n ≡ position_or_len p xs
place_of_found p xs n h = sym (found p xs n (nat_lt (position_or_len p xs) (length xs)) refl h).1

pub known_of_found : {X : Type 0} (p : X → Bool) (xs : List X) (n : ℕ) → position p xs ≡ Some n → list_any p xs ≡ true
known_of_found p xs n h = known_from p xs (list_any p xs) refl (found p xs n (nat_lt (position_or_len p xs) (length xs)) refl h).0
