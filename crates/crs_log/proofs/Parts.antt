-- The numbers of an event's texts, in two parts.
use Rattle.std.proofs.Common.{◌≡◌, ◌≤◌, ◌<◌, ℕ, ◌+◌, ◌-◌, List, [], ◌∷◌, ◌++◌, length, map, take, drop, refl, sym, ap, subst, ◌∙◌, arith, suc, zero, Option, Some, None, option_map, take_all, length-append, position, cond, nat_lt, lt-ltb, true, le_refl}
use Rattle.std.specs.Prelude.{bytes_eq}
use Rattle.std.specs.List.{take-map, position_or_len}
use Rattle.std.proofs.lemmas.List.{take-append-le, length-map}
use Rattle.std.proofs.Math.Seq.{drop-append_seam}
use Rattle.crs_base.specs.declared.symbols.Sym.{Sym}
use Rattle.crs_base.specs.Symbols.{is_known, with_text, text_at, with_texts}
use Rattle.crs_log.specs.Items.{Event, Change, AreSymbols, IsChange, IsItem, Happens}
use Rattle.crs_log.specs.Known.{change_texts, texts_of}
use Rattle.crs_model.specs.Renaming.{text_in}
use Rattle.crs_model.specs.Renaming.{AreKnown}
use Rattle.crs_log.specs.SeenNames.{change_count, IsTextAt, IsTold, HasNumber}
use Rattle.crs_log.specs.declared.entries.Known.{Known}
use Rattle.crs_log.specs.declared.entries.Known.TheVariants.{Other as CodeOther, Name as CodePlace}
use Rattle.crs_log.specs.declared.naming.NameRefused.{NameRefused}
use Rattle.std.specs.Prelude.{Result, Ok, Err, IfOk, IfSome, is_some}
use Rattle.crs_log.specs.SeenItems.{text_of, change_in, event_seen}
use Rattle.crs_log.specs.declared.items.Span.{Span}
use Rattle.crs_log.specs.declared.items.Raw.{Raw}
use Rattle.crs_log.proofs.Added.{place_known, kept_text, length_with}

drop-map : {A B : Type 0} (f : A → B) (n : ℕ) (xs : List A) → drop n (map f xs) ≡ map f (drop n xs)
drop-map f zero xs = refl
drop-map f (suc n) [] = refl
drop-map f (suc n) (x ∷ xs) = drop-map f n xs

module _ {A : Type 0} (T : List (List ℕ)) (f : A → List ℕ) (args : List A) (numbers : List Sym) (cs : List (List ℕ)) (n : ℕ) (is : n ≡ length args) (all : map (text_in T) numbers ≡ map f args ++ cs) where
  size : length (map f args) ≡ n
  size = length-map args f ∙ sym is

  pub front_texts : map (text_in T) (take n numbers) ≡ map f args
  front_texts = sym (take-map (text_in T) n numbers) ∙ ap (take n) all ∙ take-append-le n (map f args) cs (subst (λ k. n ≤ k) (sym size) (le_refl n)) ∙ take_all n (map f args) (subst (λ k. k ≤ n) (sym size) (le_refl n))

  pub back_texts : map (text_in T) (drop n numbers) ≡ cs
  back_texts = sym (drop-map (text_in T) n numbers) ∙ ap (drop n) all ∙ ap (λ k. drop k (map f args ++ cs)) (sym size) ∙ drop-append_seam (map f args) cs

pub in_take : (T : List (List ℕ)) (n : ℕ) (ss : List Sym) → AreKnown T ss → AreKnown T (take n ss)
in_take T zero ss h = tt
in_take T (suc n) [] h = tt
in_take T (suc n) (s ∷ ss) h = (h.0, in_take T n ss h.1)

pub in_drop : (T : List (List ℕ)) (n : ℕ) (ss : List Sym) → AreKnown T ss → AreKnown T (drop n ss)
in_drop T zero ss h = h
in_drop T (suc n) [] h = tt
in_drop T (suc n) (s ∷ ss) h = in_drop T n ss h.1

-- a text that is there keeps its number
pub kept_all : (ts T : List (List ℕ)) (n : ℕ) → n < length T → (n < length (with_texts T ts)) × (text_at (with_texts T ts) n ≡ text_at T n)
kept_all [] T n h = (h, refl)
kept_all (t ∷ ts) T n h =
    let l : length (with_text T t) ≡ length T + _ = length_with T t in
    let k = kept_all ts (with_text T t) n (omega (arith, l, h)) in
    (k.0, k.1 ∙ kept_text T t n h)

-- the number of a text that is there
number_by : (T : List (List ℕ)) (t : List ℕ) (s : Sym) (n : ℕ) → n < length T → Some s.0 ≡ cond (nat_lt n (length T)) (Some n) None → s.0 ≡ n
number_by T t s n h e = same (s.0) n (e ∙ (λ i. cond (lt-ltb n (length T) h i) (Some n) None))
  where
    same : (a b : ℕ) → Some a ≡ Some b → a ≡ b
    same a b e = cc

pub number_within : (T : List (List ℕ)) (t : List ℕ) (s : Sym) → is_known T t ≡ true → Some s.0 ≡ position (bytes_eq t) T → (s.0 < length T) × (text_at T s.0 ≡ t)
number_within T t s k e =
    let p = place_known t T k in
    let is : s.0 ≡ position_or_len (bytes_eq t) T = number_by T t s (position_or_len (bytes_eq t) T) p.0 e in
    (subst (λ n. n < length T) (sym is) p.0, ap (text_at T) is ∙ p.1)

pub number_known : (T : List (List ℕ)) (t : List ℕ) (s : Sym) → is_known T t ≡ true → Some s.0 ≡ position (bytes_eq t) T → text_in T s ≡ t
number_known T t s k e = let p = place_known t T k in ap (text_at T) (number_by T t s (position_or_len (bytes_eq t) T) p.0 e) ∙ p.1

change_size : (line : List ℕ) (change : Option (Span × Span)) → length (change_texts (change_in line change)) ≡ change_count change
change_size line None = refl
change_size line (Some c) = refl

pub count_of : (line : List ℕ) (raw : Raw) → length (texts_of (event_seen line raw)) ≡ length raw.args + change_count raw.change
count_of line raw = length-append (map (text_of line) raw.args) (change_texts (change_in line raw.change)) ∙ (λ i. length-map raw.args (text_of line) i + change_size line raw.change i)

pub room_left : (count len limit room : ℕ) → room ≡ limit - len → len ≤ limit → count ≤ room → len + count ≤ limit
room_left count len limit room is within h = omega (arith, is, within, h)

symbols_append : (xs ys : List (List ℕ)) → AreSymbols xs → AreSymbols ys → AreSymbols (xs ++ ys)
symbols_append [] ys h k = k
symbols_append (x ∷ xs) ys h k = (h.0, symbols_append xs ys h.1 k)

symbols_change : (change : Option Change) → IsChange change → AreSymbols (change_texts change)
symbols_change None h = tt
symbols_change (Some c) h = (h.0, (h.1, tt))

-- the texts of an item are symbols
pub symbols_of_item : (line : List ℕ) (e : Event) → IsItem line (Happens e) → AreSymbols (texts_of e)
symbols_of_item line e h = symbols_append e.args (change_texts e.change) h.2.args (symbols_change e.change h.2.change)

-- a number that was found is the text's
pub text_found : (T : List (List ℕ)) (t : List ℕ) (r : Option Sym) → option_map (λ s. s.0) r ≡ position (bytes_eq t) T → is_some r ≡ is_known T t → IfSome r (IsTextAt T t)
text_found T t None e k = tt
text_found T t (Some s) e k = number_within T t s (sym k) e

-- an answer with this number tells the text's
pub told_by : (T : List (List ℕ)) (t : List ℕ) (n : Sym) → IsTextAt T t n → (r : Result Known NameRefused) → IfOk r (HasNumber n)
    → IfOk r (IsTold T t)
told_by T t n at (Err e) h = tt
told_by T t n at (Ok CodeOther) h = tt
told_by T t n at (Ok (CodePlace i s)) h = subst (IsTextAt T t) (sym h) at
