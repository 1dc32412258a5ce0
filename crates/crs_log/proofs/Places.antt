-- The tokens of a line from a place on, as its parts are read.
use Rattle.std.proofs.Common.{◌≡◌, ◌≤◌, ◌<◌, ℕ, ◌+◌, Bool, true, false, cond, not, ◌&&◌, ◌==◌, nat_le, List, [], ◌∷◌, ◌++◌, length, get_or, map, take, drop, refl, sym, ap, subst, ◌∙◌, arith, Option, Some, None, option_map, true≢false, add-one, length-drop, eqb-true}
use Rattle.std.specs.List.{prefix_len, list_all}
use Rattle.std.proofs.Math.Seq.{drop-cons}
use Rattle.std.proofs.lemmas.Bool.{and_parts}
use Rattle.std.proofs.lemmas.List.{drop-drop, drop_all, length-take-le, map-append}
use borrow.Author.Tests.{not-true, le-leb}
use Rattle.crs_base.specs.Symbols.{is_symbol, is_symbol_byte}
use Rattle.crs_base.specs.Lines.{is_blank, is_passed_over}
use Rattle.crs_base.specs.Tokens.{Token, Word, Mark, tokens_of, tokens_behind, behind_equals, behind_mark, is_log_mark}
use Rattle.crs_base.proofs.Alls.{all_put}
use Rattle.crs_base.proofs.TokenSteps.{word_front, blank_front, mark_front, all_in_front, symbol_no_blank}
use Rattle.crs_log.specs.declared.items.Span.{Span}
use Rattle.crs_log.specs.declared.items.Raw.{Raw}
use Rattle.crs_log.specs.Items.{Happens, IsItem, AreSymbols, more_tokens, args_tokens, change_tokens, log_number_of}
use Rattle.crs_log.specs.ItemOf.{Empty, Is, what_is, what_of, item_of}
use Rattle.crs_log.specs.SeenItems.{text_of, event_seen, change_in}
use Rattle.crs_log.specs.Places.{tokens_from, is_plain_mark, Stands, IsSymbolAt, AreArgumentsAt, IsChangeOf, led_tokens}
use Rattle.crs_log.proofs.ItemLaw.{item_again}

pub front : (line : List ℕ) (i : ℕ) → i < length line → drop i line ≡ get_or line i 0 ∷ drop (i + 1) line
front line i l = rw add-one (drop-cons line i 0 l)

pub blank_step : (line : List ℕ) (i : ℕ) → i < length line → is_blank (get_or line i 0) ≡ true → tokens_from line (i + 1) ≡ tokens_from line i
blank_step line i l e = sym (blank_front is_log_mark (drop i line) (get_or line i 0) (drop (i + 1) line) (front line i l) e)

word_first : (rest : List ℕ) (b : ℕ) (bs : List ℕ) → rest ≡ b ∷ bs → is_symbol_byte b ≡ true → 1 + prefix_len is_symbol_byte bs ≡ prefix_len is_symbol_byte rest
word_first rest b bs is e = sym (ap (prefix_len is_symbol_byte) is ∙ (λ i. cond (e i) (1 + prefix_len is_symbol_byte bs) 0))

no_word_first : (rest : List ℕ) (b : ℕ) (bs : List ℕ) → rest ≡ b ∷ bs → is_symbol_byte b ≡ false → prefix_len is_symbol_byte rest ≡ 0
no_word_first rest b bs is e = ap (prefix_len is_symbol_byte) is ∙ (λ i. cond (e i) (1 + prefix_len is_symbol_byte bs) 0)

pub word_step : (line : List ℕ) (i : ℕ) → i < length line → is_symbol_byte (get_or line i 0) ≡ true → (i + 1) + prefix_len is_symbol_byte (drop (i + 1) line) ≡ i + prefix_len is_symbol_byte (drop i line)
word_step line i l e = let k = word_first (drop i line) (get_or line i 0) (drop (i + 1) line) (front line i l) e in omega (arith, k)

pub word_stops : (line : List ℕ) (i : ℕ) → i < length line → is_symbol_byte (get_or line i 0) ≡ false → prefix_len is_symbol_byte (drop i line) ≡ 0
word_stops line i l e = no_word_first (drop i line) (get_or line i 0) (drop (i + 1) line) (front line i l) e

pub word_ends : (line : List ℕ) (i : ℕ) → length line ≤ i → prefix_len is_symbol_byte (drop i line) ≡ 0
word_ends line i l = ap (prefix_len is_symbol_byte) (drop_all i line l)

pub nothing_left : (line : List ℕ) (i : ℕ) → length line ≤ i → tokens_from line i ≡ Some []
nothing_left line i l = ap (tokens_of is_log_mark) (drop_all i line l)

mark_is_whole : (b : ℕ) (bs : List ℕ) → (b == 33) ≡ false → Some bs ≡ behind_mark b bs
mark_is_whole b bs e = sym (λ i. cond (e i) (behind_equals bs) (Some bs))

pub mark_step : (line : List ℕ) (i m : ℕ) → i < length line → get_or line i 0 ≡ m → is_plain_mark m ≡ true → tokens_from line i ≡ option_map (λ ts. Mark m ∷ ts) (tokens_from line (i + 1))
mark_step line i m l is plain =
    let a = and_parts (is_log_mark m && not (is_blank m) && not (is_symbol_byte m)) (not (m == 33)) plain in
    let b = and_parts (is_log_mark m && not (is_blank m)) (not (is_symbol_byte m)) a.0 in
    let c = and_parts (is_log_mark m) (not (is_blank m)) b.0 in
    mark_front is_log_mark (drop i line) m (drop (i + 1) line) (front line i l ∙ ap (λ x. x ∷ drop (i + 1) line) is) (Some (drop (i + 1) line))
    (not-true (is_blank m) c.1) (not-true (is_symbol_byte m) b.1) c.0 (mark_is_whole m (drop (i + 1) line) (not-true (m == 33) a.1))

-- the word in front of a rest
word_of_rest : (rest : List ℕ) → 1 ≤ prefix_len is_symbol_byte rest
    → tokens_behind is_log_mark false rest ≡ option_map (λ ts. Word (take (prefix_len is_symbol_byte rest) rest) ∷ ts) (tokens_behind is_log_mark false (drop (prefix_len is_symbol_byte rest) rest))
word_of_rest [] l = absurd (omega arith)
word_of_rest (b ∷ bs) l = by (is_symbol_byte b) refl
  where
    by : (t : Bool) → is_symbol_byte b ≡ t → tokens_behind is_log_mark false (b ∷ bs) ≡ option_map (λ ts. Word (take (prefix_len is_symbol_byte (b ∷ bs)) (b ∷ bs)) ∷ ts) (tokens_behind is_log_mark false (drop (prefix_len is_symbol_byte (b ∷ bs)) (b ∷ bs)))
    by true e = word_front is_log_mark b bs e
    by false e = let none : prefix_len is_symbol_byte (b ∷ bs) ≡ 0 = no_word_first (b ∷ bs) b bs refl e in absurd (omega (arith, none, l))

pub word_at_place : (line : List ℕ) (i n : ℕ) → i + n ≡ i + prefix_len is_symbol_byte (drop i line) → 1 ≤ n → tokens_from line i ≡ option_map (λ ts. Word (take n (drop i line)) ∷ ts) (tokens_from line (i + n))
word_at_place line i n is l =
    let same : n ≡ prefix_len is_symbol_byte (drop i line) = omega (arith, is) in
    subst (λ k. tokens_from line i ≡ option_map (λ ts. Word (take k (drop i line)) ∷ ts) (tokens_from line (i + k))) (sym same)
    (word_of_rest (drop i line) (subst (λ k. 1 ≤ k) same l)
    ∙ ap (λ r. option_map (λ ts. Word (take (prefix_len is_symbol_byte (drop i line)) (drop i line)) ∷ ts) (tokens_behind is_log_mark false r)) (drop-drop (prefix_len is_symbol_byte (drop i line)) i line))

symbol_by : (w : List ℕ) → 1 ≤ length w → length w ≤ 64 → list_all is_symbol_byte w ≡ true → is_symbol w ≡ true
symbol_by w l h all = (λ i. le-leb 1 (length w) l i && nat_le (length w) 64 && list_all is_symbol_byte w) ∙ (λ i. le-leb (length w) 64 h i && list_all is_symbol_byte w) ∙ all

pub symbol_at_place : (line : List ℕ) (i n : ℕ) → i + n ≡ i + prefix_len is_symbol_byte (drop i line) → 1 ≤ n → n ≤ 64 → i + n ≤ length line → is_symbol (take n (drop i line)) ≡ true
symbol_at_place line i n is l h within =
    let same : n ≡ prefix_len is_symbol_byte (drop i line) = omega (arith, is) in
    let room : n ≤ length (drop i line) = simp length-drop (omega (arith, within)) in
    let size : length (take n (drop i line)) ≡ n = length-take-le n (drop i line) room in
    symbol_by (take n (drop i line)) (omega (arith, size, l)) (omega (arith, size, h)) (ap (λ k. list_all is_symbol_byte (take k (drop i line))) same ∙ all_in_front is_symbol_byte (drop i line))

unmoved : (o : Option (List Token)) → o ≡ option_map (λ ts. ts) o
unmoved None = refl
unmoved (Some ts) = refl

pub led_none : (line : List ℕ) (i : ℕ) → tokens_from line i ≡ option_map (led_tokens []) (tokens_from line i)
led_none line i = unmoved (tokens_from line i)

pub no_arguments : (line : List ℕ) (i : ℕ) → i ≤ length line → AreArgumentsAt line (tokens_from line i) [] i
no_arguments line i l = record { tokens_are = unmoved (tokens_from line i); symbols = tt; within = l }

led_at : (xs : List (List ℕ)) (a : List ℕ) (ts : List Token) → led_tokens xs (Word a ∷ Mark 44 ∷ ts) ≡ led_tokens (xs ++ a ∷ []) ts
led_at [] a ts = refl
led_at (x ∷ xs) a ts = ap (λ us. Word x ∷ Mark 44 ∷ us) (led_at xs a ts)

led_push : (xs : List (List ℕ)) (a : List ℕ) (o : Option (List Token)) → option_map (led_tokens xs) (option_map (λ ts. Word a ∷ ts) (option_map (λ ts. Mark 44 ∷ ts) o)) ≡ option_map (led_tokens (xs ++ a ∷ [])) o
led_push xs a None = refl
led_push xs a (Some ts) = ap Some (led_at xs a ts)

more_at : (xs : List (List ℕ)) (a : List ℕ) (ts : List Token) → Mark 44 ∷ led_tokens xs (Word a ∷ Mark 93 ∷ ts) ≡ more_tokens (xs ++ a ∷ []) ts
more_at [] a ts = refl
more_at (x ∷ xs) a ts = ap (λ us. Mark 44 ∷ Word x ∷ us) (more_at xs a ts)

args_at : (xs : List (List ℕ)) (a : List ℕ) (ts : List Token) → Mark 91 ∷ led_tokens xs (Word a ∷ Mark 93 ∷ ts) ≡ args_tokens (xs ++ a ∷ []) ts
args_at [] a ts = refl
args_at (x ∷ xs) a ts = ap (λ us. Mark 91 ∷ Word x ∷ us) (more_at xs a ts)

args_end : (xs : List (List ℕ)) (a : List ℕ) (o : Option (List Token))
    → option_map (λ ts. Mark 91 ∷ ts) (option_map (led_tokens xs) (option_map (λ ts. Word a ∷ ts) (option_map (λ ts. Mark 93 ∷ ts) o))) ≡ option_map (args_tokens (xs ++ a ∷ [])) o
args_end xs a None = refl
args_end xs a (Some ts) = ap Some (args_at xs a ts)

-- the texts of one more span
pub texts_more : (line : List ℕ) (spans more : List Span) (s : Span) → more ≡ spans ++ s ∷ [] → map (text_of line) more ≡ map (text_of line) spans ++ text_of line s ∷ []
texts_more line spans more s is = ap (map (text_of line)) is ∙ map-append (text_of line) spans (s ∷ [])

module _ (line : List ℕ) (at i p e : ℕ) (spans more : List Span) (s : Span) (is : more ≡ spans ++ s ∷ []) (so_far : tokens_from line at ≡ option_map (led_tokens (map (text_of line) spans)) (tokens_from line i))
    (symbols : AreSymbols (map (text_of line) spans)) (next : IsSymbolAt line i s) (ends : p ≡ s.start + s.len) where
  more_symbols : AreSymbols (map (text_of line) more)
  more_symbols = subst AreSymbols (sym (texts_more line spans more s is)) (all_put (λ t. is_symbol t ≡ true) (map (text_of line) spans) (text_of line s) symbols next.symbol)

  word_then : (m : ℕ) → Stands line p (Mark m) e → tokens_from line at ≡ option_map (led_tokens (map (text_of line) spans)) (option_map (λ ts. Word (text_of line s) ∷ ts) (option_map (λ ts. Mark m ∷ ts) (tokens_from line e)))
  word_then m h = so_far ∙ ap (option_map (led_tokens (map (text_of line) spans))) (next.stands.tokens ∙ ap (option_map (λ ts. Word (text_of line s) ∷ ts)) (ap (tokens_from line) (sym ends) ∙ h.tokens))

  -- a comma behind an argument
  pub argument_led : Stands line p (Mark 44) e → (tokens_from line at ≡ option_map (led_tokens (map (text_of line) more)) (tokens_from line e)) × AreSymbols (map (text_of line) more)
  argument_led h = (word_then 44 h ∙ led_push (map (text_of line) spans) (text_of line s) (tokens_from line e) ∙ ap (λ xs. option_map (led_tokens xs) (tokens_from line e)) (sym (texts_more line spans more s is)), more_symbols)

  -- the bracket behind the last one
  pub argument_ends : Stands line p (Mark 93) e → AreArgumentsAt line (option_map (λ ts. Mark 91 ∷ ts) (tokens_from line at)) more e
  argument_ends h = record {
    tokens_are = ap (option_map (λ ts. Mark 91 ∷ ts)) (word_then 93 h) ∙ args_end (map (text_of line) spans) (text_of line s) (tokens_from line e) ∙ ap (λ xs. option_map (args_tokens xs) (tokens_from line e)) (sym (texts_more line spans more s is));
    symbols = more_symbols;
    within = h.within;
  }

module _ (line : List ℕ) (at first second end p q : ℕ) (old new : Span) (opens : Stands line at (Mark 40) first) (o : IsSymbolAt line first old) (p_is : p ≡ old.start + old.len) (comma : Stands line p (Mark 44) second)
    (n : IsSymbolAt line second new) (q_is : q ≡ new.start + new.len) (closes : Stands line q (Mark 41) end) (ends : tokens_from line end ≡ Some []) where
  new_on : tokens_from line second ≡ Some (Word (text_of line new) ∷ Mark 41 ∷ [])
  new_on = n.stands.tokens ∙ ap (option_map (λ ts. Word (text_of line new) ∷ ts)) (ap (tokens_from line) (sym q_is) ∙ closes.tokens ∙ ap (option_map (λ ts. Mark 41 ∷ ts)) ends)

  old_on : tokens_from line first ≡ Some (Word (text_of line old) ∷ Mark 44 ∷ Word (text_of line new) ∷ Mark 41 ∷ [])
  old_on = o.stands.tokens ∙ ap (option_map (λ ts. Word (text_of line old) ∷ ts)) (ap (tokens_from line) (sym p_is) ∙ comma.tokens ∙ ap (option_map (λ ts. Mark 44 ∷ ts)) new_on)

  pub change_whole : IsChangeOf line (option_map (λ ts. Mark 58 ∷ ts) (tokens_from line at)) (Some (old, new))
  change_whole = record { tokens_are = ap (option_map (λ ts. Mark 58 ∷ ts)) (opens.tokens ∙ ap (option_map (λ ts. Mark 40 ∷ ts)) old_on); symbols = (o.symbol, n.symbol) }

hash_case : (c : ℕ) (t : Bool) → (c == 35) ≡ t → is_symbol_byte c ≡ true → t ≡ false
hash_case c true e h = absurd (true≢false (sym h ∙ ap is_symbol_byte (eqb-true c 35 e)))
hash_case c false e h = refl

begun : (b : ℕ) (bs : List ℕ) → is_symbol_byte b ≡ true → is_passed_over (b ∷ bs) ≡ false
begun b bs h = (λ i. cond (symbol_no_blank b h i) (is_passed_over bs) (b == 35)) ∙ hash_case b (b == 35) refl h

not_passed : (line : List ℕ) → 1 ≤ prefix_len is_symbol_byte line → is_passed_over line ≡ false
not_passed [] l = absurd (omega arith)
not_passed (b ∷ bs) l = by (is_symbol_byte b) refl
  where
    by : (t : Bool) → is_symbol_byte b ≡ t → is_passed_over (b ∷ bs) ≡ false
    by true e = begun b bs e
    by false e = let none : prefix_len is_symbol_byte (b ∷ bs) ≡ 0 = no_word_first (b ∷ bs) b bs refl e in absurd (omega (arith, none, l))

has_digits : (w : List ℕ) (d : ℕ) → log_number_of w ≡ Some d → 1 ≤ length w
has_digits [] d e = cc
has_digits (b ∷ bs) d e = omega arith

module _ (line : List ℕ) (raw : Raw) (n p at : ℕ) (n_is : n ≡ prefix_len is_symbol_byte line) (within : n ≤ length line) (dated : log_number_of (take n line) ≡ Some raw.date) (name : IsSymbolAt line n raw.name)
    (p_is : p ≡ raw.name.start + raw.name.len) (args : AreArgumentsAt line (tokens_from line p) raw.args at) (change : IsChangeOf line (tokens_from line at) raw.change) where
  long : 1 ≤ n
  long = let l : 1 ≤ length (take n line) = has_digits (take n line) raw.date dated in let size : length (take n line) ≡ n = length-take-le n line within in omega (arith, l, size)

  rest_on : tokens_from line n ≡ Some (Word (text_of line raw.name) ∷ args_tokens (map (text_of line) raw.args) (change_tokens (change_in line raw.change)))
  rest_on = name.stands.tokens ∙ ap (option_map (λ ts. Word (text_of line raw.name) ∷ ts)) (ap (tokens_from line) (sym p_is) ∙ args.tokens_are ∙ ap (option_map (args_tokens (map (text_of line) raw.args))) change.tokens_are)

  all_on : tokens_of is_log_mark line ≡ Some (Word (take n line) ∷ Word (text_of line raw.name) ∷ args_tokens (map (text_of line) raw.args) (change_tokens (change_in line raw.change)))
  all_on = word_at_place line 0 n (omega (arith, n_is)) long ∙ (let same : 0 + n ≡ n = omega arith in ap (λ k. option_map (λ ts. Word (take n line) ∷ ts) (tokens_from line k)) same) ∙ ap (option_map (λ ts. Word (take n line) ∷ ts)) rest_on

  is_event : IsItem line (Happens (event_seen line raw))
  is_event = (_, all_on, record { date = take n line; dated = dated; written = refl; name = name.symbol; args = args.symbols; change = change.symbols })

  pub event_whole : what_of line ≡ Is (Happens (event_seen line raw))
  event_whole = (λ i. cond (not_passed line (omega (arith, n_is, long)) i) Empty (what_is (item_of line))) ∙ ap what_is (item_again line (Happens (event_seen line raw)) is_event)
