-- The places of texts among others.
use Rattle.std.proofs.Common.{◌≡◌, ℕ, ◌+◌, ◌<◌, Bool, true, false, cond, not, nat_lt, List, [], ◌∷◌, length, refl, sym, ap, ◌∙◌, suc, one-add, position, Some, None, option_map, true≢false, arith, ◌||◌}
use Rattle.std.specs.Prelude.{bytes_eq}
use Rattle.std.specs.List.{position_or_len}
use Rattle.crs_base.specs.declared.symbols.Sym.{Sym}
use Rattle.crs_base.specs.Symbols.{text_at, is_known}
use Rattle.crs_base.proofs.Texts.{bytes_same}

place_step : (b : Bool) (u t : List ℕ) (us : List (List ℕ)) (n : ℕ) → (b ≡ true → t ≡ u) → (b || is_known us t) ≡ true → (is_known us t ≡ true → text_at us n ≡ t)
    → text_at (u ∷ us) (cond (not b) (1 + n) 0) ≡ t
place_step true u t us n same h rest = sym (same refl)
place_step false u t us n same h rest = ap (text_at (u ∷ us)) (one-add n) ∙ rest h

-- the text at the place of a text that is there
pub place_text : (texts : List (List ℕ)) (t : List ℕ) → is_known texts t ≡ true → text_at texts (position_or_len (bytes_eq t) texts) ≡ t
place_text [] t h = absurd (true≢false (sym h))
place_text (u ∷ us) t h = place_step (bytes_eq t u) u t us (position_or_len (bytes_eq t) us) (bytes_same t u) h (place_text us t)

within_step : (b r : Bool) (n m : ℕ) → (b || r) ≡ true → (r ≡ true → n < m) → cond (not b) (1 + n) 0 < suc m
within_step true r n m h rest = omega arith
within_step false r n m h rest = let k = rest h in omega (arith, k)

-- its place is one of theirs
pub place_within : (texts : List (List ℕ)) (t : List ℕ) → is_known texts t ≡ true → position_or_len (bytes_eq t) texts < length texts
place_within [] t h = absurd (true≢false (sym h))
place_within (u ∷ us) t h = within_step (bytes_eq t u) (is_known us t) (position_or_len (bytes_eq t) us) (length us) h (place_within us t)

found_by : (b : Bool) (p n : ℕ) (texts : List (List ℕ)) (t : List ℕ) → cond b (Some p) None ≡ Some n → text_at texts p ≡ t → text_at texts n ≡ t
found_by true p n texts t e h = let q : p ≡ n = cc in ap (text_at texts) (sym q) ∙ h
found_by false p n texts t e h = cc

-- the text that a look-up finds
pub found_text : (texts : List (List ℕ)) (t : List ℕ) (s : Sym) → is_known texts t ≡ true → option_map (λ (x : Sym). x.0) (Some s) ≡ position (bytes_eq t) texts → text_at texts s.0 ≡ t
found_text texts t s h e = found_by (nat_lt (position_or_len (bytes_eq t) texts) (length texts)) (position_or_len (bytes_eq t) texts) s.0 texts t (sym e) (place_text texts t h)
