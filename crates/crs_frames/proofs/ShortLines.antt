-- A line that is given whole is short, and after the end nothing is left.
use Rattle.std.proofs.Common.{◌≡◌, ◌≤◌, ℕ, ◌+◌, Bool, true, false, cond, List, [], ◌∷◌, ◌++◌, length, refl, sym, subst, arith, eqb, get_or, take, ◌-◌, length-take-le}
use Rattle.std.specs.Prelude.{if◌then◌else◌}
use Rattle.std.specs.Str.Lines.{strip_carriage_return}
use Rattle.std.proofs.lemmas.Bool.{ltb-false}
use Rattle.crs_base.specs.Lines.{Line, lines_of, bytes_of, is_longer}
use Rattle.crs_log.specs.Reading.{Reader, Given, Plain, Long, Gives, given_line, given_lines, ahead}
use Rattle.crs_frames.specs.TableTexts.{IsShort}

-- a line that is given whole is no longer than the limit
abbrev IsShortBy : ℕ → Given → Type 0
IsShortBy limit (Long n) = Unit {0}
IsShortBy limit (Plain n bytes) = length bytes ≤ limit

stripped : (raw : List ℕ) → length (strip_carriage_return raw) ≤ length raw
stripped raw = by (eqb (get_or raw (length raw - 1) 0) 13)
  where
    by : (b : Bool) → length (cond b (take (length raw - 1) raw) raw) ≤ length raw
    by true = omega (arith, length-take-le (length raw - 1) raw)
    by false = omega arith

bytes_short : (limit : ℕ) (l : Line) → length l.raw ≤ limit → length (bytes_of l) ≤ limit
bytes_short limit l h = by l.ended
  where
    by : (b : Bool) → length (if b then strip_carriage_return l.raw else l.raw) ≤ limit
    by true = let s = stripped l.raw in omega arith
    by false = h

line_by : (limit n : ℕ) (l : Line) (b : Bool) → is_longer limit l ≡ b → IsShortBy limit (cond b (Long n) (Plain n (bytes_of l)))
line_by limit n l true e = tt
line_by limit n l false e = bytes_short limit l (ltb-false limit (length l.raw) e)

line_short : (limit n : ℕ) (l : Line) → IsShortBy limit (given_line limit n l)
line_short limit n l = line_by limit n l (is_longer limit l) refl

first_short : (limit n : ℕ) (ls : List Line) (g : Given) (gs : List Given) → given_lines limit n ls ≡ g ∷ gs → IsShortBy limit g
first_short limit n [] g gs e = absurd (cc)
first_short limit n (l ∷ ls) g gs e =
    let same : given_line limit (n + 1) l ≡ g = cc in
    subst (IsShortBy limit) same (line_short limit (n + 1) l)

same_short : (g : Given) → IsShortBy 4096 g → IsShort g
same_short (Long n) h = tt
same_short (Plain n bytes) h = h

pub given_short : (old new : Reader) (g : Given) → old.limit ≡ 4096 → Gives old g new → IsShort g
given_short old new g e h =
    let first = h.ahead [] (λ q. refl) in
    (same_short g (subst (λ (n : ℕ). IsShortBy n g) e (first_short old.limit old.number (lines_of (old.rest ++ [])) g (ahead new []) first)))

pub no_rest : (b : Bool) (rest : List ℕ) → b ≡ true → (if b then [] else rest) ≡ rest → rest ≡ []
no_rest true rest e h = sym h
no_rest false rest e h = cc
