-- The symbols that a binding keeps.
use Rattle.std.proofs.Common.{◌≡◌, ℕ, zero, suc, ◌<◌, ◌≤◌, ◌+◌, ◌*◌, ◌/◌, ◌%◌, ◌^◌, List, [], ◌∷◌, length, refl, ap, ◌∙◌, arith}
use Rattle.std.specs.Prelude.{Option, Some, None, ◌==◌, cond, replicate, slice_set, slice_index_or}
use Rattle.std.specs.Int.Bits.{bit_or, or_zero_r}
use Rattle.std.proofs.lemmas.Nat.{shr-shr, or_shr, or_mod, shl_whole}
use Rattle.std.proofs.Math.Nat.{pow-succ'}
use Rattle.crs_base.specs.declared.symbols.Sym.{Sym}
use Rattle.crs_model.specs.Bindings.{look_of}
use Rattle.crs_model.specs.Bits.{is_set}
use Rattle.crs_model.specs.Held.{held}

pub held_none : (n : ℕ) (symbols : List Sym) → n ≤ length symbols → held n symbols 0 ≡ replicate n None
held_none zero symbols l = refl
held_none (suc n) [] l = absurd (omega arith)
held_none (suc n) (s ∷ symbols) l = ap (λ (t : List (Option Sym)). None ∷ t) (held_none n symbols (omega arith))

pub held_len : (n : ℕ) (symbols : List Sym) (bound : ℕ) → length (held n symbols bound) ≤ n
held_len zero symbols bound = omega arith
held_len (suc n) [] bound = omega arith
held_len (suc n) (s ∷ symbols) bound = let l = held_len n symbols (bound / 2) in omega arith

pub held_beyond : (n : ℕ) (symbols : List Sym) (bound i : ℕ) → n ≤ i → look_of (held n symbols bound) i ≡ None
held_beyond zero symbols bound i l = refl
held_beyond (suc n) [] bound i l = refl
held_beyond (suc n) (s ∷ symbols) bound zero l = absurd (omega arith)
held_beyond (suc n) (s ∷ symbols) bound (suc i) l = held_beyond n symbols (bound / 2) i (omega arith)

next_bit : (n i : ℕ) → n / 2 / 2 ^ i ≡ n / 2 ^ suc i
next_bit n i = let pow : 1 + i ≡ suc i = omega arith in shr-shr n 1 i ∙ ap (λ (k : ℕ). n / 2 ^ k) pow

pub held_at : (n : ℕ) (symbols : List Sym) (bound i : ℕ) (d : Sym) → i < n → n ≤ length symbols → look_of (held n symbols bound) i ≡ cond (is_set bound i) (Some (slice_index_or symbols i d)) None
held_at zero symbols bound i d l w = absurd (omega arith)
held_at (suc n) [] bound i d l w = absurd (omega arith)
held_at (suc n) (s ∷ symbols) bound zero d l w = let one : bound ≡ bound / 1 = omega arith in ap (λ (k : ℕ). cond (k % 2 == 1) (Some s) None) one
held_at (suc n) (s ∷ symbols) bound (suc i) d l w =
    held_at n symbols (bound / 2) i d (omega arith) (omega arith) ∙ ap (λ (k : ℕ). cond (k % 2 == 1) (Some (slice_index_or symbols i d)) None) (next_bit bound i)

-- one more bit, of the first place or of a further one
first_odd : (b : ℕ) → bit_or b 1 % 2 ≡ 1
first_odd b = or_mod b 1 1 ∙ by (b % 2) (omega arith)
  where
    by : (k : ℕ) → k < 2 → bit_or k 1 ≡ 1
    by zero l = refl
    by (suc zero) l = refl
    by (suc (suc k)) l = absurd (omega arith)

first_rest : (b : ℕ) → bit_or b 1 / 2 ≡ b / 2
first_rest b = or_shr b 1 1 ∙ or_zero_r (b / 2)

further_even : (b i : ℕ) → bit_or b (2 ^ suc i) % 2 ≡ b % 2
further_even b i =
    let p : 2 ^ suc i ≡ 2 * 2 ^ i = pow-succ' 2 i in
    let even : 2 ^ suc i % 2 ≡ 0 = omega arith in or_mod b (2 ^ suc i) 1 ∙ ap (bit_or (b % 2)) even ∙ or_zero_r (b % 2)

further_rest : (b i : ℕ) → bit_or b (2 ^ suc i) / 2 ≡ bit_or (b / 2) (2 ^ i)
further_rest b i =
    let p : 2 ^ suc i ≡ 2 * 2 ^ i = pow-succ' 2 i in
    let half : 2 ^ suc i / 2 ≡ 2 ^ i = omega arith in or_shr b (2 ^ suc i) 1 ∙ ap (bit_or (b / 2)) half

pub held_more : (n : ℕ) (symbols : List Sym) (bound i : ℕ) (s : Sym) → held n (slice_set symbols i s) (bit_or bound (2 ^ i)) ≡ slice_set (held n symbols bound) i (Some s)
held_more zero symbols bound i s = refl
held_more (suc n) [] bound i s = refl
held_more (suc n) (y ∷ symbols) bound zero s =
    ap (λ (k : ℕ). cond (k == 1) (Some s) None ∷ held n symbols (bit_or bound 1 / 2)) (first_odd bound) ∙ ap (λ (k : ℕ). Some s ∷ held n symbols k) (first_rest bound)
held_more (suc n) (y ∷ symbols) bound (suc i) s =
    ap (λ (k : ℕ). cond (k == 1) (Some y) None ∷ held n (slice_set symbols i s) (bit_or bound (2 ^ suc i) / 2)) (further_even bound i)
    ∙ ap (λ (k : ℕ). cond (bound % 2 == 1) (Some y) None ∷ held n (slice_set symbols i s) k) (further_rest bound i)
    ∙ ap (λ (t : List (Option Sym)). cond (bound % 2 == 1) (Some y) None ∷ t) (held_more n symbols (bound / 2) i s)

-- the bit that is set
pub one_bit : (i : ℕ) → i < 16 → (1 * 2 ^ i) % 65536 ≡ 2 ^ i
one_bit i l = let w = shl_whole 1 1 i 16 (omega arith) (omega arith) in omega arith

pub held_set : (n : ℕ) (symbols : List Sym) (bound i : ℕ) (s : Sym) → i < 16 → held n (slice_set symbols i s) (bit_or bound ((1 * 2 ^ i) % 65536)) ≡ slice_set (held n symbols bound) i (Some s)
held_set n symbols bound i s l = ap (λ (k : ℕ). held n (slice_set symbols i s) (bit_or bound k)) (one_bit i l) ∙ held_more n symbols bound i s

-- a variable that is looked at is one of 16
pub below_16 : (n : ℕ) (symbols : List Sym) (bound i : ℕ) (all : List (Option Sym)) → held n symbols bound ≡ all → n ≤ 16 → i < length all → i < 16
below_16 n symbols bound i all same few inside = let l = held_len n symbols bound in let s = ap length same in omega arith
