-- The bits of the bound events.
use Rattle.std.proofs.Common.{◌≡◌, ℕ, zero, suc, ◌<◌, ◌+◌, ◌*◌, ◌/◌, ◌%◌, ◌^◌, [], ◌∷◌, length, refl, sym, ap, subst, ◌∙◌, inl, inr, arith}
use Rattle.std.specs.Prelude.{Option, Some, None, is_some, ◌==◌, replicate}
use Rattle.std.specs.List.{list_all}
use Rattle.std.proofs.lemmas.Nat.{shr-shr, div-mul-add}
use Rattle.std.proofs.Math.Nat.{pow-succ'}
use Rattle.std.proofs.lemmas.Bool.Decides.{eqb_tells}
use Rattle.crs_base.specs.declared.symbols.Sym.{Sym}
use Rattle.crs_base.specs.Entry.{Entry}
use Rattle.crs_model.specs.Partial.{Partial, at, put}
use Rattle.crs_model.specs.Bits.{bit_of, HasBits, is_set}
use Rattle.crs_instance.proofs.BindAnswers.{get-replicate}

small : (o : Option (Entry Sym)) → bit_of o < 2
small None = omega arith
small (Some x) = omega arith

shift : (n b e : ℕ) → b < 2 → (2 * n + b) / 2 ^ suc e ≡ n / 2 ^ e
shift n b e l =
    let half : (n * 2 + b) / 2 ≡ n = div-mul-add n 2 b l in
    let turned : 2 * n + b ≡ n * 2 + b = omega arith in
    let pow : 1 + e ≡ suc e = omega arith in
    sym (ap (λ (k : ℕ). (2 * n + b) / 2 ^ k) pow) ∙ sym (shr-shr (2 * n + b) 1 e) ∙ ap (λ (k : ℕ). k / 2 ^ e) (ap (λ (k : ℕ). k / 2) turned ∙ half)

pub bits_none : HasBits [] 0
bits_none e = zero_halves e
  where
    zero_halves : (e : ℕ) → 0 / 2 ^ e % 2 ≡ 0
    zero_halves zero = refl
    zero_halves (suc e) = ap (λ (k : ℕ). k % 2) (shift 0 0 e (omega arith)) ∙ zero_halves e

bits_more : (o : Option (Entry Sym)) (a : Partial Sym) (n : ℕ) → HasBits a n → HasBits (o ∷ a) (2 * n + bit_of o)
bits_more o a n h zero = let s = small o in omega arith
bits_more o a n h (suc e) = ap (λ (k : ℕ). k % 2) (shift n (bit_of o) e (small o)) ∙ h e

-- no event is bound
pub bits_unbound : (n : ℕ) → HasBits (replicate n None) 0
bits_unbound n e = bits_none e ∙ ap bit_of (sym (get-replicate n e None))

-- the first event's bit, and the others'
record IsSplit (o : Option (Entry Sym)) (a : Partial Sym) (n : ℕ) : Type 0 where
  whole : n ≡ 2 * (n / 2) + bit_of o
  rest : HasBits a (n / 2)

split : (o : Option (Entry Sym)) (a : Partial Sym) (n : ℕ) → HasBits (o ∷ a) n → IsSplit o a n
split o a n h = record {
  whole = let b : n / 2 ^ 0 % 2 ≡ bit_of o = h 0 in let c : n / 1 % 2 ≡ bit_of o = b in omega arith;
  rest = λ e.
      let pow : 1 + e ≡ suc e = omega arith in
      ap (λ (k : ℕ). k % 2) (shr-shr n 1 e ∙ ap (λ (k : ℕ). n / 2 ^ k) pow) ∙ h (suc e);
}

-- whether a bit is set
pub set_is_some : (a : Partial Sym) (n e : ℕ) → HasBits a n → is_set n e ≡ is_some (at a e)
set_is_some a n e h = by (at a e) (n / 2 ^ e % 2) (h e)
  where
    by : (o : Option (Entry Sym)) (k : ℕ) → k ≡ bit_of o → (k == 1) ≡ is_some o
    by None k s = rw s refl
    by (Some x) k s = rw s refl

-- one more bit is set
pub record IsSet (a : Partial Sym) (e : ℕ) (x : Entry Sym) (n : ℕ) : Type 0 where
  pub bits : HasBits (put a e x) (n + 2 ^ e)
  pub small : n + 2 ^ e < 2 ^ length a

pub set_more : (a : Partial Sym) (e : ℕ) (x : Entry Sym) (n : ℕ) → HasBits a n → n < 2 ^ length a → at a e ≡ None → e < length a → IsSet a e x n
set_more [] e x n h l free inside = absurd (omega arith)
set_more (o ∷ a) zero x n h l free inside =
    let s = split o a n h in
    let w = s.whole in
    let o_none : bit_of o ≡ 0 = ap bit_of free in
    let is : 2 * (n / 2) + 1 ≡ n + 1 = omega arith in
    record {
      bits = subst (λ (k : ℕ). HasBits (Some x ∷ a) k) is (bits_more (Some x) a (n / 2) s.rest);
      small = let p : 2 ^ suc (length a) ≡ 2 * 2 ^ length a = pow-succ' 2 (length a) in omega arith;
    }
set_more (o ∷ a) (suc e) x n h l free inside =
    let s = split o a n h in
    let w = s.whole in
    let p : 2 ^ suc (length a) ≡ 2 * 2 ^ length a = pow-succ' 2 (length a) in
    let q : 2 ^ suc e ≡ 2 * 2 ^ e = pow-succ' 2 e in
    let low : n / 2 < 2 ^ length a = omega arith in
    let t = set_more a e x (n / 2) s.rest low free (omega arith) in
    let top = t.small in
    let is : 2 * (n / 2 + 2 ^ e) + bit_of o ≡ n + 2 ^ suc e = omega arith in
    let b = small o in
    record {
      bits = subst (λ (k : ℕ). HasBits (o ∷ put a e x) k) is (bits_more o (put a e x) (n / 2 + 2 ^ e) t.bits);
      small = omega arith;
    }

-- all bits are set exactly where each event is bound
pub all_set : (a : Partial Sym) (n : ℕ) → HasBits a n → n < 2 ^ length a → (n + 1 == 2 ^ length a) ≡ list_all (λ o. is_some o) a
all_set [] n h l = let z : n ≡ 0 = omega arith in rw z refl
all_set (None ∷ a) n h l =
    let s = split None a n h in
    let w = s.whole in
    elim (eqb_tells (n + 1) (2 ^ suc (length a))) [
      | inl t ↦ (let e = t.1 in let p : 2 ^ suc (length a) ≡ 2 * 2 ^ length a = pow-succ' 2 (length a) in absurd (omega arith))
      | inr o ↦ o.0
    ]
all_set (Some x ∷ a) n h l =
    let s = split (Some x) a n h in
    let w = s.whole in
    let p : 2 ^ suc (length a) ≡ 2 * 2 ^ length a = pow-succ' 2 (length a) in
    same (n + 1) (2 ^ suc (length a)) (n / 2 + 1) (2 ^ length a) (omega arith) p ∙ all_set a (n / 2) s.rest (omega arith)
  where
    same : (m p k q : ℕ) → m ≡ 2 * k → p ≡ 2 * q → (m == p) ≡ (k == q)
    same m p k q s t = elim (eqb_tells k q) [
      | inl e ↦ elim (eqb_tells m p) [ inl f ↦ f.0 ∙ sym e.0 | inr f ↦ (let g = e.1 in absurd (f.1 (omega arith))) ]
      | inr e ↦ elim (eqb_tells m p) [ inl f ↦ (let g = f.1 in absurd (e.1 (omega arith))) | inr f ↦ f.0 ∙ sym e.0 ]
    ]
