-- The words of a line, and the numbers behind them.
use Rattle.std.proofs.Common.{◌≡◌, ◌∙◌, refl, sym, ap, subst, ℕ, suc, ◌+◌, ◌<◌, Bool, true, false, cond, List, [], ◌∷◌, ◌++◌, length, take, drop, Option, Some, None, arith, append_assoc}
use Rattle.std.specs.Prelude.{if◌then◌else◌, not}
use Rattle.std.specs.List.{prefix_len, onto_first}
use Rattle.std.specs.Option.{option_or, option_map}
use Rattle.crs_base.specs.Lines.{is_blank}
use Rattle.crs_audit.specs.Claims.{is_inner, words_of, is_claim, put_first}

abbrev inner_len : List ℕ → ℕ
inner_len bs = prefix_len is_inner bs

next : (n : ℕ) → suc n ≡ 1 + n
next n = omega arith

-- the first word, and those behind it
pub first_word : (bs : List ℕ) → (more : List (List ℕ)) × (words_of bs ≡ take (prefix_len is_inner bs) bs ∷ more)
first_word [] = ([], refl)
first_word (b ∷ bs) =
    elim (is_blank b) as (λ t. (more : List (List ℕ)) × (cond t ([] ∷ words_of bs) (onto_first b (words_of bs)) ≡ take (cond (not t) (1 + inner_len bs) 0) (b ∷ bs) ∷ more)) [
      | true ↦ (words_of bs, refl)
      | false ↦ (
          let r = first_word bs in (
            r.0,
            subst (λ (k : ℕ). onto_first b (words_of bs) ≡ take k (b ∷ bs) ∷ r.0) (next (inner_len bs)) (ap (onto_first b) r.1),
          )
          )
    ]

pub words_cut : (bs : List ℕ) → prefix_len is_inner bs < length bs
    → words_of bs ≡ take (prefix_len is_inner bs) bs ∷ words_of (drop (prefix_len is_inner bs + 1) bs)
words_cut [] lt = absurd (omega (arith, lt))
words_cut (b ∷ bs) lt =
    (elim (is_blank b) as (λ t. cond (not t) (1 + inner_len bs) 0 < length (b ∷ bs)
    → cond t ([] ∷ words_of bs) (onto_first b (words_of bs)) ≡ take (cond (not t) (1 + inner_len bs) 0) (b ∷ bs) ∷ words_of (drop (cond (not t) (1 + inner_len bs) 0 + 1) (b ∷ bs))) [
      | true ↦ λ l. refl
      | false ↦ λ l.
          (let less : inner_len bs < length bs = omega (arith, l) in
          let e : suc (inner_len bs + 1) ≡ 1 + inner_len bs + 1 = omega arith in
          ap (onto_first b) (words_cut bs less)
          ∙ (λ i. take (next (inner_len bs) i) (b ∷ bs) ∷ words_of (drop (e i) (b ∷ bs))))
    ]) lt

pub words_whole : (bs : List ℕ) → prefix_len is_inner bs ≡ length bs → words_of bs ≡ bs ∷ []
words_whole [] e = refl
words_whole (b ∷ bs) e =
    (elim (is_blank b) as (λ t. cond (not t) (1 + inner_len bs) 0 ≡ length (b ∷ bs)
    → cond t ([] ∷ words_of bs) (onto_first b (words_of bs)) ≡ (b ∷ bs) ∷ []) [
      | true ↦ λ l. absurd (omega (arith, l))
      | false ↦ λ l. (let same : inner_len bs ≡ length bs = omega (arith, l) in ap (onto_first b) (words_whole bs same))
    ]) e

-- whether the second word is `at`: there is none
pub none_second : (bs : List ℕ) → prefix_len is_inner bs ≡ length bs → is_claim (words_of bs) ≡ false
none_second bs e = ap is_claim (words_whole bs e)

-- the last `cites` so far
pub cites_step : {A : Type 0} (o f : Option A) (b : Bool) (x : A)
    → option_or (option_or o (if b then Some x else None)) f ≡ option_or o (if b then Some x else f)
cites_step (Some y) f true x = refl
cites_step (Some y) f false x = refl
cites_step None f true x = refl
cites_step None f false x = refl

-- the numbers so far
pub numbers_step : (xs : List ℕ) (n : ℕ) (o : Option (List ℕ))
    → option_map (λ ns. xs ++ ns) (put_first (Some n) o) ≡ option_map (λ ns. (xs ++ n ∷ []) ++ ns) o
numbers_step xs n None = refl
numbers_step xs n (Some ns) = ap Some (sym (append_assoc xs (n ∷ []) ns))
