-- Tables of texts of which no two are equal.
use Rattle.std.proofs.Common.{◌≡◌, ℕ, suc, ◌+◌, ◌≤◌, Bool, true, false, cond, ◌||◌, List, [], ◌∷◌, length, refl, sym, ap, ◌∙◌, true≢false, arith}
use Rattle.std.specs.Prelude.{bytes_eq}
use Rattle.std.specs.List.{AllByRecursion}
use Rattle.std.proofs.lemmas.Bool.{or_parts}
use Rattle.crs_base.specs.Symbols.{is_known, with_texts}
use Rattle.crs_base.proofs.Texts.{bytes_same}
use Rattle.crs_base.proofs.DistinctTexts.{Distinct, with_distinct}
use Rattle.crs_base.proofs.WithTexts.{all_with}

-- distinct texts, all among these
pub record IsTable (texts table : List (List ℕ)) : Type 0 where
  pub distinct : Distinct table
  pub within : AllByRecursion (λ t. is_known texts t ≡ true) table

pub table_more : (texts table ts : List (List ℕ)) → AllByRecursion (λ t. is_known texts t ≡ true) ts → IsTable texts table → IsTable texts (with_texts table ts)
table_more texts table ts k h = record { distinct = with_distinct table ts h.distinct; within = all_with (λ t. is_known texts t ≡ true) table ts h.within k }

-- less the first text that is t
without : List ℕ → List (List ℕ) → List (List ℕ)
without t [] = []
without t (u ∷ us) = cond (bytes_eq t u) us (u ∷ without t us)

shorter_by : (t u : List ℕ) (us : List (List ℕ)) (b : Bool) → bytes_eq t u ≡ b → (b || is_known us t) ≡ true → (is_known us t ≡ true → length (without t us) + 1 ≡ length us) → length (cond b us (u ∷ without t us)) + 1 ≡ suc (length us)
shorter_by t u us true e h rest = omega arith
shorter_by t u us false e h rest = let k = rest h in omega (arith, k)

shorter : (t : List ℕ) (us : List (List ℕ)) → is_known us t ≡ true → length (without t us) + 1 ≡ length us
unfolding without
shorter t [] h = cc
shorter t (u ∷ us) h = shorter_by t u us (bytes_eq t u) refl h (shorter t us)

stays_by : (t v u : List ℕ) (us : List (List ℕ)) (b : Bool) → bytes_eq t u ≡ b → bytes_eq t v ≡ false → (bytes_eq v u || is_known us v) ≡ true → (is_known us v ≡ true → is_known (without t us) v ≡ true) → is_known (cond b us (u ∷ without t us)) v ≡ true
stays_by t v u us true e n h rest = by (bytes_eq v u) refl h
  where
    by : (a : Bool) → bytes_eq v u ≡ a → (a || is_known us v) ≡ true → is_known us v ≡ true
    by true q g = absurd (true≢false (sym (ap (λ x. bytes_eq t x) (bytes_same v u q) ∙ e) ∙ n))
    by false q g = g
stays_by t v u us false e n h rest = by (bytes_eq v u) h
  where
    by : (a : Bool) → (a || is_known us v) ≡ true → (a || is_known (without t us) v) ≡ true
    by true g = refl
    by false g = rest g

stays : (t v : List ℕ) (us : List (List ℕ)) → bytes_eq t v ≡ false → is_known us v ≡ true → is_known (without t us) v ≡ true
unfolding without
stays t v [] n h = h
stays t v (u ∷ us) n h = stays_by t v u us (bytes_eq t u) refl n h (stays t v us n)

stay : (t : List ℕ) (us vs : List (List ℕ)) → is_known vs t ≡ false → AllByRecursion (λ v. is_known us v ≡ true) vs → AllByRecursion (λ v. is_known (without t us) v ≡ true) vs
stay t us [] n h = tt
stay t us (v ∷ vs) n h = let k = or_parts (bytes_eq t v) (is_known vs t) n in (stays t v us k.0 h.0, stay t us vs k.1 h.1)

-- distinct texts among others are at most as many
pub table_few : (table texts : List (List ℕ)) → Distinct table → AllByRecursion (λ t. is_known texts t ≡ true) table → length table ≤ length texts
table_few [] texts d h = omega arith
table_few (t ∷ ts) texts d h =
    let a = table_few ts (without t texts) d.1 (stay t texts ts d.0 h.1) in
    let b = shorter t texts h.0 in
    omega (arith, a, b)
