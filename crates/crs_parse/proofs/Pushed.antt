-- A step of a loop that puts what it makes of each element behind the others.
use Rattle.std.proofs.Common.{◌≡◌, ℕ, ◌+◌, ◌<◌, List, [], ◌∷◌, ◌++◌, map, drop, length, get_or, sym, ap, subst, ◌∙◌, suc, add-one, append_assoc, drop-cons}
use Rattle.std.specs.List.{AllByRecursion}
use Rattle.std.proofs.lemmas.List.{map-append}

module _ {X Y Z W V : Type 0} (r : Y → W) (v : X → Y) (m : Z → W) (s : V → Z) where
  pub pushed_step : (out new : List X) (x : X) (xs : List V) (d : V) (i : ℕ) (all : List W) → new ≡ out ++ x ∷ [] → r (v x) ≡ m (s d) → d ≡ get_or xs i d → i < length xs
      → map r (map v out) ++ map m (map s (drop i xs)) ≡ all → map r (map v new) ++ map m (map s (drop (i + 1) xs)) ≡ all
  pushed_step out new x xs d i all pushed made is within before =
      let first : map r (map v new) ≡ map r (map v out) ++ r (v x) ∷ [] = ap (λ l. map r (map v l)) pushed ∙ ap (map r) (map-append v out (x ∷ [])) ∙ map-append r (map v out) (v x ∷ []) in
      let last : get_or xs i d ∷ drop (suc i) xs ≡ drop i xs = rw (drop-cons xs i d) in
      let behind : d ∷ drop (i + 1) xs ≡ drop i xs = ap (λ n. d ∷ drop n xs) (add-one i) ∙ ap (λ e. e ∷ drop (suc i) xs) is ∙ last in
      ap (λ l. l ++ map m (map s (drop (i + 1) xs))) first
      ∙ append_assoc (map r (map v out)) (r (v x) ∷ []) (map m (map s (drop (i + 1) xs)))
      ∙ ap (λ w. map r (map v out) ++ w ∷ map m (map s (drop (i + 1) xs))) made
      ∙ ap (λ l. map r (map v out) ++ map m (map s l)) behind
      ∙ before

-- what holds of those that are left
pub held_step : {Z V : Type 0} (P : Z → Type 0) (s : V → Z) (xs : List V) (d : V) (i : ℕ) → i < length xs → AllByRecursion P (map s (drop i xs)) → AllByRecursion P (map s (drop (i + 1) xs))
held_step P s xs d i within h =
    let last : get_or xs i d ∷ drop (suc i) xs ≡ drop i xs = rw (drop-cons xs i d) in
    let all : AllByRecursion P (map s (get_or xs i d ∷ drop (suc i) xs)) = subst (λ l. AllByRecursion P (map s l)) (sym last) h in
    subst (λ n. AllByRecursion P (map s (drop n xs))) (sym (add-one i)) all.1
