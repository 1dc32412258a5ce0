-- What stands in places that ascend: a part of all that stand somewhere.
use Rattle.std.proofs.Common.{◌≡◌, ◌⊎◌, ℕ, zero, suc, ◌<◌, ◌≤◌, List, [], ◌∷◌, ◌++◌, length, map, drop, refl, sym, ap, ◌∙◌, inl, inr, arith}
use Rattle.std.specs.Prelude.{Option, Some, None}
use Rattle.std.specs.Option.{option_to_list}
use Rattle.std.specs.List.{AllByRecursion}
use Rattle.crs_base.specs.Words.{IsIn, Ordered}
use Rattle.crs_base.proofs.Alls.{all_each}
use Rattle.crs_base.proofs.Words.{in_append_left, in_append_right, in_from_each, each_from_in}
use Rattle.crs_store.specs.Forkings.{standing}
use Rattle.crs_living.specs.Slots.{members}
use Rattle.crs_living.proofs.Members.{At}

-- each place is below those after it
abbrev pub Ascends : List ℕ → Type 0
Ascends ps = Ordered (λ p q. p < q) ps

-- the first are some of the others, in their order
abbrev pub IsPart : {A : Type 0} → List A → List A → Type 0
IsPart [] ys = Unit {0}
IsPart (x ∷ xs) [] = ⊥
IsPart (x ∷ xs) (y ∷ ys) = ((x ≡ y) × IsPart xs ys) ⊎ IsPart (x ∷ xs) ys

module _ {A : Type 0} where
  pub part_skip : (xs : List A) (y : A) (ys : List A) → IsPart xs ys → IsPart xs (y ∷ ys)
  part_skip [] y ys h = tt
  part_skip (x ∷ xs) y ys h = inr h

  pub part_in : (xs ys : List A) (a : A) → IsPart xs ys → IsIn a xs → IsIn a ys
  part_in [] ys a h i = absurd i
  part_in (x ∷ xs) [] a h i = absurd h
  part_in (x ∷ xs) (y ∷ ys) a (inl h) (inl e) = inl (e ∙ h.0)
  part_in (x ∷ xs) (y ∷ ys) a (inl h) (inr i) = inr (part_in xs ys a h.1 i)
  part_in (x ∷ xs) (y ∷ ys) a (inr h) i = inr (part_in (x ∷ xs) ys a h i)

  pub part_few : (xs ys : List A) → IsPart xs ys → length xs ≤ length ys
  part_few [] ys h = omega arith
  part_few (x ∷ xs) [] h = absurd h
  part_few (x ∷ xs) (y ∷ ys) (inl h) = let k = part_few xs ys h.1 in omega arith
  part_few (x ∷ xs) (y ∷ ys) (inr h) = let k = part_few (x ∷ xs) ys h in omega arith

  pub part_ordered : (R : A → A → Type 0) (xs ys : List A) → IsPart xs ys → Ordered R ys → Ordered R xs
  part_ordered R [] ys h o = tt
  part_ordered R (x ∷ xs) [] h o = absurd h
  part_ordered R (x ∷ xs) (y ∷ ys) (inl h) o = (each_from_in (R x) xs (λ z i. at_first z (in_from_each (R y) ys o.0 z (part_in xs ys z h.1 i))), part_ordered R xs ys h.1 o.1)
    where
      at_first : (z : A) → R y z → R x z
      at_first z r = rw h.0 r
  part_ordered R (x ∷ xs) (y ∷ ys) (inr h) o = part_ordered R (x ∷ xs) ys h o.1

  pub part_map : {B : Type 0} (f : A → B) (xs ys : List A) → IsPart xs ys → IsPart (map f xs) (map f ys)
  part_map f [] ys h = tt
  part_map f (x ∷ xs) [] h = absurd h
  part_map f (x ∷ xs) (y ∷ ys) (inl h) = inl (ap f h.0, part_map f xs ys h.1)
  part_map f (x ∷ xs) (y ∷ ys) (inr h) = inr (part_map f (x ∷ xs) ys h)

  at_first : (o : Option A) (xs : List (Option A)) (ys : List A) → IsPart ys (members xs) → IsPart (option_to_list o ++ ys) (members (o ∷ xs))
  at_first None xs ys h = h
  at_first (Some a) xs ys h = inl (refl, h)

  skip_first : (o : Option A) (xs : List (Option A)) (ys : List A) → IsPart ys (members xs) → IsPart ys (members (o ∷ xs))
  skip_first None xs ys h = h
  skip_first (Some a) xs ys h = part_skip ys a (members xs) h

  one_place : (xs : List (Option A)) (n p : ℕ) (ys : List A) → n ≤ p → IsPart ys (members (drop (suc p) xs)) → IsPart (option_to_list (At xs p) ++ ys) (members (drop n xs))
  one_place [] zero p ys l h = h
  one_place [] (suc n) p ys l h = h
  one_place (o ∷ xs) zero zero ys l h = at_first o xs ys h
  one_place (o ∷ xs) zero (suc p) ys l h = skip_first o xs (option_to_list (At xs p) ++ ys) (one_place xs zero p ys (omega arith) h)
  one_place (o ∷ xs) (suc n) zero ys l h = absurd (omega arith)
  one_place (o ∷ xs) (suc n) (suc p) ys l h = one_place xs n p ys (omega arith) h

  standing_from : (xs : List (Option A)) (n : ℕ) (ps : List ℕ) → AllByRecursion (λ p. n ≤ p) ps → Ascends ps → IsPart (standing xs ps) (members (drop n xs))
  standing_from xs n [] h o = tt
  standing_from xs n (p ∷ ps) h o = one_place xs n p (standing xs ps) h.0 (standing_from xs (suc p) ps (all_each ps (λ q l. omega arith) o.0) o.1)

  pub standing_part : (xs : List (Option A)) (ps : List ℕ) → Ascends ps → IsPart (standing xs ps) (members xs)
  standing_part xs ps o = standing_from xs 0 ps (each_from_in (λ p. 0 ≤ p) ps (λ p i. omega arith)) o

  pub standing_in : (xs : List (Option A)) (ps : List ℕ) (p : ℕ) (a : A) → IsIn p ps → At xs p ≡ Some a → IsIn a (standing xs ps)
  standing_in xs [] p a i e = absurd i
  standing_in xs (q ∷ ps) p a (inl s) e = in_append_left (option_to_list (At xs q)) (standing xs ps) a (here (At xs q) (ap (At xs) (sym s) ∙ e))
    where
      here : (o : Option A) → o ≡ Some a → IsIn a (option_to_list o)
      here None k = absurd cc
      here (Some b) k = inl (cc)
  standing_in xs (q ∷ ps) p a (inr i) e = in_append_right (option_to_list (At xs q)) (standing xs ps) a (standing_in xs ps p a i e)
