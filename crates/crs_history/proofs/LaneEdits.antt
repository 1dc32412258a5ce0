-- Lists by number, where one is replaced or an empty one is added.
use Rattle.std.proofs.Common.{◌≡◌, ℕ, ◌<◌, List, [], ◌∷◌, ◌++◌, length, map, take, get_or, set, refl, sym, ap, ◌∙◌, zero, suc, arith, inl, inr, ◌-◌, ◌+◌}
use Rattle.std.proofs.Math.Seq.{take-append_seam}
use Rattle.std.proofs.lemmas.Bool.{cases_eq}
use Rattle.std.proofs.lemmas.List.{get_or-map, length-append}
use Rattle.crs_history.specs.Lanes.{lane_of, AreAlike, IsSetTo}

pub long_as : {A B : Type 0} (f : A → B) (xs : List A) → length (map f xs) ≡ length xs
long_as f [] = refl
long_as f (x ∷ xs) = ap suc (long_as f xs)

module _ {A Q : Type 0} (f : Q → List A) where
  pub lane_here : (xs : List Q) (i : ℕ) (d : Q) → i < length xs → lane_of (map f xs) i ≡ f (get_or xs i d)
  lane_here xs i d h = get_or-map f xs i d [] h

  pub lane_set_here : (xs : List Q) (i : ℕ) (q : Q) → i < length xs → lane_of (map f (set xs i q)) i ≡ f q
  lane_set_here [] i q h = absurd (omega arith)
  lane_set_here (x ∷ xs) zero q h = refl
  lane_set_here (x ∷ xs) (suc i) q h = lane_set_here xs i q (omega arith)

  pub lane_set_other : (xs : List Q) (i n : ℕ) (q : Q) → (n ≡ i → ⊥) → lane_of (map f (set xs i q)) n ≡ lane_of (map f xs) n
  lane_set_other [] i n q h = refl
  lane_set_other (x ∷ xs) zero zero q h = absurd (h refl)
  lane_set_other (x ∷ xs) zero (suc n) q h = refl
  lane_set_other (x ∷ xs) (suc i) zero q h = refl
  lane_set_other (x ∷ xs) (suc i) (suc n) q h = lane_set_other xs i n q (λ e. h (ap suc e))

  -- a queue is replaced
  pub lane_put : (xs : List Q) (i : ℕ) (q : Q) (lane : List A) → i < length xs → f q ≡ lane → IsSetTo (map f xs) i lane (map f (set xs i q))
  lane_put xs i q lane h e = (lane_set_here xs i q h ∙ e, λ n ne. lane_set_other xs i n q ne)

  -- an empty queue is added
  pub lane_opened : (xs : List Q) (q : Q) → f q ≡ [] → AreAlike (map f xs) (map f (xs ++ q ∷ []))
  lane_opened [] q e zero = e
  lane_opened [] q e (suc n) = refl
  lane_opened (x ∷ xs) q e zero = refl
  lane_opened (x ∷ xs) q e (suc n) = lane_opened xs q e n

module _ {A : Type 0} where
  pub alike_set : (a b c : List (List A)) (i : ℕ) (lane : List A) → AreAlike a b → IsSetTo b i lane c → IsSetTo a i lane c
  alike_set a b c i lane h k = (k.0, λ n ne. k.1 n ne ∙ h n)

  -- what is set to the list that it had
  pub alike_same : (a b c : List (List A)) (i : ℕ) → AreAlike a b → IsSetTo b i (lane_of b i) c → AreAlike a c
  alike_same a b c i h k n = elim (cases_eq n i) [ inl e ↦ ap (lane_of c) e ∙ k.0 ∙ ap (lane_of b) (sym e) ∙ h n | inr ne ↦ k.1 n ne ∙ h n ]

  -- a list without its last
  pub last_off : (xs ys : List A) (e : A) (n : ℕ) → n ≡ length xs - 1 → xs ≡ ys ++ e ∷ [] → take n xs ≡ ys
  last_off xs ys e n long is =
      let l : length xs ≡ length ys + 1 = ap length is ∙ length-append ys (e ∷ []) in
      let m : n ≡ length ys = omega arith in
      ap (λ k. take k xs) m ∙ ap (take (length ys)) is ∙ take-append_seam ys (e ∷ [])
