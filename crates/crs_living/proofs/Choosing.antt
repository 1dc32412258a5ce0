-- An event is put behind the others, to be decided on first.
use Rattle.std.proofs.Common.{◌≡◌, ◌≢◌, ℕ, zero, suc, ◌<◌, List, [], ◌∷◌, ◌++◌, length, take, drop, get_or, refl, sym, ap, subst, inl, inr, arith, length-append}
use Rattle.crs_base.specs.Words.{IsIn, Ordered}
use Rattle.crs_base.proofs.Words.{each_from_in, in_append, in_append_left, in_append_right, in_from_each, ordered_append}
use Rattle.crs_focus.specs.PlanLevels.{AreAwaited, KeepsAwaited}

-- with the event behind the others, the list has the same events
record IsTakenOut (xs rest : List ℕ) (e : ℕ) : Type 0 where
  pub into : (f : ℕ) → IsIn f xs → IsIn f (rest ++ e ∷ [])
  pub back : (f : ℕ) → IsIn f (rest ++ e ∷ []) → IsIn f xs
  pub apart : Ordered (λ d f. d ≢ f) xs → Ordered (λ d f. d ≢ f) (rest ++ e ∷ [])
  pub long : length (rest ++ e ∷ []) ≡ length xs

module _ (e : ℕ) (back : List ℕ) where
  apart_without : (front : List ℕ) → Ordered (λ d f. d ≢ f) (front ++ e ∷ back) → Ordered (λ d f. d ≢ f) (front ++ back)
  apart_without [] o = o.1
  apart_without (d ∷ front) o = (each_from_in (λ f. d ≢ f) (front ++ back) (λ f i. in_from_each (λ g. d ≢ g) (front ++ e ∷ back) o.0 f (with_it f i)), apart_without front o.1)
    where
      with_it : (f : ℕ) → IsIn f (front ++ back) → IsIn f (front ++ e ∷ back)
      with_it f i = elim (in_append front back f i) [ inl k ↦ in_append_left front (e ∷ back) f k | inr k ↦ in_append_right front (e ∷ back) f (inr k) ]

  apart_from_it : (front : List ℕ) → Ordered (λ d f. d ≢ f) (front ++ e ∷ back) → (x : ℕ) → IsIn x (front ++ back) → x ≢ e
  apart_from_it [] o x i s = in_from_each (λ f. e ≢ f) back o.0 x i (sym s)
  apart_from_it (d ∷ front) o x (inl q) s = in_from_each (λ f. d ≢ f) (front ++ e ∷ back) o.0 e (in_append_right front (e ∷ back) e (inl refl)) (subst (λ (t : ℕ). t ≡ e) q s)
  apart_from_it (d ∷ front) o x (inr k) s = apart_from_it front o.1 x k s

  around : (front : List ℕ) → IsTakenOut (front ++ e ∷ back) (front ++ back) e
  around front = record {
    into = λ f i. elim (in_append front (e ∷ back) f i) [
      | inl k ↦ in_append_left (front ++ back) (e ∷ []) f (in_append_left front back f k)
      | inr k ↦ elim k [
        | inl s ↦ in_append_right (front ++ back) (e ∷ []) f (inl s)
        | inr m ↦ in_append_left (front ++ back) (e ∷ []) f (in_append_right front back f m)
      ]
    ];
    back = λ f i. elim (in_append (front ++ back) (e ∷ []) f i) [
      | inl k ↦ elim (in_append front back f k) [ inl m ↦ in_append_left front (e ∷ back) f m | inr m ↦ in_append_right front (e ∷ back) f (inr m) ]
      | inr k ↦ elim k [ inl s ↦ in_append_right front (e ∷ back) f (inl s) | inr never ↦ absurd never ]
    ];
    apart = λ o. ordered_append (λ d f. d ≢ f) (front ++ back) (e ∷ []) (apart_without front o) (tt, tt) (λ x y i j s. elim j [ inl q ↦ apart_from_it front o x i (subst (λ (t : ℕ). x ≡ t) q s) | inr never ↦ never ]);
    long = omega (arith, length-append (front ++ back) (e ∷ []), length-append front back, length-append front (e ∷ back));
  }

split_at : (xs : List ℕ) (p e : ℕ) → p < length xs → e ≡ get_or xs p e → xs ≡ take p xs ++ e ∷ drop (suc p) xs
split_at [] p e l is = absurd (omega arith)
split_at (x ∷ xs) zero e l is = ap (λ (t : ℕ). t ∷ xs) (sym is)
split_at (x ∷ xs) (suc p) e l is = ap (λ (t : List ℕ). x ∷ t) (split_at xs p e (omega arith) is)

taken_out : (xs rest : List ℕ) (p e : ℕ) → p < length xs → e ≡ get_or xs p e → rest ≡ take p xs ++ drop (suc p) xs → IsTakenOut xs rest e
taken_out xs rest p e l is are =
    subst (λ (t : List ℕ). IsTakenOut xs t e) (sym are) (subst (λ (t : List ℕ). IsTakenOut t (take p xs ++ drop (suc p) xs) e) (sym (split_at xs p e l is)) (around e (drop (suc p) xs) (take p xs)))

-- they are awaited in any order
pub awaited_last : (xs rest : List ℕ) (p e : ℕ) (new : List ℕ) → p < length xs → e ≡ get_or xs p e → rest ≡ take p xs ++ drop (suc p) xs → new ≡ rest ++ e ∷ [] → KeepsAwaited xs new
awaited_last xs rest p e new l is are s level a n todo =
    let out = taken_out xs rest p e l is are in
    subst (AreAwaited level a n) (sym s) (record {
      each = λ f i. todo.each f (out.back f i);
      below = λ f i. todo.below f (out.back f i);
      all = λ f m w. out.into f (todo.all f m w);
      apart = out.apart todo.apart;
      few = let k = todo.few in let m = out.long in omega arith;
    })
