-- Hooks of lists.
use Rattle.std.proofs.Common.{◌≡◌, ℕ, zero, suc, ◌<◌, ◌+◌, List, [], ◌∷◌, ◌++◌, length, take, map, get_or, refl, sym, ap, subst, arith, add-one, length-append}
use Rattle.std.proofs.lemmas.List.{take_all}
use Rattle.std.specs.Prelude.{Some, IfSome, slice_get}
use Rattle.std.specs.List.{AllZip}
use Rattle.crs_waiting.specs.declared.hooks.Hook.{Hook}
use Rattle.crs_waiting.specs.Orders.{AllBefore}

module _ {X A B : Type 0} (R : A → B → Type 0) (f : X → A) where
  zip_suc : (xs : List X) (k : ℕ) (x : X) (ys : List B) (y : B) → k < length xs → x ≡ get_or xs k x → AllZip R (take k (map f xs)) ys → R (f x) y → AllZip R (take (suc k) (map f xs)) (ys ++ y ∷ [])
  zip_suc [] k x ys y l e h r = absurd (omega arith)
  zip_suc (z ∷ xs) zero x [] y l e h r = (subst (λ (t : X). R (f t) y) e r, tt)
  zip_suc (z ∷ xs) zero x (w ∷ ys) y l e h r = absurd h
  zip_suc (z ∷ xs) (suc k) x [] y l e h r = absurd h
  zip_suc (z ∷ xs) (suc k) x (w ∷ ys) y l e h r = (h.0, zip_suc xs k x ys y (omega arith) e h.1 r)

  pub zip_more : (xs : List X) (k : ℕ) (x : X) (ys news : List B) (y : B) → k < length xs → x ≡ get_or xs k x → news ≡ ys ++ y ∷ [] → AllZip R (take k (map f xs)) ys → R (f x) y → AllZip R (take (k + 1) (map f xs)) news
  zip_more xs k x ys news y l e n h r = rw (n, add-one) (zip_suc xs k x ys y l e h r)

  take_whole : (xs : List X) (k : ℕ) → k ≡ length xs → take k (map f xs) ≡ map f xs
  take_whole [] zero e = refl
  take_whole [] (suc k) e = refl
  take_whole (x ∷ xs) zero e = absurd (omega arith)
  take_whole (x ∷ xs) (suc k) e = ap (λ (t : List A). f x ∷ t) (take_whole xs k (omega arith))

  pub zip_all : (xs : List X) (k : ℕ) (ys : List B) → k ≡ length xs → AllZip R (take k (map f xs)) ys → AllZip R (map f xs) ys
  zip_all xs k ys e h = subst (λ (t : List A). AllZip R t ys) (take_whole xs k e) h

-- as many as what they are hooks of
pub zip_long : {A B : Type 0} (R : A → B → Type 0) (xs : List A) (ys : List B) → AllZip R xs ys → length ys ≡ length xs
zip_long R [] [] z = refl
zip_long R [] (y ∷ ys) z = absurd z
zip_long R (x ∷ xs) [] z = absurd z
zip_long R (x ∷ xs) (y ∷ ys) z = ap suc (zip_long R xs ys z.1)

-- one more, at its place
zip_at : {A B : Type 0} (R : A → B → Type 0) (xs : List A) (k : ℕ) (ys : List B) (y : B) → k < length xs → IfSome (slice_get xs k) (λ x. R x y) → AllZip R (take k xs) ys → AllZip R (take (suc k) xs) (ys ++ y ∷ [])
zip_at R [] k ys y l r z = absurd (omega arith)
zip_at R (x ∷ xs) zero [] y l r z = (r, tt)
zip_at R (x ∷ xs) zero (w ∷ ys) y l r z = absurd z
zip_at R (x ∷ xs) (suc k) [] y l r z = absurd z
zip_at R (x ∷ xs) (suc k) (w ∷ ys) y l r z = (z.0, zip_at R xs k ys y (omega arith) r z.1)

-- the hook of each event so far, and what comes before it
pub record AreHooked {A : Type 0} (R : A → Hook → Type 0) (P : ℕ → ℕ → Type 0) (xs : List A) (k : ℕ) (hooks : List Hook) : Type 0 where
  pub zip : AllZip R (take k xs) hooks
  pub befores : AllBefore P hooks
  pub len : length hooks ≡ k

before_more : (P : ℕ → ℕ → Type 0) (hooks : List Hook) (hook : Hook) → AllBefore P hooks → ((f : ℕ) → hook.before ≡ Some f → P (length hooks) f) → AllBefore P (hooks ++ hook ∷ [])
before_more P [] hook all one zero f b = one f b
before_more P [] hook all one (suc e) f b = absurd cc
before_more P (g ∷ hooks) hook all one zero f b = all zero f b
before_more P (g ∷ hooks) hook all one (suc e) f b = before_more (λ n. P (suc n)) hooks hook (λ n. all (suc n)) one e f b

module _ {A : Type 0} (R : A → Hook → Type 0) (P : ℕ → ℕ → Type 0) (xs : List A) where
  pub hooked_none : (hooks : List Hook) → hooks ≡ [] → AreHooked R P xs 0 hooks
  hooked_none hooks none = rw none (record { zip = tt; befores = λ e f b. absurd cc; len = refl })

  pub hooked_more : (k : ℕ) (hooks news : List Hook) (hook : Hook) → k < length xs → IfSome (slice_get xs k) (λ x. R x hook) → ((f : ℕ) → hook.before ≡ Some f → P k f) → news ≡ hooks ++ hook ∷ [] → AreHooked R P xs k hooks → AreHooked R P xs (k + 1) news
  hooked_more k hooks news hook l r b is h = rw (is, add-one) (record {
    zip = zip_at R xs k hooks hook l r h.zip;
    befores = before_more P hooks hook h.befores (λ f n. subst (λ (m : ℕ). P m f) (sym h.len) (b f n));
    len = let a = length-append hooks (hook ∷ []) in let b = h.len in omega (arith, a, b);
  })

  pub hooked_zip : (k : ℕ) (hooks : List Hook) → k ≡ length xs → AreHooked R P xs k hooks → AllZip R xs hooks
  hooked_zip k hooks e h = subst (λ (t : List A). AllZip R t hooks) (take_all k xs (omega arith)) h.zip
