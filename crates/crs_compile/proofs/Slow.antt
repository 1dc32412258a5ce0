-- Lags that are too long.
use Rattle.std.proofs.Common.{◌≡◌, ◌⊎◌, inl, inr, refl, sym, subst, ◌∙◌, ap, ℕ, zero, suc, ◌<◌, ◌≤◌, List, [], ◌∷◌, map, zip, length, Option, None, max, arith}
use Rattle.std.specs.Prelude.{ℤ, take}
use Rattle.std.specs.declared.rc.Rc.{Rc}
use Rattle.std.specs.Global.{Global}
use Rattle.std.specs.List.{AllByRecursion, AllZip}
use Rattle.std.proofs.lemmas.List.{length-map}
use Rattle.crs_base.specs.Words.{IsIn}
use Rattle.crs_base.proofs.Words.{in_from_each}
use Rattle.crs_model.specs.declared.limits.TheConstants.{TICK_LIMIT}
use Rattle.crs_model.specs.declared.plan.Plan.{Plan}
use Rattle.crs_model.specs.declared.chronicle.Chronicle.{Chronicle}
use Rattle.crs_model.specs.Hierarchy.{IsGreatest, AreInOrder, AreStrata, lag_below}
use Rattle.crs_model.specs.Plans.{IsProper, chronicle}
use Rattle.crs_model.specs.Reach.{IsSmallSpan}
use Rattle.crs_model.specs.SeenModels.{chronicle_of}
use Rattle.crs_model.proofs.Heights.{greatest_joined}
use Rattle.crs_compile.specs.Compiled.{plans_in, chronicles_in}
use Rattle.crs_model.specs.ShortLags.{AreSlow, first_lags}

zip_lefts : {A B : Type 0} (xs : List A) (ys : List B) → length xs ≡ length ys → map (λ c. c.0) (zip xs ys) ≡ xs
zip_lefts [] ys e = refl
zip_lefts (x ∷ xs) [] e = absurd (cc)
zip_lefts (x ∷ xs) (y ∷ ys) e = let k : length xs ≡ length ys = cc in ap (λ l. x ∷ l) (zip_lefts xs ys k)

zip_rights : {A B : Type 0} (xs : List A) (ys : List B) → length xs ≡ length ys → map (λ c. c.1) (zip xs ys) ≡ ys
zip_rights [] [] e = refl
zip_rights [] (y ∷ ys) e = absurd (cc)
zip_rights (x ∷ xs) [] e = absurd (cc)
zip_rights (x ∷ xs) (y ∷ ys) e = let k : length xs ≡ length ys = cc in ap (λ l. y ∷ l) (zip_rights xs ys k)

-- the greatest of 0 and of some numbers
abbrev IsTop : List ℕ → ℕ → Type 0
IsTop ks = IsGreatest (λ k. (k ≡ 0) ⊎ IsIn k ks)

pub top_more : (k : ℕ) (ks : List ℕ) (m : ℕ) → IsTop ks m → IsTop (k ∷ ks) (max m k)
top_more k ks m h = greatest_joined (λ n. (n ≡ 0) ⊎ IsIn n ks) (λ n. n ≡ k) (λ n. (n ≡ 0) ⊎ IsIn n (k ∷ ks)) m k h (record { one = refl; bounds = λ n e. omega (arith, e) }) old (λ n e. inr (inl e)) back
  where
    old : (n : ℕ) → (n ≡ 0) ⊎ IsIn n ks → (n ≡ 0) ⊎ IsIn n (k ∷ ks)
    old n (inl e) = inl e
    old n (inr i) = inr (inr i)

    back : (n : ℕ) → (n ≡ 0) ⊎ IsIn n (k ∷ ks) → ((n ≡ 0) ⊎ IsIn n ks) ⊎ (n ≡ k)
    back n (inl e) = inl (inl e)
    back n (inr (inl e)) = inr e
    back n (inr (inr i)) = inl (inr i)

pub top_small : (ks : List ℕ) (top : ℕ) → AllByRecursion (λ k. k < 64) ks → IsTop ks top → top < 64
top_small ks top few h = by h.one
  where
    by : (top ≡ 0) ⊎ IsIn top ks → top < 64
    by (inl e) = omega (arith, e)
    by (inr i) = in_from_each (λ k. k < 64) ks few top i

pub slow_infinite : (strata : List ℕ) (lags : List (Option ℤ)) → length strata ≡ length lags → IsIn None lags → AreSlow (zip strata lags)
slow_infinite strata lags e i = inl (subst (IsIn None) (sym (zip_rights strata lags e)) i)

pub slow_yes : (strata : List ℕ) (lags : List (Option ℤ)) → length strata ≡ length lags → (top n : ℕ) → n ≡ suc top → IsTop strata top → TICK_LIMIT < lag_below (zip strata lags) n → AreSlow (zip strata lags)
slow_yes strata lags e top n is h l = inr (top, subst (λ ks. IsTop ks top) (sym (zip_lefts strata lags e)) h, subst (λ n. TICK_LIMIT < lag_below (zip strata lags) n) is l)

pub slow_no : (strata : List ℕ) (lags : List (Option ℤ)) → length strata ≡ length lags → (top n : ℕ) → n ≡ suc top → IsTop strata top → lag_below (zip strata lags) n ≤ TICK_LIMIT → (IsIn None lags → ⊥) → AreSlow (zip strata lags) → ⊥
slow_no strata lags e top n is h l none (inl i) = none (subst (IsIn None) (zip_rights strata lags e) i)
slow_no strata lags e top n is h l none (inr (other, k, m)) =
    let g : IsTop strata other = subst (λ ks. IsTop ks other) (zip_lefts strata lags e) k in
    let a = h.bounds other g.one in
    let b = g.bounds top h.one in
    let same : other ≡ top = omega (arith, a, b) in
    let more : TICK_LIMIT < lag_below (zip strata lags) n = subst (λ t. TICK_LIMIT < lag_below (zip strata lags) t) (ap suc same ∙ sym is) m in
    absurd (omega (arith, more, l))

-- no lags are not too long
pub none_slow : (plans : List Plan) (strata : List ℕ) → AreSlow (first_lags 0 plans strata) → ⊥
none_slow plans strata (inl i) = i
none_slow plans strata (inr (top, h, l)) =
    let z = only top h.one in
    let n : TICK_LIMIT < lag_below [] 1 = subst (λ t. TICK_LIMIT < lag_below [] (suc t)) z l in
    absurd (omega (arith, n))
  where
    only : (top : ℕ) → (top ≡ 0) ⊎ IsIn top [] → top ≡ 0
    only top (inl e) = e
    only top (inr i) = absurd i

pub each_fast : (plans : List Plan) (strata : List ℕ) (n : ℕ) → ((k : ℕ) → k ≤ n → AreSlow (first_lags k plans strata) → ⊥) → (AreSlow (first_lags (suc n) plans strata) → ⊥)
    → (k : ℕ) → k ≤ suc n → AreSlow (first_lags k plans strata) → ⊥
each_fast plans strata n h last k l s = by (nat_order k n l) s
  where
    nat_order : (k n : ℕ) → k ≤ suc n → (k ≤ n) ⊎ (k ≡ suc n)
    nat_order zero n l = inl (omega arith)
    nat_order (suc k) zero l = inr (omega (arith, l))
    nat_order (suc k) (suc n) l = elim (nat_order k n (omega (arith, l))) [ inl a ↦ inl (omega (arith, a)) | inr e ↦ inr (ap suc e) ]

    by : (k ≤ n) ⊎ (k ≡ suc n) → AreSlow (first_lags k plans strata) → ⊥
    by (inl a) s = h k a s
    by (inr e) s = last (subst (λ k. AreSlow (first_lags k plans strata)) e s)

-- the lags of the first plans
lags_taken : (n : ℕ) (plans : List (Rc Plan Global)) → map (λ r. r.value.lag) (take n plans) ≡ map (λ p. p.lag) (take n (plans_in plans))
lags_taken zero plans = refl
lags_taken (suc n) [] = refl
lags_taken (suc n) (p ∷ plans) = ap (λ l. p.value.lag ∷ l) (lags_taken n plans)

pub first_same : (n : ℕ) (plans : List (Rc Plan Global)) (strata : List ℕ) → zip (take n strata) (map (λ r. r.value.lag) (take n plans)) ≡ first_lags n (plans_in plans) strata
first_same n plans strata = ap (zip (take n strata)) (lags_taken n plans)

-- the plans' chronicles
pub chronicles_same : (plans : List (Rc Plan Global)) → map (λ r. chronicle r.value) plans ≡ map chronicle (plans_in plans)
chronicles_same [] = refl
chronicles_same (p ∷ plans) = ap (λ l. chronicle p.value ∷ l) (chronicles_same plans)

chronicles_seen : (plans : List (Rc Plan Global)) → map (λ r. chronicle r.value) plans ≡ map chronicle_of (chronicles_in plans)
chronicles_seen [] = refl
chronicles_seen (p ∷ plans) = ap (λ l. chronicle p.value ∷ l) (chronicles_seen plans)

pub in_order_of : (plans : List (Rc Plan Global)) (cs : List Chronicle) → chronicles_in plans ≡ cs → AreInOrder (map chronicle_of cs) → AreInOrder (map (λ r. chronicle r.value) plans)
in_order_of plans cs e h = subst AreInOrder (sym (chronicles_seen plans ∙ ap (map chronicle_of) e)) h

pub small_all : (plans : List (Rc Plan Global)) → AllByRecursion IsProper (plans_in plans) → AllByRecursion (λ r. IsSmallSpan r.value.lag) plans
small_all [] h = tt
small_all (p ∷ plans) h = (h.0.quick, small_all plans h.1)

zip_long : {A B : Type 0} (R : A → B → Type 0) (xs : List A) (ys : List B) → AllZip R xs ys → length ys ≡ length xs
zip_long R [] [] h = refl
zip_long R [] (y ∷ ys) h = absurd h
zip_long R (x ∷ xs) [] h = absurd h
zip_long R (x ∷ xs) (y ∷ ys) h = ap suc (zip_long R xs ys h.1)

pub strata_long : (plans : List (Rc Plan Global)) (strata : List ℕ) → AreStrata (map (λ r. chronicle r.value) plans) strata → length strata ≡ length plans
strata_long plans strata h = zip_long _ (map (λ r. chronicle r.value) plans) strata h ∙ length-map plans (λ r. chronicle r.value)
