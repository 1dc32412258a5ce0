-- Strata at the start.
use Rattle.std.proofs.Common.{◌≡◌, ◌⊎◌, ℕ, zero, suc, ◌+◌, ◌-◌, ◌<◌, ◌≤◌, nat_lt, Bool, true, false, cond, List, [], ◌∷◌, ◌++◌, length, map, zip, refl, sym, ap, subst, ◌∙◌, inl, inr, arith, Option, Some, None}
use Rattle.std.specs.Prelude.{ℤ, ◌^◌}
use Rattle.std.specs.List.{AllByRecursion, AllZip}
use Rattle.std.specs.declared.rc.Rc.{Rc}
use Rattle.std.proofs.Common.{Global, max, ◌==◌, take_all}
use Rattle.std.proofs.lemmas.List.{length-map}
use Rattle.std.proofs.lemmas.Int.{ints}
use Rattle.std.proofs.Common.{ltb-true}
use Rattle.std.proofs.lemmas.Bool.{ltb-false, cases_lt}
use Rattle.crs_base.specs.Words.{IsIn}
use Rattle.crs_model.specs.declared.plan.Plan.{Plan}
use Rattle.crs_model.specs.Hierarchy.{IsGreatest, AreInOrder, AreStrata, lag_below}
use Rattle.crs_base.specs.declared.symbols.Sym.{Sym}
use Rattle.crs_model.specs.Models.{Chronicle}
use Rattle.crs_model.specs.Plans.{chronicle}
use Rattle.crs_model.specs.ShortLags.{AreSlow, first_lags, HaveShortLags}
use Rattle.crs_model.specs.declared.limits.TheConstants.{TICK_LIMIT}
use Rattle.crs_model.specs.Reach.{Bounds, IsLongest, IsZero, IsReachOfAll}
use Rattle.crs_layers.specs.Strata.{behind, strata_count}
use Rattle.crs_layers.specs.declared.layer.Layer.{Layer}
use Rattle.crs_layers.specs.LayerPlans.{placed_of, picked, IsNewLayer, AreNewLayers}
use Rattle.crs_layers.proofs.OneStrata.{one_strata}

further : (a b s : Option ℤ) → Bounds a b → Bounds b s → Bounds a s
further None b s h k = tt
further (Some x) None s h k = absurd h
further (Some x) (Some y) None h k = absurd k
further (Some x) (Some y) (Some z) h k = omega (arith, ints)

-- one more reach
pub longest_more : (x : Option ℤ) (rest : List (Option ℤ)) (y d : Option ℤ) → IsReachOfAll rest y → IsLongest (λ s. (s ≡ x) ⊎ (s ≡ y)) d → IsReachOfAll (x ∷ rest) d
longest_more x rest y d g h = record { one = among h.one; bounds = below }
  where
    later : (s : Option ℤ) → IsZero s ⊎ IsIn s rest → IsZero s ⊎ IsIn s (x ∷ rest)
    later s (inl z) = inl z
    later s (inr i) = inr (inr i)

    among : (d ≡ x) ⊎ (d ≡ y) → IsZero d ⊎ IsIn d (x ∷ rest)
    among (inl e) = inr (inl e)
    among (inr e) = later d (subst (λ (s : Option ℤ). IsZero s ⊎ IsIn s rest) (sym e) g.one)

    below : (s : Option ℤ) → IsZero s ⊎ IsIn s (x ∷ rest) → Bounds d s
    below s (inl z) = further d y s (h.bounds y (inr refl)) (g.bounds s (inl z))
    below s (inr (inl e)) = subst (Bounds d) (sym e) (h.bounds x (inl refl))
    below s (inr (inr i)) = further d y s (h.bounds y (inr refl)) (g.bounds s (inr i))

-- the strata and the lags of the placed chronicles
pub lags_placed : (ps : List Plan) (ks : List ℕ) → map (λ c. (c.stratum, c.lag)) (placed_of ps ks) ≡ zip ks (map (λ p. p.lag) ps)
lags_placed [] [] = refl
lags_placed [] (k ∷ ks) = refl
lags_placed (p ∷ ps) [] = refl
lags_placed (p ∷ ps) (k ∷ ks) = ap (λ (xs : List (ℕ × Option ℤ)). (k, p.lag) ∷ xs) (lags_placed ps ks)

pub behind_placed : (ps : List Plan) (ks : List ℕ) (j : ℕ) → behind (placed_of ps ks) j ≡ lag_below (zip ks (map (λ p. p.lag) ps)) j
behind_placed ps ks j = ap (λ (xs : List (ℕ × Option ℤ)). lag_below xs j) (lags_placed ps ks)

-- the plans of a stratum are some of all
pub picked_each : (P : Plan → Type 0) (j : ℕ) (ps : List Plan) (ks : List ℕ) → AllByRecursion P ps → AllByRecursion P (picked j ps ks)
picked_each P j [] ks h = tt
picked_each P j (p ∷ ps) [] h = tt
picked_each P j (p ∷ ps) (k ∷ ks) h = by (k == j) (picked_each P j ps ks h.1)
  where
    by : (b : Bool) → AllByRecursion P (picked j ps ks) → AllByRecursion P (cond b (p ∷ picked j ps ks) (picked j ps ks))
    by true r = (h.0, r)
    by false r = r

pub picked_few : (j : ℕ) (ps : List Plan) (ks : List ℕ) → length (picked j ps ks) ≤ length ps
picked_few j [] ks = omega arith
picked_few j (p ∷ ps) [] = omega arith
picked_few j (p ∷ ps) (k ∷ ks) = by (k == j) (picked_few j ps ks)
  where
    by : (b : Bool) → length (picked j ps ks) ≤ length ps → length (cond b (p ∷ picked j ps ks) (picked j ps ks)) ≤ suc (length ps)
    by true r = omega (arith, r)
    by false r = omega (arith, r)

pub each_value : (P : Plan → Type 0) (rs : List (Rc Plan Global)) → AllByRecursion P (map (λ r. r.value) rs) → AllByRecursion (λ r. P r.value) rs
each_value P [] h = tt
each_value P (r ∷ rs) h = (h.0, each_value P rs h.1)

pub value_each : (P : Plan → Type 0) (rs : List (Rc Plan Global)) → AllByRecursion (λ r. P r.value) rs → AllByRecursion P (map (λ r. r.value) rs)
value_each P [] h = tt
value_each P (r ∷ rs) h = (h.0, value_each P rs h.1)

pub lags_of_values : (rs : List (Rc Plan Global)) → map (λ p. p.lag) (map (λ r. r.value) rs) ≡ map (λ r. r.value.lag) rs
lags_of_values [] = refl
lags_of_values (r ∷ rs) = ap (λ (xs : List (Option ℤ)). r.value.lag ∷ xs) (lags_of_values rs)

pub chronicles_of_values : (rs : List (Rc Plan Global)) → map chronicle (map (λ r. r.value) rs) ≡ map (λ r. chronicle r.value) rs
chronicles_of_values [] = refl
chronicles_of_values (r ∷ rs) = ap (λ (cs : List (Chronicle Sym)). chronicle r.value ∷ cs) (chronicles_of_values rs)

-- one more new layer
pub new_more : (ps : List Plan) (ks : List ℕ) (focus : Bool) (limit j n : ℕ) (ls : List Layer) (l : Layer) → n ≡ j + length ls → AreNewLayers ps ks focus limit j ls → IsNewLayer ps ks focus limit n l → AreNewLayers ps ks focus limit j (ls ++ l ∷ [])
new_more ps ks focus limit j n [] l e h k = (subst (λ i. IsNewLayer ps ks focus limit i l) (omega (arith, e)) k, tt)
new_more ps ks focus limit j n (m ∷ ls) l e h k = (h.0, new_more ps ks focus limit (suc j) n ls l (omega (arith, e)) h.1 k)

-- the highest stratum
max_is : (a b : ℕ) → (max a b ≡ a) ⊎ (max a b ≡ b)
max_is a b = elim (cases_lt a b) [ inl l ↦ inr (omega (arith, l)) | inr l ↦ inl (omega (arith, l)) ]

top_up : (k n m : ℕ) (ks : List ℕ) → (m ≡ k) ⊎ (m ≡ n) → (n ≡ 0) ⊎ IsIn n ks → (m ≡ 0) ⊎ IsIn m (k ∷ ks)
top_up k n m ks (inl e) o = inr (inl e)
top_up k n m ks (inr e) (inl z) = inl (e ∙ z)
top_up k n m ks (inr e) (inr i) = inr (inr (subst (λ x. IsIn x ks) (sym e) i))

top_below : (k n m : ℕ) (ks : List ℕ) → ((x : ℕ) → (x ≡ 0) ⊎ IsIn x ks → x ≤ n) → (m ≡ 0) ⊎ IsIn m (k ∷ ks) → m ≤ max k n
top_below k n m ks h (inl e) = omega (arith, e)
top_below k n m ks h (inr (inl e)) = omega (arith, e)
top_below k n m ks h (inr (inr i)) = let b = h m (inr i) in omega (arith, b)

top_of : (ks : List ℕ) → (top : ℕ) × (suc top ≡ strata_count ks) × IsGreatest (λ k. (k ≡ 0) ⊎ IsIn k ks) top
top_of [] = (0, refl, record { one = inl refl; bounds = λ m i. elim i [ inl e ↦ omega (arith, e) | inr i ↦ absurd i ] })
top_of (k ∷ ks) =
    let r = top_of ks in
    let e = r.1 in
    let same : suc (max k r.0) ≡ max (suc k) (strata_count ks) = omega (arith, e) in
    (max k r.0, same, record { one = top_up k r.0 (max k r.0) ks (max_is k r.0) r.2.one; bounds = λ m i. top_below k r.0 m ks r.2.bounds i })

lag_up : (cs : List (ℕ × Option ℤ)) (j k : ℕ) → lag_below cs j ≤ lag_below cs (j + k)
lag_up cs j zero = let sum : j + 0 ≡ j = omega arith in let e : lag_below cs (j + 0) ≡ lag_below cs j = ap (λ (n : ℕ). lag_below cs n) sum in omega (arith, e)
lag_up cs j (suc k) = let r = lag_up cs j k in let sum : j + suc k ≡ suc (j + k) = omega arith in let e : lag_below cs (j + suc k) ≡ lag_below cs (suc (j + k)) = ap (λ (n : ℕ). lag_below cs n) sum in omega (arith, r, e)

zip_firsts : (ks : List ℕ) (xs : List (Option ℤ)) → length ks ≡ length xs → map (λ c. c.0) (zip ks xs) ≡ ks
zip_firsts [] xs e = refl
zip_firsts (k ∷ ks) [] e = absurd (omega (arith, e))
zip_firsts (k ∷ ks) (x ∷ xs) e = ap (λ (ms : List ℕ). k ∷ ms) (zip_firsts ks xs (omega (arith, e)))

zip_seconds : (ks : List ℕ) (xs : List (Option ℤ)) → length ks ≡ length xs → map (λ c. c.1) (zip ks xs) ≡ xs
zip_seconds [] [] e = refl
zip_seconds [] (x ∷ xs) e = absurd (omega (arith, e))
zip_seconds (k ∷ ks) [] e = absurd (omega (arith, e))
zip_seconds (k ∷ ks) (x ∷ xs) e = ap (λ (ys : List (Option ℤ)). x ∷ ys) (zip_seconds ks xs (omega (arith, e)))

pub zipped_length : {A B : Type 0} (R : A → B → Type 0) (xs : List A) (ys : List B) → AllZip R xs ys → length xs ≡ length ys
zipped_length R [] [] h = refl
zipped_length R [] (y ∷ ys) h = absurd h
zipped_length R (x ∷ xs) [] h = absurd h
zipped_length R (x ∷ xs) (y ∷ ys) h = ap suc (zipped_length R xs ys h.1)

-- plans whose lags aren't too long, with their strata
module _ (ps : List Plan) (ks : List ℕ) (order : AreInOrder (map chronicle ps)) (are : AreStrata (map chronicle ps) ks) (short : HaveShortLags ps) where
  abbrev lags_all : List (Option ℤ)
  lags_all = map (λ p. p.lag) ps

  same_long : length ks ≡ length ps
  same_long = sym (zipped_length _ (map chronicle ps) ks are) ∙ length-map ps chronicle

  not_slow : AreSlow (zip ks lags_all) → ⊥
  not_slow s =
      let same = one_strata (map chronicle ps) ks short.0 order are short.1 in
      short.2 (length ps) (omega arith) (subst (λ (ms : List ℕ). AreSlow (first_lags (length ps) ps ms)) same
      (subst AreSlow (sym ((λ i. zip (take_all (length ps) ks (omega (arith, same_long)) i) (map (λ p. p.lag) (take_all (length ps) ps (omega arith) i))))) s))

  pub near_all : (j : ℕ) → j < strata_count ks → lag_below (zip ks lags_all) j ≤ 2 ^ 40
  near_all j l = by (nat_lt TICK_LIMIT (lag_below (zip ks lags_all) (suc (top_of ks).0))) refl
    where
      by : (b : Bool) → nat_lt TICK_LIMIT (lag_below (zip ks lags_all) (suc (top_of ks).0)) ≡ b → lag_below (zip ks lags_all) j ≤ 2 ^ 40
      by true e = absurd (not_slow (inr (
        (top_of ks).0,
        subst (λ (ms : List ℕ). IsGreatest (λ k. (k ≡ 0) ⊎ IsIn k ms) (top_of ks).0) (sym (zip_firsts ks lags_all (same_long ∙ sym (length-map ps (λ p. p.lag))))) (top_of ks).2,
        ltb-true TICK_LIMIT (lag_below (zip ks lags_all) (suc (top_of ks).0)) e,
      )))
      by false e =
          let low : lag_below (zip ks lags_all) (suc (top_of ks).0) ≤ TICK_LIMIT = ltb-false TICK_LIMIT (lag_below (zip ks lags_all) (suc (top_of ks).0)) e in
          let count = (top_of ks).1 in
          let up = lag_up (zip ks lags_all) j (suc (top_of ks).0 - j) in
          let sum : j + (suc (top_of ks).0 - j) ≡ suc (top_of ks).0 = omega (arith, count, l) in
          let at : lag_below (zip ks lags_all) (j + (suc (top_of ks).0 - j)) ≡ lag_below (zip ks lags_all) (suc (top_of ks).0) = ap (λ (n : ℕ). lag_below (zip ks lags_all) n) sum in
          omega (arith, low, up, at)

  pub not_none : IsIn None lags_all → ⊥
  not_none i = not_slow (inl (subst (IsIn None) (sym (zip_seconds ks lags_all (same_long ∙ sym (length-map ps (λ p. p.lag))))) i))
