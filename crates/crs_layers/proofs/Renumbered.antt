-- What one stratum answered, with the numbers of the chronicles among all: its part for each chronicle.
use Rattle.std.proofs.Common.{◌≡◌, ℕ, zero, suc, ◌+◌, ◌<◌, ◌≤◌, ◌==◌, Bool, true, false, cond, List, [], ◌∷◌, ◌++◌, map, filter, refl, sym, ap, subst, ◌∙◌, arith, true≢false, get_or, eq-eqb, eqb-true, append-nil}
use Rattle.std.specs.Prelude.{Some, slice_get}
use Rattle.std.specs.List.{AllByRecursion}
use Rattle.std.proofs.lemmas.Bool.{ne_eqb}
use Rattle.std.proofs.lemmas.List.{map-append}
use Rattle.std.proofs.lemmas.List.Elements.{filter-append}
use Rattle.crs_base.specs.declared.symbols.Sym.{Sym}
use Rattle.crs_base.proofs.Alls.{all_append, all_each}
use Rattle.crs_model.specs.declared.plan.Plan.{Plan}
use Rattle.crs_model.specs.declared.recognition.Mark.{Mark}
use Rattle.crs_model.specs.declared.recognition.Recognition.{Recognition}
use Rattle.crs_model.specs.Matching.{Assignment}
use Rattle.crs_model.specs.Models.{Chronicle}
use Rattle.crs_model.specs.Plans.{chronicle}
use Rattle.crs_model.specs.Scopes.{Scope, ListsNew}
use Rattle.crs_model.specs.SeenModels.{assignment_of}
use Rattle.crs_store.specs.Answers.{IsAnswer, IsRecognitionOf}
use Rattle.crs_engine.specs.Marks.{ListsAllNew}
use Rattle.crs_layers.specs.LayerPlans.{picked, numbers_of}

-- the recognitions of the chronicle with this number
abbrev pub part : ℕ → List Recognition → List Recognition
part n rs = filter (λ r. r.chronicle == n) rs

pub part_append : (n : ℕ) (xs ys : List Recognition) → part n (xs ++ ys) ≡ part n xs ++ part n ys
part_append n xs ys = filter-append (λ (r : Recognition). r.chronicle == n) xs ys

-- all are of it
pub part_all : (n : ℕ) (xs : List Recognition) → AllByRecursion (λ r. r.chronicle ≡ n) xs → part n xs ≡ xs
part_all n [] h = refl
part_all n (x ∷ xs) h = (λ i. cond (eq-eqb x.chronicle n h.0 i) (x ∷ part n xs) (part n xs)) ∙ ap (λ (rs : List Recognition). x ∷ rs) (part_all n xs h.1)

-- none is
pub part_none : (n : ℕ) (xs : List Recognition) → AllByRecursion (λ r. r.chronicle ≡ n → ⊥) xs → part n xs ≡ []
part_none n [] h = refl
part_none n (x ∷ xs) h = (λ i. cond (ne_eqb x.chronicle n h.0 i) (x ∷ part n xs) (part n xs)) ∙ part_none n xs h.1

-- how many chronicles there are with a stratum
abbrev pub spanned : List Plan → List ℕ → ℕ
spanned [] ks = 0
spanned (p ∷ ps) [] = 0
spanned (p ∷ ps) (k ∷ ks) = suc (spanned ps ks)

module _ (j : ℕ) (mark : Mark) (was now : Plan → Scope Sym) where
  -- of a chronicle of stratum j what is new in it, and of another one nothing
  abbrev pub IsPartOf : ℕ → Plan → ℕ → List Recognition → Type 0
  IsPartOf n p k first = (k ≡ j → IsAnswer (chronicle p) n mark (was p) (now p) first) × ((k ≡ j → ⊥) → first ≡ [])

  -- one chronicle after another, the first of which has the number n
  abbrev pub Parts : ℕ → List Plan → List ℕ → List Recognition → Type 0
  Parts n [] ks answer = answer ≡ []
  Parts n (p ∷ ps) [] answer = answer ≡ []
  Parts n (p ∷ ps) (k ∷ ks) answer =
      (first : List Recognition) × (rest : List Recognition) × (answer ≡ first ++ rest) × AllByRecursion (λ r. r.chronicle ≡ n) first × IsPartOf n p k first × Parts (suc n) ps ks rest

  -- they have numbers of chronicles from the n-th on
  pub parts_within : (n : ℕ) (ps : List Plan) (ks : List ℕ) (answer : List Recognition) → Parts n ps ks answer → AllByRecursion (λ r. (n ≤ r.chronicle) × (r.chronicle < n + spanned ps ks)) answer
  parts_within n [] ks answer h = subst (AllByRecursion (λ r. (n ≤ r.chronicle) × (r.chronicle < n + 0))) (sym h) tt
  parts_within n (p ∷ ps) [] answer h = subst (AllByRecursion (λ r. (n ≤ r.chronicle) × (r.chronicle < n + 0))) (sym h) tt
  parts_within n (p ∷ ps) (k ∷ ks) answer h = subst (AllByRecursion (λ r. (n ≤ r.chronicle) × (r.chronicle < n + suc (spanned ps ks)))) (sym h.2)
      (all_append (λ r. (n ≤ r.chronicle) × (r.chronicle < n + suc (spanned ps ks))) h.0 h.1
      (all_each {P = λ r. r.chronicle ≡ n} h.0 (λ r e. (omega (arith, e), omega (arith, e))) h.3)
      (all_each {P = λ r. (suc n ≤ r.chronicle) × (r.chronicle < suc n + spanned ps ks)} h.1 (λ r e. (let l = e.0 in omega (arith, l), let l = e.1 in omega (arith, l))) (parts_within (suc n) ps ks h.1 h.5)))

  -- the part of each chronicle
  pub part_at : (n i : ℕ) (ps : List Plan) (ks : List ℕ) (answer : List Recognition) → Parts n ps ks answer → (p : Plan) (k : ℕ) → slice_get ps i ≡ Some p → slice_get ks i ≡ Some k → IsPartOf (n + i) p k (part (n + i) answer)
  part_at n i [] ks answer h p k at of = absurd cc
  part_at n i (q ∷ ps) [] answer h p k at of = absurd cc
  part_at n zero (q ∷ ps) (m ∷ ks) answer h p k at of =
      let same_plan : q ≡ p = cc in
      let same_stratum : m ≡ k = cc in
      let sum : n ≡ n + 0 = omega arith in
      let later : AllByRecursion (λ r. r.chronicle ≡ n → ⊥) h.1 = all_each {P = λ r. (suc n ≤ r.chronicle) × (r.chronicle < suc n + spanned ps ks)} h.1 (λ r e q. let l = e.0 in omega (arith, l, q)) (parts_within (suc n) ps ks h.1 h.5) in
      let here : part n answer ≡ h.0 = ap (part n) h.2 ∙ part_append n h.0 h.1 ∙ (λ i. part_all n h.0 h.3 i ++ part_none n h.1 later i) ∙ append-nil h.0 in
      subst (λ (u : ℕ). IsPartOf u p k (part u answer)) sum
      (subst (IsPartOf n p k) (sym here)
      (subst (λ (u : ℕ). IsPartOf n p u h.0) same_stratum
      (subst (λ (u : Plan). IsPartOf n u m h.0) same_plan h.4)))
  part_at n (suc i) (q ∷ ps) (m ∷ ks) answer h p k at of =
      let sum : suc n + i ≡ n + suc i = omega arith in
      let other : AllByRecursion (λ r. r.chronicle ≡ n + suc i → ⊥) h.0 = all_each {P = λ r. r.chronicle ≡ n} h.0 (λ r e q. omega (arith, e, q)) h.3 in
      let there : part (n + suc i) answer ≡ part (n + suc i) h.1 =
      ap (part (n + suc i)) h.2 ∙ part_append (n + suc i) h.0 h.1 ∙ ap (λ (rs : List Recognition). rs ++ part (n + suc i) h.1) (part_none (n + suc i) h.0 other) in
      subst (IsPartOf (n + suc i) p k) (sym there)
      (subst (λ (u : ℕ). IsPartOf u p k (part u h.1)) sum (part_at (suc n) i ps ks h.1 h.5 p k at of))

  module _ (f : ℕ → ℕ) where
    abbrev with_number : Recognition → Recognition
    with_number r = record r { chronicle = f r.chronicle }

    same_assignments : (rs : List Recognition) → map assignment_of rs ≡ map assignment_of (map with_number rs)
    same_assignments [] = refl
    same_assignments (r ∷ rs) = ap (λ (bs : List (Assignment Sym)). assignment_of r ∷ bs) (same_assignments rs)

    each_of : (c : Chronicle Sym) (m n : ℕ) → f m ≡ n → (rs : List Recognition) → AllByRecursion (IsRecognitionOf c m mark) rs → AllByRecursion (IsRecognitionOf c n mark) (map with_number rs)
    each_of c m n e [] h = tt
    each_of c m n e (r ∷ rs) h = (record { chronicle = ap f h.0.chronicle ∙ e; mark = h.0.mark; entries = h.0.entries; binding = h.0.binding; values = h.0.values }, each_of c m n e rs h.1)

    each_numbered : (c : Chronicle Sym) (n : ℕ) (rs : List Recognition) → AllByRecursion (IsRecognitionOf c n mark) rs → AllByRecursion (λ r. r.chronicle ≡ n) rs
    each_numbered c n rs h = all_each {P = IsRecognitionOf c n mark} rs (λ r e. e.chronicle) h

    -- what the stratum's engine answered by its own numbers, the first of which is m
    pub parts_from : (m n : ℕ) (ps : List Plan) (ks : List ℕ) (answer : List Recognition) → ((t : ℕ) → f (m + t) ≡ get_or (numbers_of j n ks) t 0) → ListsAllNew (picked j ps ks) m mark was now answer
        → Parts n ps ks (map with_number answer)
    parts_from m n [] ks answer q l = ap (map with_number) l
    parts_from m n (p ∷ ps) [] answer q l = ap (map with_number) l
    parts_from m n (p ∷ ps) (k ∷ ks) answer q l = by (k == j) refl q l (λ u w rest. parts_from u (suc n) ps ks rest w)
      where
        more : n + 1 ≡ suc n
        more = omega arith

        by : (b : Bool) → (k == j) ≡ b → ((t : ℕ) → f (m + t) ≡ get_or (cond b (n ∷ numbers_of j (n + 1) ks) (numbers_of j (n + 1) ks)) t 0) → ListsAllNew (cond b (p ∷ picked j ps ks) (picked j ps ks)) m mark was now answer
            → ((u : ℕ) → ((t : ℕ) → f (u + t) ≡ get_or (numbers_of j (suc n) ks) t 0) → (rest : List Recognition) → ListsAllNew (picked j ps ks) u mark was now rest → Parts (suc n) ps ks (map with_number rest))
            → Parts n (p ∷ ps) (k ∷ ks) (map with_number answer)
        by true e q l next =
            let here : f m ≡ n = ap f (let s : m ≡ m + 0 = omega arith in s) ∙ q 0 in
            let each : AllByRecursion (IsRecognitionOf (chronicle p) n mark) (map with_number l.0) = each_of (chronicle p) m n here l.0 l.3.each in (
              map with_number l.0,
              map with_number l.1,
              ap (map with_number) l.2 ∙ map-append with_number l.0 l.1,
              each_numbered (chronicle p) n (map with_number l.0) each,
              (λ _. record { listed = subst (ListsNew (chronicle p) (was p) (now p)) (same_assignments l.0) l.3.listed; each = each }, λ ne. absurd (ne (eqb-true k j e))),
              next (suc m) (λ t. ap f (let s : suc m + t ≡ m + suc t = omega arith in s) ∙ q (suc t) ∙ ap (λ (u : ℕ). get_or (numbers_of j u ks) t 0) more) l.1 l.4,
            )
        by false e q l next = (
          [],
          map with_number answer,
          refl,
          tt,
          (λ s. absurd (true≢false (sym (eq-eqb k j s) ∙ e)), λ _. refl),
          next m (λ t. q t ∙ ap (λ (u : ℕ). get_or (numbers_of j u ks) t 0) more) answer l,
        )
