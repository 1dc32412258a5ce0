-- What strata answered, as one list in the order of the chronicles' numbers, is what is new over all.
use Rattle.std.proofs.Common.{◌≡◌, ℕ, zero, suc, ◌+◌, ◌<◌, ◌≤◌, ◌==◌, ◌&&◌, not, Bool, true, false, cond, List, [], ◌∷◌, ◌++◌, length, filter, refl, sym, ap, subst, ◌∙◌, arith, inl, inr, get_or, eq-eqb, append-nil, lt-ltb}
use Rattle.std.specs.Prelude.{Some, slice_get, IsPermutation}
use Rattle.std.specs.List.{AllByRecursion}
use Rattle.std.specs.List.Sorted.{IsNonDecreasingBy, IsStableByKey}
use Rattle.std.specs.Ordering.{nat_cmp, is_lt}
use Rattle.std.specs.declared.cmp.Ordering.TheVariants.{Less, Equal, Greater}
use Rattle.std.proofs.lemmas.Bool.{ne_eqb, cases_lt, le-ltb}
use Rattle.std.proofs.lemmas.List.Elements.{All-from_recursion, recursion_from_All}
use Rattle.std.proofs.lemmas.List.Sorted.{All-permutation}
use Rattle.crs_base.specs.declared.symbols.Sym.{Sym}
use Rattle.crs_base.proofs.Alls.{all_append, all_each}
use Rattle.crs_model.specs.declared.plan.Plan.{Plan}
use Rattle.crs_model.specs.declared.recognition.Mark.{Mark}
use Rattle.crs_model.specs.declared.recognition.Recognition.{Recognition}
use Rattle.crs_model.specs.Models.{Chronicle}
use Rattle.crs_model.specs.Plans.{chronicle}
use Rattle.crs_model.specs.Scopes.{Scope}
use Rattle.crs_store.specs.Answers.{IsAnswer}
use Rattle.crs_engine.specs.Marks.{ListsAllNew}
use Rattle.crs_layers.specs.Strata.{Stratum, scope_in}
use Rattle.crs_layers.specs.declared.layer.Layer.{Layer}
use Rattle.crs_layers.specs.LayerPlans.{picked, numbers_of, AreLayersOf}
use Rattle.crs_layers.specs.Passing.{AnswerFrom}
use Rattle.crs_layers.specs.Gathering.{renumbered, renumbered_all, IsLastOf, scope_from, ListsNewOver, GathersAll}
use Rattle.crs_layers.proofs.Renumbered.{part, part_append, part_none, spanned, Parts, IsPartOf, parts_within, part_at, parts_from}

-- ---- one stratum has all chronicles

module _ (mark : Mark) (g h : ℕ → ℕ) (s t : Stratum Sym) (ts : List (Stratum Sym)) where
  only : (n : ℕ) (ps : List Plan) (ks : List ℕ) (answer : List Recognition) → AllByRecursion (λ k. k < 1) ks
      → ListsAllNew (picked 0 ps ks) n mark (λ p. scope_in s (g 0) (chronicle p)) (λ p. scope_in t (h 0) (chronicle p)) answer
      → ListsNewOver ps ks n mark (scope_from g 0 (s ∷ [])) (scope_from h 0 (t ∷ ts)) answer
  only n [] ks answer low l = l
  only n (p ∷ ps) [] answer low l = l
  only n (p ∷ ps) (zero ∷ ks) answer low l = (l.0, l.1, l.2, l.3, only (suc n) ps ks l.1 low.1 l.4)
  only n (p ∷ ps) (suc k ∷ ks) answer low l = absurd (let z = low.0 in omega (arith, z))

one_left : (left : List (List Recognition)) (x y : List Recognition) → left ++ x ∷ [] ≡ y ∷ [] → y ≡ x
one_left [] x y e = cc
one_left (z ∷ []) x y e = absurd (let n = ap (λ (us : List (List Recognition)). length us) e in omega (arith, n))
one_left (z ∷ w ∷ zs) x y e = absurd (let n = ap (λ (us : List (List Recognition)). length us) e in omega (arith, n))

-- its answer is the only one
pub only_gathers : (ls : List Layer) (answers : List (List Recognition)) (answer : List Recognition) → length ls ≡ 1 → IsLastOf answers answer → GathersAll ls answers answer
only_gathers [] answers answer one e plans numbers focus limit mark g h olds news of long k = absurd (omega (arith, one))
only_gathers (l ∷ m ∷ ls) answers answer one e plans numbers focus limit mark g h olds news of long k = absurd (omega (arith, one))
only_gathers (l ∷ []) answers answer one e plans numbers focus limit mark g h [] news of long k = absurd (omega (arith, long))
only_gathers (l ∷ []) answers answer one e plans numbers focus limit mark g h (s ∷ r ∷ rs) news of long k = absurd (omega (arith, long))
only_gathers (l ∷ []) answers answer one e plans numbers focus limit mark g h (s ∷ []) [] of long k = absurd k
only_gathers (l ∷ []) answers answer one (inl none) plans numbers focus limit mark g h (s ∷ []) (t ∷ ts) of long k =
    absurd (let n = ap (λ (us : List (List Recognition)). length us) k.2 in omega (arith, n, none))
only_gathers (l ∷ []) answers answer one (inr e) plans numbers focus limit mark g h (s ∷ []) (t ∷ ts) of long k =
    let same : k.0 ≡ answer = one_left e.0 answer k.0 (sym e.1 ∙ k.2 ∙ ap (λ (us : List (List Recognition)). k.0 ∷ us) k.4) in
    only mark g h s t ts 0 plans numbers answer of.1
    (subst (ListsAllNew (picked 0 plans numbers) 0 mark (λ p. scope_in s (g 0) (chronicle p)) (λ p. scope_in t (h 0) (chronicle p))) same k.3)

-- ---- the part of each chronicle in what all strata answered

module _ (plans : List Plan) (numbers : List ℕ) (focus : Bool) (limit : ℕ) (mark : Mark) (g h : ℕ → ℕ) where
  abbrev was_of : ℕ → Stratum Sym → Plan → Scope Sym
  was_of j s p = scope_in s (g j) (chronicle p)

  abbrev now_of : ℕ → Stratum Sym → Plan → Scope Sym
  now_of j t p = scope_in t (h j) (chronicle p)

  own_parts : (j : ℕ) (s t : Stratum Sym) (l : Layer) (answer : List Recognition) → l.numbers ≡ numbers_of j 0 numbers → ListsAllNew (picked j plans numbers) 0 mark (was_of j s) (now_of j t) answer
      → Parts j mark (was_of j s) (now_of j t) 0 plans numbers (renumbered l.numbers answer)
  own_parts j s t l answer e k =
      parts_from j mark (was_of j s) (now_of j t) (λ m. get_or l.numbers m 0) 0 0 plans numbers answer
      (λ u. (let z : 0 + u ≡ u = omega arith in λ i. get_or (e i) (z i) 0)) k

  all_within : (j : ℕ) (ls : List Layer) (olds news : List (Stratum Sym)) (answers : List (List Recognition)) → AreLayersOf plans numbers focus limit j ls → AnswerFrom plans numbers mark g h j olds news answers
      → AllByRecursion (λ r. (0 ≤ r.chronicle) × (r.chronicle < 0 + spanned plans numbers)) (renumbered_all ls answers)
  all_within j [] olds news answers of k = tt
  all_within j (l ∷ ls) [] news answers of k = subst (λ (as_ : List (List Recognition)). AllByRecursion (λ r. (0 ≤ r.chronicle) × (r.chronicle < 0 + spanned plans numbers)) (renumbered_all (l ∷ ls) as_)) (sym k) tt
  all_within j (l ∷ ls) (s ∷ ss) [] answers of k = absurd k
  all_within j (l ∷ ls) (s ∷ ss) (t ∷ ts) answers of k = subst (λ (as_ : List (List Recognition)). AllByRecursion (λ r. (0 ≤ r.chronicle) × (r.chronicle < 0 + spanned plans numbers)) (renumbered_all (l ∷ ls) as_)) (sym k.2)
      (all_append (λ r. (0 ≤ r.chronicle) × (r.chronicle < 0 + spanned plans numbers)) (renumbered l.numbers k.0) (renumbered_all ls k.1)
      (parts_within j mark (was_of j s) (now_of j t) 0 plans numbers (renumbered l.numbers k.0) (own_parts j s t l k.0 of.0.numbers k.3))
      (all_within (suc j) ls ss ts k.1 of.1 k.4))

  module _ (i : ℕ) (p : Plan) (k : ℕ) (at : slice_get plans i ≡ Some p) (of_k : slice_get numbers i ≡ Some k) where
    own_part : (j : ℕ) (s t : Stratum Sym) (l : Layer) (answer : List Recognition) → l.numbers ≡ numbers_of j 0 numbers → ListsAllNew (picked j plans numbers) 0 mark (was_of j s) (now_of j t) answer
        → IsPartOf j mark (was_of j s) (now_of j t) i p k (part i (renumbered l.numbers answer))
    own_part j s t l answer e a =
        let z : 0 + i ≡ i = omega arith in
        subst (λ (u : ℕ). IsPartOf j mark (was_of j s) (now_of j t) u p k (part u (renumbered l.numbers answer))) z
        (part_at j mark (was_of j s) (now_of j t) 0 i plans numbers (renumbered l.numbers answer) (own_parts j s t l answer e a) p k at of_k)

    -- none of the strata above its own
    none_above : (j : ℕ) (ls : List Layer) (olds news : List (Stratum Sym)) (answers : List (List Recognition)) → k < j → AreLayersOf plans numbers focus limit j ls → AnswerFrom plans numbers mark g h j olds news answers
        → part i (renumbered_all ls answers) ≡ []
    none_above j [] olds news answers low of a = refl
    none_above j (l ∷ ls) [] news answers low of a = ap (λ (as_ : List (List Recognition)). part i (renumbered_all (l ∷ ls) as_)) a
    none_above j (l ∷ ls) (s ∷ ss) [] answers low of a = absurd a
    none_above j (l ∷ ls) (s ∷ ss) (t ∷ ts) answers low of a =
        ap (λ (as_ : List (List Recognition)). part i (renumbered_all (l ∷ ls) as_)) a.2
        ∙ part_append i (renumbered l.numbers a.0) (renumbered_all ls a.1)
        ∙ (λ d. (own_part j s t l a.0 of.0.numbers a.3).1 (λ q. omega (arith, low, q)) d ++ none_above (suc j) ls ss ts a.1 (omega (arith, low)) of.1 a.4 d)

    abbrev Here : ℕ → List (Stratum Sym) → List (Stratum Sym) → ℕ → List Recognition → Type 0
    Here j olds news d answer = IsAnswer (chronicle p) i mark (scope_from g j olds d (chronicle p)) (scope_from h j news d (chronicle p)) answer

    covered : (ks : List ℕ) (n i : ℕ) (k : ℕ) → AllByRecursion (λ m. m < n) ks → slice_get ks i ≡ Some k → k < n
    covered [] n i k low e = absurd cc
    covered (m ∷ ks) n zero k low e = let same : m ≡ k = cc in let l = low.0 in omega (arith, same, l)
    covered (m ∷ ks) n (suc i) k low e = covered ks n i k low.1 e

    -- its own stratum's is what is new in it
    here_new : (d j : ℕ) (ls : List Layer) (olds news : List (Stratum Sym)) (answers : List (List Recognition)) → k ≡ j + d → AreLayersOf plans numbers focus limit j ls → length olds ≡ length ls → AnswerFrom plans numbers mark g h j olds news answers
        → Here j olds news d (part i (renumbered_all ls answers))
    here_new d j [] olds news answers e of long a = absurd (let l = covered numbers j i k of of_k in omega (arith, e, l))
    here_new d j (l ∷ ls) [] news answers e of long a = absurd (omega (arith, long))
    here_new d j (l ∷ ls) (s ∷ ss) [] answers e of long a = absurd a
    here_new zero j (l ∷ ls) (s ∷ ss) (t ∷ ts) answers e of long a =
        let mine : k ≡ j = omega (arith, e) in
        let whole : part i (renumbered_all (l ∷ ls) answers) ≡ part i (renumbered l.numbers a.0) =
        ap (λ (as_ : List (List Recognition)). part i (renumbered_all (l ∷ ls) as_)) a.2
        ∙ part_append i (renumbered l.numbers a.0) (renumbered_all ls a.1)
        ∙ ap (λ (rs : List Recognition). part i (renumbered l.numbers a.0) ++ rs) (none_above (suc j) ls ss ts a.1 (omega (arith, mine)) of.1 a.4)
        ∙ append-nil (part i (renumbered l.numbers a.0)) in
        subst (Here j (s ∷ ss) (t ∷ ts) zero) (sym whole) ((own_part j s t l a.0 of.0.numbers a.3).0 mine)
    here_new (suc d) j (l ∷ ls) (s ∷ ss) (t ∷ ts) answers e of long a =
        let whole : part i (renumbered_all (l ∷ ls) answers) ≡ part i (renumbered_all ls a.1) =
        ap (λ (as_ : List (List Recognition)). part i (renumbered_all (l ∷ ls) as_)) a.2
        ∙ part_append i (renumbered l.numbers a.0) (renumbered_all ls a.1)
        ∙ ap (λ (rs : List Recognition). rs ++ part i (renumbered_all ls a.1)) ((own_part j s t l a.0 of.0.numbers a.3).1 (λ q. omega (arith, e, q))) in
        subst (Here j (s ∷ ss) (t ∷ ts) (suc d)) (sym whole) (here_new d (suc j) ls ss ts a.1 (omega (arith, e)) of.1 (omega (arith, long)) a.4)

-- ---- a list in the order of the numbers is one part after another

abbrev pub parts_of : List Recognition → ℕ → List Plan → List ℕ → List Recognition
parts_of rs n [] ks = []
parts_of rs n (p ∷ ps) [] = []
parts_of rs n (p ∷ ps) (k ∷ ks) = part n rs ++ parts_of rs (suc n) ps ks

parts_same : (xs ys : List Recognition) (n : ℕ) (ps : List Plan) (ks : List ℕ) → ((m : ℕ) → n ≤ m → part m xs ≡ part m ys) → parts_of xs n ps ks ≡ parts_of ys n ps ks
parts_same xs ys n [] ks h = refl
parts_same xs ys n (p ∷ ps) [] h = refl
parts_same xs ys n (p ∷ ps) (k ∷ ks) h = λ i. h n (omega arith) i ++ parts_same xs ys (suc n) ps ks (λ m l. h m (omega (arith, l))) i

abbrev Rising : List Recognition → Type 0
Rising [] = Unit {0}
Rising (x ∷ xs) = AllByRecursion (λ r. x.chronicle ≤ r.chronicle) xs × Rising xs

-- the part of the n-th chronicle, and then the others
record Splits (n top : ℕ) (xs : List Recognition) : Type 0 where
  others : List Recognition
  whole : xs ≡ part n xs ++ others
  rising : Rising others
  within : AllByRecursion (λ r. (suc n ≤ r.chronicle) × (r.chronicle < top)) others
  later : (m : ℕ) → suc n ≤ m → part m xs ≡ part m others

splits : (n top : ℕ) (xs : List Recognition) → Rising xs → AllByRecursion (λ r. (n ≤ r.chronicle) × (r.chronicle < top)) xs → Splits n top xs
splits n top [] r w = record { others = []; whole = refl; rising = tt; within = tt; later = λ m l. refl }
splits n top (x ∷ xs) r w = elim (cases_lt n x.chronicle) [
  | inl l ↦ (let above : AllByRecursion (λ r. r.chronicle ≡ n → ⊥) (x ∷ xs) = (λ q. omega (arith, l, q), all_each {P = λ r. x.chronicle ≤ r.chronicle} xs (λ y u q. omega (arith, l, u, q)) r.0) in
      record {
        others = x ∷ xs;
        whole = ap (λ (rs : List Recognition). rs ++ x ∷ xs) (sym (part_none n (x ∷ xs) above));
        rising = r;
        within = ((omega (arith, l), w.0.1), later_all l xs r.0 w.1);
        later = λ m u. refl;
      })
  | inr l ↦ (let low = w.0.0 in
      let same : x.chronicle ≡ n = omega (arith, l, low) in
      let rest = splits n top xs r.1 w.1 in
      record {
        others = rest.others;
        whole = ap (λ (rs : List Recognition). x ∷ rs) rest.whole ∙ (λ i. cond (sym (eq-eqb x.chronicle n same) i) (x ∷ part n xs) (part n xs) ++ rest.others);
        rising = rest.rising;
        within = rest.within;
        later = λ m u. (λ i. cond (ne_eqb x.chronicle m (λ q. omega (arith, same, q, u)) i) (x ∷ part m xs) (part m xs)) ∙ rest.later m u;
      })
]
  where
    later_all : n < x.chronicle → (ys : List Recognition) → AllByRecursion (λ r. x.chronicle ≤ r.chronicle) ys → AllByRecursion (λ r. (n ≤ r.chronicle) × (r.chronicle < top)) ys → AllByRecursion (λ r. (suc n ≤ r.chronicle) × (r.chronicle < top)) ys
    later_all l [] u v = tt
    later_all l (y ∷ ys) u v = ((let q = u.0 in omega (arith, l, q), v.0.1), later_all l ys u.1 v.1)

in_parts : (n : ℕ) (ps : List Plan) (ks : List ℕ) (xs : List Recognition) → Rising xs → AllByRecursion (λ r. (n ≤ r.chronicle) × (r.chronicle < n + spanned ps ks)) xs → xs ≡ parts_of xs n ps ks
in_parts n [] ks [] r w = refl
in_parts n [] ks (x ∷ xs) r w = absurd (let l = w.0 in omega (arith, l))
in_parts n (p ∷ ps) [] [] r w = refl
in_parts n (p ∷ ps) [] (x ∷ xs) r w = absurd (let l = w.0 in omega (arith, l))
in_parts n (p ∷ ps) (k ∷ ks) xs r w =
    let s = splits n (n + suc (spanned ps ks)) xs r w in
    let sum : n + suc (spanned ps ks) ≡ suc n + spanned ps ks = omega arith in
    let within = subst (λ (top : ℕ). AllByRecursion (λ r. (suc n ≤ r.chronicle) × (r.chronicle < top)) s.others) sum s.within in
    s.whole ∙ ap (λ (rs : List Recognition). part n xs ++ rs) (in_parts (suc n) ps ks s.others s.rising within ∙ sym (parts_same xs s.others (suc n) ps ks s.later))

-- ---- what a stable sort by the numbers leaves

rising_all : (c : ℕ) (xs : List Recognition) → ((i : ℕ) (d : Recognition) → i < length xs → c ≤ (get_or xs i d).chronicle) → AllByRecursion (λ r. c ≤ r.chronicle) xs
rising_all c [] h = tt
rising_all c (x ∷ xs) h = (h 0 x (omega arith), rising_all c xs (λ i d l. h (suc i) d (omega (arith, l))))

rises : (xs : List Recognition) → IsNonDecreasingBy (λ r. r.chronicle) xs → Rising xs
rises [] h = tt
rises (x ∷ xs) h = (rising_all x.chronicle xs (λ i d l. h 0 (suc i) d (omega arith) (omega (arith, l))), rises xs (λ i j d l m. h (suc i) (suc j) d (omega (arith, l)) (omega (arith, m))))

tied : (m c : ℕ) → (not (is_lt (nat_cmp m c)) && not (is_lt (nat_cmp c m))) ≡ (c == m)
tied m c = elim (cases_lt m c) [
  | inl l ↦ (λ i. (not (is_lt (cond (lt-ltb m c l i) Less (cond (m == c) Equal Greater))) && not (is_lt (nat_cmp c m)))) ∙ sym (ne_eqb c m (λ q. omega (arith, l, q)))
  | inr l ↦ elim (cases_lt c m) [
    | inl k ↦ (λ i. (not (is_lt (nat_cmp m c)) && not (is_lt (cond (lt-ltb c m k i) Less (cond (c == m) Equal Greater))))) ∙ both_false (not (is_lt (nat_cmp m c))) ∙ sym (ne_eqb c m (λ q. omega (arith, k, q)))
    | inr k ↦ (let e : c ≡ m = omega (arith, l, k) in
        (λ i. (not (is_lt (cond (le-ltb m c l i) Less (cond (eq-eqb m c (sym e) i) Equal Greater))) && not (is_lt (cond (le-ltb c m k i) Less (cond (eq-eqb c m e i) Equal Greater))))) ∙ sym (eq-eqb c m e))
  ]
]
  where
    both_false : (b : Bool) → (b && false) ≡ false
    both_false true = refl
    both_false false = refl

parts_kept : (mark : Mark) (xs ys : List Recognition) → IsStableByKey (λ r. r.chronicle) nat_cmp xs ys → (m : ℕ) → part m ys ≡ part m xs
parts_kept mark xs ys h m =
    (λ i. filter (λ (r : Recognition). sym (tied m r.chronicle) i) ys)
    ∙ h (record { chronicle = m; mark = mark; entries = []; binding = [] })
    ∙ (λ i. filter (λ (r : Recognition). tied m r.chronicle i) xs)

over : (mark : Mark) (W N : ℕ → Chronicle Sym → Scope Sym) (xs : List Recognition) (n : ℕ) (ps : List Plan) (ks : List ℕ)
    → ((i : ℕ) (p : Plan) (k : ℕ) → slice_get ps i ≡ Some p → slice_get ks i ≡ Some k → IsAnswer (chronicle p) (n + i) mark (W k (chronicle p)) (N k (chronicle p)) (part (n + i) xs))
    → ListsNewOver ps ks n mark W N (parts_of xs n ps ks)
over mark W N xs n [] ks h = refl
over mark W N xs n (p ∷ ps) [] h = refl
over mark W N xs n (p ∷ ps) (k ∷ ks) h =
    let z : n + 0 ≡ n = omega arith in (
      part n xs,
      parts_of xs (suc n) ps ks,
      refl,
      subst (λ (u : ℕ). IsAnswer (chronicle p) u mark (W k (chronicle p)) (N k (chronicle p)) (part u xs)) z (h 0 p k refl refl),
      over mark W N xs (suc n) ps ks (λ i q m a b.
          (let s : n + suc i ≡ suc n + i = omega arith in
          subst (λ (u : ℕ). IsAnswer (chronicle q) u mark (W m (chronicle q)) (N m (chronicle q)) (part u xs)) s (h (suc i) q m a b))),
    )

pub sorted_gathers : (ls : List Layer) (answers : List (List Recognition)) (ys : List Recognition) → IsPermutation (renumbered_all ls answers) ys → IsNonDecreasingBy (λ r. r.chronicle) ys
    → IsStableByKey (λ r. r.chronicle) nat_cmp (renumbered_all ls answers) ys → GathersAll ls answers ys
sorted_gathers ls answers ys moved up stable plans numbers focus limit mark g h olds news of long a =
    let xs : List Recognition = renumbered_all ls answers in
    let all : AllByRecursion (λ r. (0 ≤ r.chronicle) × (r.chronicle < 0 + spanned plans numbers)) ys =
    recursion_from_All (λ r. (0 ≤ r.chronicle) × (r.chronicle < 0 + spanned plans numbers)) ys
    (All-permutation (λ r. (0 ≤ r.chronicle) × (r.chronicle < 0 + spanned plans numbers)) xs ys moved
    (All-from_recursion (λ r. (0 ≤ r.chronicle) × (r.chronicle < 0 + spanned plans numbers)) xs (all_within plans numbers focus limit mark g h 0 ls olds news answers of a))) in
    let parted : ys ≡ parts_of xs 0 plans numbers = in_parts 0 plans numbers ys (rises ys up) all ∙ parts_same ys xs 0 plans numbers (λ m l. parts_kept mark xs ys stable m) in
    subst (ListsNewOver plans numbers 0 mark (scope_from g 0 olds) (scope_from h 0 news)) (sym parted)
    (over mark (scope_from g 0 olds) (scope_from h 0 news) xs 0 plans numbers (λ i p k at of_k.
    (let z : i ≡ 0 + i = omega arith in
    subst (λ (u : ℕ). IsAnswer (chronicle p) u mark (scope_from g 0 olds k (chronicle p)) (scope_from h 0 news k (chronicle p)) (part u xs)) z
    (here_new plans numbers focus limit mark g h i p k at of_k k 0 ls olds news answers (omega arith) of long a))))
