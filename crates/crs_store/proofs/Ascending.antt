-- A sorted answer without ties ascends.
use Rattle.std.proofs.Common.{◌≡◌, ◌≢◌, ℕ, suc, ◌+◌, List, [], ◌∷◌, map, refl, sym, ap, subst, ◌∙◌, inl, inr, arith, get_or, Bool, false}
use Rattle.std.specs.Prelude.{Option, Some, IsPermutation, IsSortedBy}
use Rattle.std.specs.List.{AllByRecursion, IsDistinct}
use Rattle.std.specs.Ordering.{is_lt, is_eq, ordering_reverse}
use Rattle.std.specs.Cmp.{IsTotalOrder}
use Rattle.std.specs.declared.cmp.Ordering.{Ordering}
use Rattle.std.specs.declared.cmp.Ordering.TheVariants.{Less, Equal, Greater}
use Rattle.std.proofs.lemmas.Cmp.{lists_total}
use Rattle.std.proofs.lemmas.List.Sorted.{ranks_by, sorted_far}
use Rattle.std.proofs.lemmas.Map.Keys.{IsDistinct-IsPermutation}
use Rattle.crs_base.specs.declared.symbols.Sym.{Sym}
use Rattle.crs_base.specs.Words.{IsIn, Ordered}
use Rattle.crs_base.specs.Entry.{Entry, Key, key_of, entry_cmp}
use Rattle.crs_base.proofs.Words.{in_from_each}
use Rattle.crs_base.proofs.KeyOrder.{entry_total, key_exact, both_tie}
use Rattle.crs_model.specs.declared.recognition.Recognition.{Recognition}
use Rattle.crs_model.specs.Matching.{AreDistinct}
use Rattle.crs_model.specs.Order.{entries_cmp, assignment_cmp}
use Rattle.crs_model.specs.Open.{whole}
use Rattle.crs_model.specs.SeenModels.{assignment_of}
use Rattle.crs_store.specs.Answers.{answer_cmp, wholes}
use Rattle.crs_waiting.proofs.Moved.{place_of}

pub entries_total : IsTotalOrder (entries_cmp {S = Sym})
entries_total = lists_total (entry_total {S = Sym})

-- ---- ties

-- no two entries of the pool have one arrival number
same_arrival : (pool : List (Entry Sym)) → AreDistinct pool → (e f : Entry Sym) → IsIn e pool → IsIn f pool → e.arrival ≡ f.arrival → e ≡ f
same_arrival [] d e f i j s = absurd i
same_arrival (x ∷ pool) d e f (inl a) (inl b) s = a ∙ sym b
same_arrival (x ∷ pool) d e f (inl a) (inr j) s = absurd (in_from_each (λ (y : Entry Sym). x.arrival ≢ y.arrival) pool d.0 f j (sym (ap (λ (t : Entry Sym). t.arrival) a) ∙ s))
same_arrival (x ∷ pool) d e f (inr i) (inl b) s = absurd (in_from_each (λ (y : Entry Sym). x.arrival ≢ y.arrival) pool d.0 e i (sym (ap (λ (t : Entry Sym). t.arrival) b) ∙ sym s))
same_arrival (x ∷ pool) d e f (inr i) (inr j) s = same_arrival pool d.1 e f i j s

tied : (pool : List (Entry Sym)) → AreDistinct pool → (es fs : List (Entry Sym)) → AllByRecursion (λ e. IsIn e pool) es → AllByRecursion (λ e. IsIn e pool) fs → entries_cmp es fs ≡ Equal → es ≡ fs
tied pool d [] [] a b h = refl
tied pool d [] (f ∷ fs) a b h = absurd cc
tied pool d (e ∷ es) [] a b h = absurd cc
tied pool d (e ∷ es) (f ∷ fs) a b h =
    let t = both_tie (entry_cmp e f) (entries_cmp es fs) h in
    let k = key_exact (key_of e) (key_of f) t.0 in
    let one = same_arrival pool d e f a.0 b.0 (ap (λ (z : Key). z.arrival) k) in
    let rest = tied pool d es fs a.1 b.1 t.1 in
    λ i. one i ∷ rest i

-- the recognition's entries are of the pool
abbrev pub IsOver : List (Entry Sym) → Recognition → Type 0
IsOver pool r = AllByRecursion (λ e. IsIn e pool) (assignment_of r).entries

abbrev pub tie : Recognition → Recognition → Bool
tie r s = is_eq (answer_cmp r s)

not_tied : (o : Ordering) → (o ≡ Equal → ⊥) → is_eq o ≡ false
not_tied Less h = refl
not_tied Equal h = absurd (h refl)
not_tied Greater h = refl

no_tie : (pool : List (Entry Sym)) → AreDistinct pool → (found : List Recognition) → AllByRecursion (IsOver pool) found → Ordered (λ a b. a ≡ b → ⊥) (wholes found) → IsDistinct tie found
unfolding IsDistinct
no_tie pool d [] over o = tt
no_tie pool d (r ∷ found) over o = (first found over.1 o.0, no_tie pool d found over.1 o.1)
  where
    first : (rest : List Recognition) → AllByRecursion (IsOver pool) rest → AllByRecursion (λ b. whole (assignment_of r) ≡ b → ⊥) (wholes rest) → AllByRecursion (λ s. tie r s ≡ false) rest
    first [] a n = tt
    first (s ∷ rest) a n = (
      (not_tied (answer_cmp r s) (λ e. n.0 (ap (λ (t : List (Entry Sym)). map Some_of t) (tied pool d (assignment_of r).entries (assignment_of s).entries over.0 a.0 e)))),
      first rest a.1 n.1,
    )
      where
        Some_of : Entry Sym → Option (Entry Sym)
        Some_of e = Some e

-- ---- order

turned : (o : Ordering) → is_eq o ≡ is_eq (ordering_reverse o)
turned Less = refl
turned Equal = refl
turned Greater = refl

tie_flips : (r s : Recognition) → tie r s ≡ tie s r
tie_flips r s = ap is_eq (entries_total.antisymm (assignment_of r).entries (assignment_of s).entries) ∙ sym (turned (answer_cmp s r))

less_by : (o p : Ordering) → o ≡ ordering_reverse p → is_eq o ≡ false → is_lt p ≡ false → o ≡ Less
less_by o Less e t f = absurd cc
less_by o Equal e t f = let s : o ≡ Equal = e in absurd (never o s t)
  where
    never : (o : Ordering) → o ≡ Equal → is_eq o ≡ false → ⊥
    never Less e t = absurd cc
    never Equal e t = absurd cc
    never Greater e t = absurd cc
less_by o Greater e t f = e

abbrev pub later : Recognition → Recognition → Bool
later r s = is_lt (answer_cmp r s)

sorted_rest : (r : Recognition) (rs : List Recognition) → IsSortedBy later (r ∷ rs) → IsSortedBy later rs
sorted_rest r rs up k d l m = let e : suc k + 1 ≡ suc (k + 1) = omega arith in subst (λ (n : ℕ). later (get_or (r ∷ rs) n d) (get_or rs k d) ≡ false) e (up (suc k) d (omega arith) (omega arith))

first_is_least : (r : Recognition) (rs : List Recognition) → IsSortedBy later (r ∷ rs) → (s : Recognition) → IsIn s rs → later s r ≡ false
first_is_least r rs up s i =
    let p = place_of rs s r i in
    let l = p.1 in
    ap (λ (t : Recognition). later t r) (sym p.2) ∙ sorted_far later (ranks_by entries_total (λ (t : Recognition). (assignment_of t).entries)) (r ∷ rs) up 0 (suc p.0) r (omega arith) (omega arith)

ascends : (rs : List Recognition) → IsSortedBy later rs → IsDistinct tie rs → Ordered (λ a b. assignment_cmp a b ≡ Less) (map assignment_of rs)
unfolding IsDistinct
ascends [] up d = tt
ascends (r ∷ rs) up d = (each rs (first_is_least r rs up) d.0, ascends rs (sorted_rest r rs up) d.1)
  where
    each : (ss : List Recognition) → ((s : Recognition) → IsIn s ss → later s r ≡ false) → AllByRecursion (λ s. tie r s ≡ false) ss → AllByRecursion (λ b. assignment_cmp (assignment_of r) b ≡ Less) (map assignment_of ss)
    each [] low t = tt
    each (s ∷ ss) low t = (
      (less_by (answer_cmp r s) (answer_cmp s r) (entries_total.antisymm (assignment_of r).entries (assignment_of s).entries) t.0 (low s (inl refl))),
      each ss (λ u i. low u (inr i)) t.1,
    )

pub ascending : (pool : List (Entry Sym)) → AreDistinct pool → (found answer : List Recognition) → AllByRecursion (IsOver pool) found → Ordered (λ a b. a ≡ b → ⊥) (wholes found) → IsPermutation found answer → IsSortedBy later answer → Ordered (λ a b. assignment_cmp a b ≡ Less) (map assignment_of answer)
ascending pool d found answer over o p up = ascends answer up (IsDistinct-IsPermutation tie tie_flips found answer p (no_tie pool d found over o))
