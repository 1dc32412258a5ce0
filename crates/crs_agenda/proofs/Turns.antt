-- The earliest pair of a bucket is taken out, and the others are handed on.
use Rattle.std.proofs.Common.{◌≡◌, ℕ, ◌<◌, ◌≤◌, ◌≢◌, sym, ap, ◌∙◌, arith, subst, List, [], ◌∷◌, ◌++◌, length, get_or, set, drop, All, inl, inr}
use Rattle.std.specs.List.Sorted.{IsPermutation}
use Rattle.std.proofs.lemmas.Bool.{cases_eq, cases_lt}
use Rattle.std.proofs.lemmas.List.{get_or-set_same, get_or-set_other, get_or_default, set-set}
use Rattle.std.proofs.lemmas.List.Sorted.{IsPermutation-sym, IsPermutation-trans, IsPermutation-cons, IsPermutation-append_left, All-permutation}
use Rattle.std.proofs.lemmas.List.Elements.{All-tail, All-nil}
use Rattle.crs_agenda.specs.declared.timed.Timed.{Timed}
use Rattle.crs_agenda.specs.Places.{Stands, InPlace, AreEmptyBefore, AreIn, GoBefore, IsEarliest, pairs_of}
use Rattle.crs_agenda.proofs.Leads.{turned, goes-before}
use Rattle.crs_agenda.proofs.Buckets.{get_out, set_out, same_from}

-- what holds of all holds of the one taken out, and of the rest
pub of_taken : (P : Timed → Type 0) (xs : List Timed) (t : Timed) (rest : List Timed) → IsPermutation xs (t ∷ rest) → All P xs → P t
of_taken P xs t rest p all = All-permutation P xs (t ∷ rest) p all 0 t (omega arith)

pub of_rest : (P : Timed → Type 0) (xs : List Timed) (t : Timed) (rest : List Timed) → IsPermutation xs (t ∷ rest) → All P xs → All P rest
of_rest P xs t rest p all = All-tail P t rest (All-permutation P xs (t ∷ rest) p all)

-- no pair is earlier than the earliest
pub earliest-all : (pick : ℕ) (ts : List Timed) (t : Timed) → IsEarliest pick ts → t ≡ get_or ts pick t → All (λ u. t.date ≤ u.date) ts
earliest-all pick ts t e is = λ k d h.
    let u = get_or ts k d in
    let same : get_or ts pick u ≡ t = get_or_default ts pick u t e.0 ∙ sym is in
    subst (λ (v : Timed). v.date ≤ u.date) same (e.1 k d h)

-- the bucket that is emptied is as empty as those before it
pub emptied : (at : ℕ) (bs : List (List Timed)) → AreEmptyBefore at bs → AreEmptyBefore at (set bs at [])
emptied at bs e = λ c h. let n : c ≢ at = omega arith in get_or-set_other bs at c [] [] n ∙ e c h

turned_at : (base at c : ℕ) (bs : List (List Timed)) (t : Timed) → at < length bs → InPlace base bs → AreEmptyBefore at bs → Stands base at t.date → c ≢ at → All (λ u. Stands t.date c u.date) (get_or bs c [])
turned_at base at c bs t h all e s n = elim (cases_lt c at) [ inl lt ↦ rw (e c lt) (All-nil (λ u. Stands t.date c u.date)) | inr le ↦ (λ k d i. turned base at c t.date (get_or (get_or bs c []) k d).date s (all c k d i) (omega arith)) ]

-- the buckets without the first that has any are in place from a date of that one on
pub turned_in_place : (base at : ℕ) (bs : List (List Timed)) (t : Timed) → at < length bs → InPlace base bs → AreEmptyBefore at bs → Stands base at t.date → InPlace t.date (set bs at [])
turned_in_place base at bs t h all e s = λ c. elim (cases_eq c at) [ inl is ↦ rw (is, get_or-set_same bs at [] [] h) (All-nil (λ u. Stands t.date at u.date)) | inr n ↦ rw (get_or-set_other bs at c [] [] n) (turned_at base at c bs t h all e s n) ]

-- the others of the bucket go into earlier ones
pub go_before : (base at : ℕ) (t : Timed) (rest : List Timed) → 32 ≤ at → Stands base at t.date → AreIn base at rest → All (λ u. t.date ≤ u.date) rest → GoBefore t.date at rest
go_before base at t rest past s all least = λ k d h.
    (least k d h, (all k d h).bound, λ c z. goes-before base at c t.date (get_or rest k d).date s (all k d h) (omega arith) z)

-- one pair is taken out, and the others are handed on
pub handed_on : (bs : List (List Timed)) (at : ℕ) (t : Timed) (rest : List Timed) (new : List (List Timed)) → at < length bs → IsPermutation (get_or bs at []) (t ∷ rest) → IsPermutation (rest ++ pairs_of (set bs at [])) (pairs_of new) → IsPermutation (pairs_of bs) (t ∷ pairs_of new)
handed_on bs at t rest new h p q =
    let a : IsPermutation (get_or bs at [] ++ pairs_of (set bs at [])) (t ∷ (rest ++ pairs_of (set bs at []))) = IsPermutation-append_left (pairs_of (set bs at [])) _ _ p in
    IsPermutation-trans _ _ _ (IsPermutation-trans _ _ _ (get_out bs at h) a) (IsPermutation-cons t _ _ q)

-- one pair is taken out, and the others stay
pub put_back : (bs : List (List Timed)) (at : ℕ) (t : Timed) (rest : List Timed) → at < length bs → IsPermutation (get_or bs at []) (t ∷ rest) → IsPermutation (pairs_of bs) (t ∷ pairs_of (set bs at rest))
put_back bs at t rest h p = handed_on bs at t rest (set bs at rest) h p (IsPermutation-sym _ _ (set_out bs at rest h))

-- what was copied is undone
pub undone : (bs mid new : List (List Timed)) (at : ℕ) (rest : List Timed) → AreEmptyBefore at bs → length mid ≡ length (set bs at []) → drop at mid ≡ drop at (set bs at []) → length new ≡ length mid → drop at new ≡ drop at mid → AreEmptyBefore at new → set new at rest ≡ set bs at rest
undone bs mid new at rest e l d m f empty =
    ap (λ (xs : List (List Timed)). set xs at rest) (same_from at new (set bs at []) (m ∙ l) empty (emptied at bs e) (f ∙ d)) ∙ set-set bs at [] rest
