-- Buckets that gain, lose or hand on pairs.
use Rattle.std.proofs.Common.{◌≡◌, ℕ, suc, ◌+◌, ◌-◌, ◌<◌, sym, ap, ◌∙◌, arith, subst, List, [], ◌∷◌, ◌++◌, length, get_or, set, take, drop, append_assoc, inl, inr}
use Rattle.std.specs.List.Sorted.{IsPermutation}
use Rattle.std.proofs.lemmas.List.Concat.{flat_map-append}
use Rattle.std.proofs.lemmas.List.{set_split, get_or-drop, get_or-set_same, get_or-set_other, set-get_or, ext_get_or}
use Rattle.std.proofs.lemmas.List.Sorted.{IsPermutation-sym, IsPermutation-trans, IsPermutation-cons, IsPermutation-append_left, IsPermutation-middle, IsPermutation-append_comm}
use Rattle.std.proofs.lemmas.List.Elements.{All-append, All-cons, All-nil}
use Rattle.std.proofs.lemmas.Bool.{cases_eq, cases_lt}
use Rattle.crs_agenda.specs.declared.timed.Timed.{Timed}
use Rattle.crs_agenda.specs.Places.{Stands, InPlace, AreEmptyBefore, AreIn, pairs_of}

-- the pairs of all buckets are those of one and those of the others
out : (xs us zs : List Timed) → IsPermutation (us ++ (xs ++ zs)) (xs ++ (us ++ zs))
out xs us zs =
    let e : us ++ (xs ++ zs) ≡ (us ++ xs) ++ zs = sym (append_assoc us xs zs) in
    let f : xs ++ (us ++ zs) ≡ (xs ++ us) ++ zs = sym (append_assoc xs us zs) in
    rw (e, f) (IsPermutation-append_left zs _ _ (IsPermutation-append_comm us xs))

set-pairs : (bs : List (List Timed)) (at : ℕ) (xs : List Timed) → at < length bs → pairs_of (set bs at xs) ≡ pairs_of (take at bs) ++ (xs ++ pairs_of (drop (suc at) bs))
set-pairs bs at xs h = ap pairs_of (set_split bs at xs h) ∙ flat_map-append (λ b. b) (take at bs) (xs ∷ drop (suc at) bs)

-- a bucket's pairs and the others
pub set_out : (bs : List (List Timed)) (at : ℕ) (xs : List Timed) → at < length bs → IsPermutation (pairs_of (set bs at xs)) (xs ++ pairs_of (set bs at []))
set_out bs at xs h = rw (set-pairs bs at xs h, set-pairs bs at [] h) (out xs (pairs_of (take at bs)) (pairs_of (drop (suc at) bs)))

pub get_out : (bs : List (List Timed)) (at : ℕ) → at < length bs → IsPermutation (pairs_of bs) (get_or bs at [] ++ pairs_of (set bs at []))
get_out bs at h = subst (λ (ys : List (List Timed)). IsPermutation (pairs_of ys) (get_or bs at [] ++ pairs_of (set bs at []))) (set-get_or bs at []) (set_out bs at (get_or bs at []) h)

-- a pair that is put into a bucket
pub put_one : (bs : List (List Timed)) (at : ℕ) (t : Timed) → at < length bs → IsPermutation (t ∷ pairs_of bs) (pairs_of (set bs at (get_or bs at [] ++ t ∷ [])))
put_one bs at t h =
    let a : IsPermutation (t ∷ pairs_of bs) (t ∷ (get_or bs at [] ++ pairs_of (set bs at []))) = IsPermutation-cons t _ _ (get_out bs at h) in
    let b : IsPermutation (t ∷ (get_or bs at [] ++ pairs_of (set bs at []))) ((get_or bs at [] ++ t ∷ []) ++ pairs_of (set bs at [])) = rw (append_assoc) (IsPermutation-sym _ _ (IsPermutation-middle (get_or bs at []) t (pairs_of (set bs at [])))) in
    IsPermutation-trans _ _ _ (IsPermutation-trans _ _ _ a b) (IsPermutation-sym _ _ (set_out bs at (get_or bs at [] ++ t ∷ []) h))

-- a pair more of a list is put into a bucket
pub put_more : (xs : List Timed) (b0 bs : List (List Timed)) (at : ℕ) (t : Timed) → at < length bs → IsPermutation (xs ++ pairs_of b0) (pairs_of bs) → IsPermutation ((xs ++ t ∷ []) ++ pairs_of b0) (pairs_of (set bs at (get_or bs at [] ++ t ∷ [])))
put_more xs b0 bs at t h p =
    let a : IsPermutation ((xs ++ t ∷ []) ++ pairs_of b0) (t ∷ (xs ++ pairs_of b0)) = rw append_assoc (IsPermutation-middle xs t (pairs_of b0)) in
    IsPermutation-trans _ _ _ (IsPermutation-trans _ _ _ a (IsPermutation-cons t _ _ p)) (put_one bs at t h)

-- a bucket is put in place of another
pub set_in_place : (base : ℕ) (bs : List (List Timed)) (at : ℕ) (xs : List Timed) → at < length bs → InPlace base bs → AreIn base at xs → InPlace base (set bs at xs)
set_in_place base bs at xs h all here = λ c. elim (cases_eq c at) [ inl e ↦ rw (e, get_or-set_same bs at xs [] h) here | inr n ↦ rw (get_or-set_other bs at c xs [] n) (all c) ]

pub put_in_place : (base : ℕ) (bs : List (List Timed)) (at : ℕ) (t : Timed) → at < length bs → InPlace base bs → Stands base at t.date → InPlace base (set bs at (get_or bs at [] ++ t ∷ []))
put_in_place base bs at t h all s = set_in_place base bs at _ h all (All-append (λ u. Stands base at u.date) _ _ (all at) (All-cons (λ u. Stands base at u.date) t [] s (All-nil (λ u. Stands base at u.date))))

same_past : (end j i : ℕ) (xs ys : List (List Timed)) → drop end xs ≡ drop end ys → end + j ≡ i → get_or xs i [] ≡ get_or ys i []
same_past end j i xs ys d e = rw (← e, ← get_or-drop end xs j [], ← get_or-drop end ys j []) (ap (λ (zs : List (List Timed)). get_or zs j []) d)

-- buckets that are empty up to a place and alike from there on are the same
same_at : (end i : ℕ) (xs ys : List (List Timed)) → AreEmptyBefore end xs → AreEmptyBefore end ys → drop end xs ≡ drop end ys → get_or xs i [] ≡ get_or ys i []
same_at end i xs ys ex ey d = elim (cases_lt i end) [ inl h ↦ ex i h ∙ sym (ey i h) | inr h ↦ same_past end (i - end) i xs ys d (omega arith) ]

pub same_from : (end : ℕ) (xs ys : List (List Timed)) → length xs ≡ length ys → AreEmptyBefore end xs → AreEmptyBefore end ys → drop end xs ≡ drop end ys → xs ≡ ys
same_from end xs ys l ex ey d = ext_get_or [] xs ys l (λ i _. same_at end i xs ys ex ey d)
