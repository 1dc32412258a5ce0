-- The least date of all pairs.
use Rattle.std.proofs.Common.{◌≡◌, ℕ, zero, suc, ◌+◌, ◌*◌, ◌/◌, ◌%◌, ◌<◌, ◌≤◌, refl, sym, ◌∙◌, arith, length-append, subst, List, [], ◌∷◌, ◌++◌, length, get_or, All, inl, inr}
use Rattle.std.proofs.lemmas.Bool.{cases_eq, cases_lt}
use Rattle.std.proofs.lemmas.List.{get_or_append_left, get_or-append-add, get_or_past, get_or_default}
use Rattle.std.proofs.lemmas.List.Elements.{All-append, All-nil}
use Rattle.crs_agenda.specs.declared.timed.Timed.{Timed}
use Rattle.crs_agenda.specs.Places.{lead, Stands, InPlace, AreIn, AreEmptyBefore, IsEarliest, pairs_of}
use Rattle.crs_agenda.proofs.Leads.{bucket-later}
use Rattle.crs_agenda.proofs.Turns.{earliest-all}

-- what holds in each bucket holds of all pairs
pub all-pairs : (P : Timed → Type 0) (bs : List (List Timed)) → ((at : ℕ) → All P (get_or bs at [])) → All P (pairs_of bs)
all-pairs P [] h = All-nil P
all-pairs P (b ∷ bs) h = All-append P b (pairs_of bs) (h 0) (all-pairs P bs (λ c. h (suc c)))

-- buckets without pairs
pub none-all : (P : Timed → Type 0) (bs : List (List Timed)) → AreEmptyBefore (length bs) bs → All P (pairs_of bs)
none-all P bs e = all-pairs P bs (λ c. elim (cases_lt c (length bs)) [ inl h ↦ rw (e c h) (All-nil P) | inr h ↦ rw (get_or_past bs c [] h) (All-nil P) ])

-- no pair is earlier than the earliest of the first bucket with any
least_at : (base at pick c : ℕ) (bs : List (List Timed)) (t : Timed) → InPlace base bs → AreEmptyBefore at bs → IsEarliest pick (get_or bs at []) → t ≡ get_or (get_or bs at []) pick t → Stands base at t.date → All (λ u. t.date ≤ u.date) (get_or bs c [])
least_at base at pick c bs t all e is same s = elim (cases_lt c at) [
  | inl h ↦ rw (e c h) (All-nil (λ u. t.date ≤ u.date))
  | inr h ↦ elim (cases_eq c at) [
    | inl f ↦ rw f (earliest-all pick (get_or bs at []) t is same)
    | inr n ↦ (λ k d i. let later : t.date < (get_or (get_or bs c []) k d).date = bucket-later base at c t.date (get_or (get_or bs c []) k d).date s (all c k d i) (omega arith) in omega arith)
  ]
]

pub least_of_all : (base at pick : ℕ) (bs : List (List Timed)) (t : Timed) → InPlace base bs → AreEmptyBefore at bs → IsEarliest pick (get_or bs at []) → t ≡ get_or (get_or bs at []) pick t → All (λ u. t.date ≤ u.date) (pairs_of bs)
least_of_all base at pick bs t all e is same =
    let s : Stands base at t.date = subst (λ (u : Timed). Stands base at u.date) (sym same) (all at pick t is.0) in
    all-pairs (λ u. t.date ≤ u.date) bs (λ c. least_at base at pick c bs t all e is same s)

-- the same, where the bucket is read on its own
pub least_read : (base at pick : ℕ) (bs read : List (List Timed)) (bucket : List Timed) (t : Timed) → InPlace base bs → read ≡ bs → AreEmptyBefore at read → at < length bs → bucket ≡ get_or bs at bucket → IsEarliest pick bucket → t ≡ get_or bucket pick t → All (λ u. t.date ≤ u.date) (pairs_of bs)
least_read base at pick bs read bucket t all same e h is first at_t =
    let there : bucket ≡ get_or bs at [] = is ∙ get_or_default bs at bucket [] h in
    least_of_all base at pick bs t all (subst (λ (xs : List (List Timed)). AreEmptyBefore at xs) same e) (subst (λ (ts : List Timed). IsEarliest pick ts) there first) (subst (λ (ts : List Timed). t ≡ get_or ts pick t) there at_t)

-- no pair is earlier than a date before which the first bucket with any has none
floor_at : (base at c f : ℕ) (bs : List (List Timed)) → InPlace base bs → AreEmptyBefore at bs → 0 < length (get_or bs at []) → All (λ t. f ≤ t.date) (get_or bs at []) → All (λ t. f ≤ t.date) (get_or bs c [])
floor_at base at c f bs all e some low = elim (cases_lt c at) [
  | inl h ↦ rw (e c h) (All-nil (λ t. f ≤ t.date))
  | inr h ↦ elim (cases_eq c at) [
    | inl g ↦ rw g low
    | inr n ↦ (λ k d i.
        let u = get_or (get_or bs at []) 0 d in
        let l : f ≤ u.date = low 0 d some in
        let later : u.date < (get_or (get_or bs c []) k d).date = bucket-later base at c u.date (get_or (get_or bs c []) k d).date (all at 0 d some) (all c k d i) (omega arith) in
        omega arith)
  ]
]

-- the same, where the bucket is read on its own
pub floor_read : (base at f : ℕ) (bs read : List (List Timed)) (bucket : List Timed) → InPlace base bs → read ≡ bs → AreEmptyBefore at read → at < length bs → (at < length read → 0 < length (get_or read at [])) → bucket ≡ get_or bs at bucket → All (λ t. f ≤ t.date) bucket → All (λ t. f ≤ t.date) (pairs_of bs)
floor_read base at f bs read bucket all same e h full is low =
    let there : bucket ≡ get_or bs at [] = is ∙ get_or_default bs at bucket [] h in
    let some : at < length bs → 0 < length (get_or bs at []) = subst (λ (xs : List (List Timed)). at < length xs → 0 < length (get_or xs at [])) same full in
    let empty : AreEmptyBefore at bs = subst (λ (xs : List (List Timed)). AreEmptyBefore at xs) same e in
    all-pairs (λ t. f ≤ t.date) bs (λ c. floor_at base at c f bs all empty (some h) (subst (λ (ts : List Timed). All (λ t. f ≤ t.date) ts) there low))

-- the pairs of the bucket that is read on its own stand there
pub in_place_read : (base at : ℕ) (bs : List (List Timed)) (bucket : List Timed) → InPlace base bs → at < length bs → bucket ≡ get_or bs at bucket → AreIn base at bucket
in_place_read base at bs bucket all h is = subst (λ (ts : List Timed). AreIn base at ts) (sym (is ∙ get_or_default bs at bucket [] h)) (all at)

-- the bucket that is read on its own has its earliest pair there
pub earliest_read : (at pick : ℕ) (bs : List (List Timed)) (bucket : List Timed) → at < length bs → bucket ≡ get_or bs at bucket → IsEarliest pick bucket → IsEarliest pick (get_or bs at [])
earliest_read at pick bs bucket h is first = subst (λ (ts : List Timed). IsEarliest pick ts) (is ∙ get_or_default bs at bucket [] h) first

-- no bucket has a pair
pub none_read : (P : Timed → Type 0) (at : ℕ) (bs read : List (List Timed)) → read ≡ bs → AreEmptyBefore at read → at ≡ length bs → All P (pairs_of bs)
none_read P at bs read same e is = none-all P bs (subst (λ (n : ℕ). AreEmptyBefore n bs) is (subst (λ (xs : List (List Timed)). AreEmptyBefore at xs) same e))

-- a list of whose items nothing can hold
nothing : (P : Timed → Type 0) (ts : List Timed) → All P ts → ((t : Timed) → P t → ⊥) → ts ≡ []
nothing P [] all none = refl
nothing P (t ∷ ts) all none = absurd (none t (all 0 t (omega arith)))

-- where no pair is earlier than a date, none stands before it in the first row
before_start : (base wait from at date : ℕ) → base ≤ wait → from ≤ 32 → (wait / 32 ≡ base / 32 → from ≡ wait % 32) → at < from → Stands base at date → wait ≤ date → ⊥
before_start base wait from at date h row here lt s w =
    let z : at / 32 ≡ 0 = omega arith in
    let d : date ≡ base / 32 * 32 + at % 32 = subst (λ (r : ℕ). lead r date ≡ lead r base / 32 * 32 + at % 32) z s.digits in
    let b : wait / 32 ≡ base / 32 = omega arith in
    let e : from ≡ wait % 32 = here b in
    omega arith

-- what holds of two lists joined holds of each
left : (P : Timed → Type 0) (xs ys : List Timed) → All P (xs ++ ys) → All P xs
left P xs ys all = λ k d h. subst P (get_or_append_left xs ys d k h) (all k d (omega (arith, length-append xs ys)))

right : (P : Timed → Type 0) (xs ys : List Timed) → All P (xs ++ ys) → All P ys
right P xs ys all = λ k d h. subst P (get_or-append-add xs ys k d) (all (length xs + k) d (omega (arith, length-append xs ys)))

-- what holds of all pairs holds in each bucket
each-pair : (P : Timed → Type 0) (bs : List (List Timed)) → All P (pairs_of bs) → (at : ℕ) → All P (get_or bs at [])
each-pair P [] all at = All-nil P
each-pair P (b ∷ bs) all zero = left P b (pairs_of bs) all
each-pair P (b ∷ bs) all (suc at) = each-pair P bs (right P b (pairs_of bs) all) at

pub empty_before : (base wait from : ℕ) (bs : List (List Timed)) → InPlace base bs → All (λ t. wait ≤ t.date) (pairs_of bs) → base ≤ wait → from ≤ 32 → (wait / 32 ≡ base / 32 → from ≡ wait % 32) → AreEmptyBefore from bs
empty_before base wait from bs all waits h row here = λ at lt.
    nothing (λ t. Stands base at t.date × (wait ≤ t.date)) (get_or bs at []) (λ k d i. (all at k d i, each-pair (λ t. wait ≤ t.date) bs waits at k d i)) (λ t p. before_start base wait from at t.date h row here lt p.0 p.1)
