-- Entries that are taken back out.
use Rattle.std.proofs.Common.{◌≡◌, ◌==◌, ℕ, List, [], ◌∷◌, ◌++◌, Bool, true, false, cond, filter, refl, sym, ap, subst, ◌∙◌, Less}
use Rattle.std.specs.Ordering.{is_lt}
use Rattle.std.specs.List.{AllByRecursion}
use Rattle.std.specs.List.Sorted.{IsStrictlySortedBy}
use Rattle.crs_base.specs.Entry.{Entry, entry_cmp}
use Rattle.crs_model.specs.Order.{put_in_order}
use Rattle.crs_buffer.specs.declared.held.Held.{Held}
use Rattle.crs_buffer.specs.HeldOrder.{held_cmp, entry_in, entries_of}
use Rattle.crs_buffer.specs.Entries.{without_arrival}
use Rattle.crs_buffer.specs.Queues.{arrived_otherwise}

pub filter_parts : {A : Type 0} (p : A → Bool) (xs ys : List A) → filter p (xs ++ ys) ≡ filter p xs ++ filter p ys
filter_parts p [] ys = refl
filter_parts p (x ∷ xs) ys = by (p x) (filter_parts p xs ys)
  where
    by : (b : Bool) → filter p (xs ++ ys) ≡ filter p xs ++ filter p ys → cond b (x ∷ filter p (xs ++ ys)) (filter p (xs ++ ys)) ≡ cond b (x ∷ filter p xs) (filter p xs) ++ filter p ys
    by true e = ap (λ zs. x ∷ zs) e
    by false e = e

below_some : (p : Held → Bool) (x : Held) (ks : List Held) → AllByRecursion (λ y. held_cmp x y ≡ Less) ks → AllByRecursion (λ y. held_cmp x y ≡ Less) (filter p ks)
below_some p x [] h = tt
below_some p x (k ∷ ks) h = by (p k) (below_some p x ks h.1)
  where
    by : (b : Bool) → AllByRecursion (λ y. held_cmp x y ≡ Less) (filter p ks) → AllByRecursion (λ y. held_cmp x y ≡ Less) (cond b (k ∷ filter p ks) (filter p ks))
    by true a = (h.0, a)
    by false a = a

sorted_some : (p : Held → Bool) (ks : List Held) → IsStrictlySortedBy held_cmp ks → IsStrictlySortedBy held_cmp (filter p ks)
unfolding IsStrictlySortedBy
sorted_some p [] s = tt
sorted_some p (k ∷ ks) s = by (p k) (sorted_some p ks s.1)
  where
    by : (b : Bool) → IsStrictlySortedBy held_cmp (filter p ks) → IsStrictlySortedBy held_cmp (cond b (k ∷ filter p ks) (filter p ks))
    by true a = (below_some p k ks s.0, a)
    by false a = a

-- what is left is in order
pub sorted_without : (n : ℕ) (ks left : List Held) → left ≡ filter (arrived_otherwise n) ks → IsStrictlySortedBy held_cmp ks → IsStrictlySortedBy held_cmp left
sorted_without n ks left e s = subst (IsStrictlySortedBy held_cmp) (sym e) (sorted_some (arrived_otherwise n) ks s)

shown_without : (n : ℕ) (ks : List Held) → entries_of (filter (arrived_otherwise n) ks) ≡ without_arrival n (entries_of ks)
shown_without n [] = refl
shown_without n (k ∷ ks) = by (arrived_otherwise n k) (shown_without n ks)
  where
    by : (b : Bool) → entries_of (filter (arrived_otherwise n) ks) ≡ without_arrival n (entries_of ks)
        → entries_of (cond b (k ∷ filter (arrived_otherwise n) ks) (filter (arrived_otherwise n) ks)) ≡ cond b (entry_in k ∷ without_arrival n (entries_of ks)) (without_arrival n (entries_of ks))
    by true e = ap (λ es. entry_in k ∷ es) e
    by false e = e

-- and is what was held, without that entry
pub entries_without : (n : ℕ) (ks left : List Held) → left ≡ filter (arrived_otherwise n) ks → entries_of left ≡ without_arrival n (entries_of ks)
entries_without n ks left e = ap entries_of e ∙ shown_without n ks

-- where all arrived otherwise, all are left
pub all_left_alone : {S : Type 0} (n : ℕ) (es : List (Entry S)) → AllByRecursion (λ x. (x.arrival == n) ≡ false) es → without_arrival n es ≡ es
all_left_alone n [] others = refl
all_left_alone n (x ∷ xs) others = rw others.0 (ap (λ ys. x ∷ ys) (all_left_alone n xs others.1))

-- an entry that is taken back as soon as it was put in leaves the others as they were
pub put_taken_back : {S : Type 0} (n : ℕ) (e : Entry S) (es : List (Entry S)) → (e.arrival == n) ≡ true → AllByRecursion (λ x. (x.arrival == n) ≡ false) es → without_arrival n (put_in_order e es) ≡ es
put_taken_back n e [] itself others = rw itself refl
put_taken_back n e (x ∷ xs) itself others = by (is_lt (entry_cmp e x)) (put_taken_back n e xs itself others.1)
  where
    by : (b : Bool) → without_arrival n (put_in_order e xs) ≡ xs → without_arrival n (cond b (e ∷ x ∷ xs) (x ∷ put_in_order e xs)) ≡ x ∷ xs
    by true rest = rw itself (rw others.0 (ap (λ ys. x ∷ ys) (all_left_alone n xs others.1)))
    by false rest = rw others.0 (ap (λ ys. x ∷ ys) rest)
