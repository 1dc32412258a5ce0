-- An entry put in among those of a set and of a queue behind it.
use Rattle.std.proofs.Common.{◌≡◌, ℕ, zero, suc, ◌<◌, ◌-◌, List, [], ◌∷◌, ◌++◌, length, drop, take, refl, sym, ap, subst, ◌∙◌, append_assoc, arith, Ordering, Less, Equal, Greater}
use Rattle.std.specs.Prelude.{Result, Ok, Err, OnOk, OnErr, Some, slice_get, slice_index_or}
use Rattle.std.specs.Ordering.{match_ordering, ordering_reverse}
use Rattle.std.specs.List.{AllByRecursion}
use Rattle.std.specs.List.Sorted.{IsStrictlySortedBy}
use Rattle.std.specs.BTreeSet.{insert_key}
use Rattle.crs_base.specs.declared.symbols.Sym.{Sym}
use Rattle.crs_base.specs.Entry.{Entry}
use Rattle.crs_model.specs.Order.{put_in_order}
use Rattle.crs_buffer.proofs.Inserted.{inserted}
use Rattle.crs_buffer.specs.declared.held.Held.{Held}
use Rattle.crs_buffer.specs.HeldOrder.{held_cmp, held_total, entry_in, entries_of}
use Rattle.crs_buffer.specs.Entries.{IsNewKey}
use Rattle.crs_buffer.specs.Queues.{ComesBefore, ComesAfter, IsTaken}

-- ---- the order

less_back : (o : Ordering) (r : Ordering) → o ≡ Greater → o ≡ ordering_reverse r → r ≡ Less
less_back o Less g e = refl
less_back o Equal g e = absurd cc
less_back o Greater g e = absurd cc

pub greater_of : (x y : Held) → held_cmp y x ≡ Less → held_cmp x y ≡ Greater
greater_of x y l = held_total.antisymm x y ∙ ap ordering_reverse l

pub less_of : (x y : Held) → held_cmp x y ≡ Greater → held_cmp y x ≡ Less
less_of x y g = less_back (held_cmp x y) (held_cmp y x) g (held_total.antisymm x y)

-- k after y, and y after x
pub greater_chain : (k y x : Held) → held_cmp k y ≡ Greater → held_cmp x y ≡ Less → held_cmp k x ≡ Greater
greater_chain k y x g l = greater_of k x (held_total.trans x y k l (less_of k y g))

-- ---- the set's insertion, in parts

put_first : (k : Held) (ys : List Held) → ComesBefore k ys → insert_key held_cmp ys k ≡ k ∷ ys
put_first k [] a = refl
put_first k (y ∷ ys) a = rw a.0 refl

by_order : (k x : Held) (xs ys : List Held) (o : Ordering) → insert_key held_cmp xs k ++ ys ≡ insert_key held_cmp (xs ++ ys) k
    → match_ordering o (k ∷ x ∷ xs) (x ∷ xs) (x ∷ insert_key held_cmp xs k) ++ ys
    ≡ match_ordering o (k ∷ x ∷ xs ++ ys) (x ∷ xs ++ ys) (x ∷ insert_key held_cmp (xs ++ ys) k)
by_order k x xs ys Less h = refl
by_order k x xs ys Equal h = refl
by_order k x xs ys Greater h = ap (λ zs. x ∷ zs) h

-- into the first part, where it comes before the second
pub insert_head : (k : Held) (xs ys : List Held) → ComesBefore k ys → insert_key held_cmp xs k ++ ys ≡ insert_key held_cmp (xs ++ ys) k
insert_head k [] ys a = sym (put_first k ys a)
insert_head k (x ∷ xs) ys a = by_order k x xs ys (held_cmp k x) (insert_head k xs ys a)

-- behind the first part
pub insert_behind : (k : Held) (xs ys : List Held) → ComesAfter k xs → insert_key held_cmp (xs ++ ys) k ≡ xs ++ insert_key held_cmp ys k
insert_behind k [] ys a = refl
insert_behind k (x ∷ xs) ys a = rw a.0 (ap (λ zs. x ∷ zs) (insert_behind k xs ys a.1))

parts : {A : Type 0} (n : ℕ) (xs : List A) → xs ≡ take n xs ++ drop n xs
parts zero xs = refl
parts (suc n) [] = refl
parts (suc n) (x ∷ xs) = ap (λ zs. x ∷ zs) (parts n xs)

-- between the two parts of the queue
pub insert_between : (k : Held) (ks qs : List Held) (n : ℕ) → ComesAfter k (ks ++ take n qs) → ComesBefore k (drop n qs)
    → ks ++ (take n qs ++ k ∷ drop n qs) ≡ insert_key held_cmp (ks ++ qs) k
insert_between k ks qs n behind before =
    let split : ks ++ qs ≡ (ks ++ take n qs) ++ drop n qs = ap (λ zs. ks ++ zs) (parts n qs)
    ∙ sym (append_assoc ks (take n qs) (drop n qs)) in
    sym (append_assoc ks (take n qs) (k ∷ drop n qs))
    ∙ ap (λ zs. (ks ++ take n qs) ++ zs) (sym (put_first k (drop n qs) before))
    ∙ sym (insert_behind k (ks ++ take n qs) (drop n qs) behind)
    ∙ ap (λ zs. insert_key held_cmp zs k) (sym split)

-- ---- sorted lists

head_after : (k q x : Held) (xs : List Held) (ys : List Held) → AllByRecursion (λ y. held_cmp x y ≡ Less) (xs ++ q ∷ ys) → held_cmp k q
    ≡ Greater → held_cmp k x ≡ Greater
head_after k q x [] ys a g = greater_chain k q x g a.0
head_after k q x (z ∷ xs) ys a g = head_after k q x xs ys a.1 g

-- what comes after one comes after all before it
pub after_all : (k q : Held) (xs ys : List Held) → IsStrictlySortedBy held_cmp (xs ++ q ∷ ys) → held_cmp k q ≡ Greater
    → ComesAfter k (xs ++ q ∷ [])
unfolding IsStrictlySortedBy
after_all k q [] ys s g = (g, tt)
after_all k q (x ∷ xs) ys s g = (head_after k q x xs ys s.0 g, after_all k q xs ys s.1 g)

-- the last of the first part comes after all before it
last_after : (x q : Held) (xs ys : List Held) → AllByRecursion (λ y. held_cmp x y ≡ Less) (xs ++ q ∷ ys) → held_cmp q x ≡ Greater
last_after x q [] ys a = greater_of q x a.0
last_after x q (z ∷ xs) ys a = last_after x q xs ys a.1

pub next_after : (q : Held) (xs ys : List Held) → IsStrictlySortedBy held_cmp (xs ++ q ∷ ys) → ComesAfter q xs
unfolding IsStrictlySortedBy
next_after q [] ys s = tt
next_after q (x ∷ xs) ys s = (last_after x q xs ys s.0, next_after q xs ys s.1)

put_by : (P : Held → Type 0) (k x : Held) (xs : List Held) → P k → AllByRecursion P (x ∷ xs)
    → AllByRecursion P (insert_key held_cmp xs k) → (o : Ordering)
    → AllByRecursion P (match_ordering o (k ∷ x ∷ xs) (x ∷ xs) (x ∷ insert_key held_cmp xs k))
put_by P k x xs p a more Less = (p, a)
put_by P k x xs p a more Equal = a
put_by P k x xs p a more Greater = (a.0, more)

all_put : (P : Held → Type 0) (k : Held) (xs : List Held) → P k → AllByRecursion P xs → AllByRecursion P (insert_key held_cmp xs k)
all_put P k [] p a = (p, tt)
all_put P k (x ∷ xs) p a = put_by P k x xs p a (all_put P k xs p a.1) (held_cmp k x)

below_all : (k x : Held) (xs : List Held) → held_cmp k x ≡ Less → ComesBefore x xs → ComesBefore k xs
below_all k x [] l a = tt
below_all k x (y ∷ ys) l a = (held_total.trans k x y l a.0, below_all k x ys l a.1)

sorted_by : (k x : Held) (xs : List Held) → IsStrictlySortedBy held_cmp (x ∷ xs)
    → IsStrictlySortedBy held_cmp (insert_key held_cmp xs k) → (o : Ordering) → held_cmp k x ≡ o
    → IsStrictlySortedBy held_cmp (match_ordering o (k ∷ x ∷ xs) (x ∷ xs) (x ∷ insert_key held_cmp xs k))
unfolding IsStrictlySortedBy
sorted_by k x xs s more Less e = ((e, below_all k x xs e s.0), s)
sorted_by k x xs s more Equal e = s
sorted_by k x xs s more Greater e = (all_put (λ y. held_cmp x y ≡ Less) k xs (less_of k x e) s.0, more)

-- a sorted list stays so
pub sorted_put : (k : Held) (xs : List Held) → IsStrictlySortedBy held_cmp xs → IsStrictlySortedBy held_cmp (insert_key held_cmp xs k)
unfolding IsStrictlySortedBy
sorted_put k [] s = (tt, tt)
sorted_put k (x ∷ xs) s = sorted_by k x xs s (sorted_put k xs s.1) (held_cmp k x) refl

put_last : (k : Held) (xs : List Held) → ComesAfter k xs → insert_key held_cmp xs k ≡ xs ++ k ∷ []
put_last k [] a = refl
put_last k (x ∷ xs) a = rw a.0 (ap (λ zs. x ∷ zs) (put_last k xs a.1))

-- the first of the queue, moved into the set
pub moved_first : (first : Held) (ks qs rest new : List Held) → qs ≡ first ∷ rest → IsStrictlySortedBy held_cmp (ks ++ qs) → new
    ≡ insert_key held_cmp ks first → new ++ rest ≡ ks ++ qs
moved_first first ks qs rest new is s e =
    ap (λ zs. zs ++ rest) (e ∙ put_last first ks (next_after first ks rest (subst (λ zs. IsStrictlySortedBy held_cmp (ks ++ zs)) is s)))
    ∙ append_assoc ks (first ∷ []) rest ∙ ap (λ zs. ks ++ zs) (sym is)

-- ---- places

pub got : {A : Type 0} (xs : List A) (n : ℕ) (q : A) → n < length xs → q ≡ slice_index_or xs n q → slice_get xs n ≡ Some q
got [] n q l e = absurd (omega arith)
got (x ∷ xs) zero q l e = ap Some (sym e)
got (x ∷ xs) (suc n) q l e = got xs n q (omega arith) e

some_same : {A : Type 0} (x q : A) → Some x ≡ Some q → x ≡ q
some_same x q e = cc

pub part_at : {A : Type 0} (xs : List A) (n : ℕ) (q : A) → slice_get xs n ≡ Some q → xs ≡ take n xs ++ q ∷ drop (suc n) xs
part_at [] n q e = absurd cc
part_at (x ∷ xs) zero q e = ap (λ z. z ∷ xs) (some_same x q e)
part_at (x ∷ xs) (suc n) q e = ap (λ zs. x ∷ zs) (part_at xs n q e)

pub take_at : {A : Type 0} (xs : List A) (n : ℕ) (q : A) → slice_get xs n ≡ Some q → take (suc n) xs ≡ take n xs ++ q ∷ []
take_at [] n q e = absurd cc
take_at (x ∷ xs) zero q e = ap (λ z. z ∷ []) (some_same x q e)
take_at (x ∷ xs) (suc n) q e = ap (λ zs. x ∷ zs) (take_at xs n q e)

pub drop_at : {A : Type 0} (xs : List A) (n : ℕ) (q : A) → slice_get xs n ≡ Some q → drop n xs ≡ q ∷ drop (suc n) xs
drop_at [] n q e = absurd cc
drop_at (x ∷ xs) zero q e = ap (λ z. z ∷ xs) (some_same x q e)
drop_at (x ∷ xs) (suc n) q e = drop_at xs n q e

-- behind one of the queue
pub behind_queued : (k q : Held) (ks qs : List Held) (n : ℕ) → IsStrictlySortedBy held_cmp (ks ++ qs) → slice_get qs n ≡ Some q
    → held_cmp k q ≡ Greater → ComesAfter k (ks ++ take (suc n) qs)
behind_queued k q ks qs n s e g =
    let split : ks ++ qs ≡ (ks ++ take n qs) ++ q ∷ drop (suc n) qs = ap (λ zs. ks ++ zs) (part_at qs n q e)
    ∙ sym (append_assoc ks (take n qs) (q ∷ drop (suc n) qs)) in
    let front : (ks ++ take n qs) ++ q ∷ [] ≡ ks ++ take (suc n) qs = append_assoc ks (take n qs) (q ∷ [])
    ∙ ap (λ zs. ks ++ zs) (sym (take_at qs n q e)) in
    subst (ComesAfter k) front (after_all k q (ks ++ take n qs) (drop (suc n) qs) (subst (IsStrictlySortedBy held_cmp) split s) g)

take_whole : {A : Type 0} (xs : List A) (n : ℕ) → suc n ≡ length xs → take (suc n) xs ≡ xs
take_whole [] n e = refl
take_whole (x ∷ []) zero e = refl
take_whole (x ∷ y ∷ ys) zero e = absurd (omega arith)
take_whole (x ∷ []) (suc n) e = absurd (omega arith)
take_whole (x ∷ y ∷ ys) (suc n) e = ap (λ zs. x ∷ zs) (take_whole (y ∷ ys) n (omega arith))

none_behind : {A : Type 0} (xs : List A) → xs ++ [] ≡ xs
none_behind [] = refl
none_behind (x ∷ xs) = ap (λ zs. x ∷ zs) (none_behind xs)

-- behind the last of the set
pub behind_set : (k q : Held) (ks qs : List Held) → IsStrictlySortedBy held_cmp (ks ++ qs) → 0 < length ks
    → slice_get ks (length ks - 1) ≡ Some q → held_cmp k q ≡ Greater → ComesAfter k (ks ++ [])
behind_set k q ks qs s some e g =
    let n : ℕ = length ks - 1 in
    let is : suc n ≡ length ks = omega arith in
    let split : ks ++ qs ≡ take n ks ++ q ∷ (drop (suc n) ks ++ qs) = ap (λ zs. zs ++ qs) (part_at ks n q e)
    ∙ append_assoc (take n ks) (q ∷ drop (suc n) ks) qs in
    let front : take n ks ++ q ∷ [] ≡ ks ++ [] = sym (take_at ks n q e) ∙ take_whole ks n is ∙ sym (none_behind ks) in
    subst (ComesAfter k) front (after_all k q (take n ks) (drop (suc n) ks ++ qs) (subst (IsStrictlySortedBy held_cmp) split s) g)

-- ---- keys

taken_at : (k q : Held) (xs ys : List Held) → held_cmp k q ≡ Equal → IsTaken k (xs ++ q ∷ ys)
taken_at k q [] ys e new = new.0 e
taken_at k q (x ∷ xs) ys e new = taken_at k q xs ys e new.1

pub taken_queued : (k q : Held) (ks qs : List Held) (n : ℕ) → slice_get qs n ≡ Some q → held_cmp k q ≡ Equal → IsTaken k (ks ++ qs)
taken_queued k q ks qs n e is =
    let split : ks ++ qs ≡ (ks ++ take n qs) ++ q ∷ drop (suc n) qs = ap (λ zs. ks ++ zs) (part_at qs n q e)
    ∙ sym (append_assoc ks (take n qs) (q ∷ drop (suc n) qs)) in
    subst (IsTaken k) (sym split) (taken_at k q (ks ++ take n qs) (drop (suc n) qs) is)

pub taken_set : (k q : Held) (ks qs : List Held) (n : ℕ) → slice_get ks n ≡ Some q → held_cmp k q ≡ Equal → IsTaken k (ks ++ qs)
taken_set k q ks qs n e is =
    let split : ks ++ qs ≡ take n ks ++ q ∷ (drop (suc n) ks ++ qs) = ap (λ zs. zs ++ qs) (part_at ks n q e)
    ∙ append_assoc (take n ks) (q ∷ drop (suc n) ks) qs in
    subst (IsTaken k) (sym split) (taken_at k q (take n ks) (drop (suc n) ks ++ qs) is)

-- one more of what was left out
pub dropped_one : {A : Type 0} (P : A → Type 0) (xs : List A) (n m : ℕ) → suc n ≡ m → n < length xs → ((q : A) → slice_get xs n
    ≡ Some q → P q) → AllByRecursion P (drop m xs) → AllByRecursion P (drop n xs)
dropped_one P [] n m e l p a = absurd (omega arith)
dropped_one P (x ∷ xs) zero zero e l p a = absurd (omega arith)
dropped_one P (x ∷ xs) zero (suc zero) e l p a = (p x refl, a)
dropped_one P (x ∷ xs) zero (suc (suc m)) e l p a = absurd (omega arith)
dropped_one P (x ∷ xs) (suc n) zero e l p a = absurd (omega arith)
dropped_one P (x ∷ xs) (suc n) (suc m) e l p a = dropped_one P xs n m (omega arith) (omega arith) p a

-- ---- what a put leaves

pub put_sorted : {A E : Type 0} (r : Result A E) (k : Held) (old new : List Held) → OnOk r (new ≡ insert_key held_cmp old k)
    → OnErr r (new ≡ old) → IsStrictlySortedBy held_cmp old → IsStrictlySortedBy held_cmp new
put_sorted (Ok x) k old new ok err s = subst (IsStrictlySortedBy held_cmp) (sym ok) (sorted_put k old s)
put_sorted (Err x) k old new ok err s = subst (IsStrictlySortedBy held_cmp) (sym err) s

pub put_shown : {A E : Type 0} (r : Result A E) (k : Held) (old new : List Held) (view : List (Entry Sym)) → OnOk r (new
    ≡ insert_key held_cmp old k) → entries_of old ≡ view → IsNewKey (entry_in k) view
    → OnOk r (entries_of new ≡ put_in_order (entry_in k) view)
put_shown (Ok x) k old new view ok is fresh = ap entries_of ok ∙ inserted old k (subst (IsNewKey (entry_in k)) (sym is) fresh)
    ∙ ap (put_in_order (entry_in k)) is
put_shown (Err x) k old new view ok is fresh = tt
