-- The order of the entries that are held.
use Rattle.std.proofs.Common.{◌≡◌, ◌≤◌, ℕ, List, [], ◌∷◌, refl, sym, ap, subst, Less, arith, Some, None, nat_lt, false, le-ltb}
use Rattle.std.specs.Prelude.{slice_get, option_map}
use Rattle.std.specs.List.{AllByRecursion}
use Rattle.std.specs.List.Sorted.{IsStrictlySortedBy}
use Rattle.crs_base.specs.Entry.{Entry, entry_cmp, IsInKeyOrder}
use Rattle.crs_base.specs.declared.symbols.Sym.{Sym}
use Rattle.crs_base.proofs.KeyOrder.{date_of_less}
use Rattle.crs_buffer.specs.declared.held.Held.{Held}
use Rattle.crs_buffer.specs.HeldOrder.{held_cmp, entry_in, entries_of}
use Rattle.crs_buffer.specs.Entries.{released, left}

all_below : (x : Held) (ks : List Held) → AllByRecursion (λ y. held_cmp x y ≡ Less) ks → AllByRecursion (λ e. entry_cmp (entry_in x) e
    ≡ Less) (entries_of ks)
all_below x [] h = tt
all_below x (k ∷ ks) h = (h.0, all_below x ks h.1)

pub ascends : (ks : List Held) → IsStrictlySortedBy held_cmp ks → IsInKeyOrder (entries_of ks)
unfolding IsStrictlySortedBy
ascends [] h = tt
ascends (k ∷ ks) h = (all_below k ks h.0, ascends ks h.1)

later_all : (h : ℕ) (e : Entry Sym) (es : List (Entry Sym)) → h ≤ e.date → AllByRecursion (λ x. entry_cmp e x ≡ Less) es
    → AllByRecursion (λ x. h ≤ x.date) es
later_all h e [] k all = tt
later_all h e (x ∷ xs) k all = let d : e.date ≤ x.date = date_of_less e x all.0 in (omega (arith, d, k), later_all h e xs k all.1)

-- where the first isn't dated before h, none is
pub none_before : (h : ℕ) (e : Entry Sym) (es all : List (Entry Sym)) → all ≡ e ∷ es → h ≤ e.date → IsInKeyOrder all
    → AllByRecursion (λ x. h ≤ x.date) all
none_before h e es all is k sorted = subst (λ xs. AllByRecursion (λ x. h ≤ x.date) xs) (sym is) (
  k,
  later_all h e es k
      (subst IsInKeyOrder is sorted).0,
)

same_item : (x k : Held) → Some x ≡ Some k → x ≡ k
same_item x k e = cc

-- the same, where the first of a set is known
pub none_held : (h : ℕ) (ks : List Held) (k : Held) → slice_get ks 0 ≡ Some k → h ≤ k.entry.value.date → IsInKeyOrder (entries_of ks)
    → AllByRecursion (λ x. h ≤ x.date) (entries_of ks)
none_held h [] k e d sorted = tt
none_held h (x ∷ xs) k e d sorted = none_before h (entry_in x) (entries_of xs) (entries_of (x ∷ xs)) refl (subst
    (λ y. h ≤ y.entry.value.date) (sym (same_item x k e)) d) sorted

-- ---- the first of all

pub none_first : (ks : List Held) → slice_get ks 0 ≡ None → entries_of ks ≡ []
none_first [] e = refl
none_first (k ∷ ks) e = absurd cc

pub first_dated : (ks : List Held) (k : Held) → slice_get ks 0 ≡ Some k → Some k.entry.value.date
    ≡ option_map (λ (e : Entry Sym). e.date) (slice_get (entries_of ks) 0)
first_dated [] k e = absurd cc
first_dated (x ∷ xs) k e = ap (λ (y : Held). Some y.entry.value.date) (sym (same_item x k e))

pub none_released : (ks : List Held) (k : Held) (h : ℕ) → slice_get ks 0 ≡ Some k → h ≤ k.entry.value.date → None
    ≡ released (entries_of ks) h
none_released [] k h e l = refl
none_released (x ∷ xs) k h e l = let same = same_item x k e in let not : nat_lt (entry_in x).date h
    ≡ false = le-ltb (entry_in x).date h (subst (λ (y : Held). h ≤ y.entry.value.date) (sym same) l) in rw not refl

pub all_left : (ks : List Held) (k : Held) (h : ℕ) → slice_get ks 0 ≡ Some k → h ≤ k.entry.value.date → entries_of ks
    ≡ left (entries_of ks) h
all_left [] k h e l = refl
all_left (x ∷ xs) k h e l = let same = same_item x k e in let not : nat_lt (entry_in x).date h
    ≡ false = le-ltb (entry_in x).date h (subst (λ (y : Held). h ≤ y.entry.value.date) (sym same) l) in rw not refl

pub sorted_rest : (k : Held) (ks all : List Held) → all ≡ k ∷ ks → IsStrictlySortedBy held_cmp all → IsStrictlySortedBy held_cmp ks
unfolding IsStrictlySortedBy
sorted_rest k ks all is s = (subst (IsStrictlySortedBy held_cmp) is s).1
