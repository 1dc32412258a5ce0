-- A log's entries that were sorted are the same ones in key order.
use Rattle.std.proofs.Common.{◌≡◌, ◌≢◌, ◌∙◌, ◌<◌, ◌≤◌, ℕ, ◌+◌, zero, suc, Bool, false, List, [], ◌∷◌, length, refl, sym, ap, subst, arith, inl, inr, get_or}
use Rattle.std.specs.Prelude.{IsPermutation, IsSortedBy}
use Rattle.std.specs.List.{AllByRecursion, IsDistinct}
use Rattle.std.specs.Ordering.{is_lt, is_eq, ordering_reverse}
use Rattle.std.specs.declared.cmp.Ordering.{Ordering}
use Rattle.std.specs.declared.cmp.Ordering.TheVariants.{Less, Equal, Greater}
use Rattle.std.specs.declared.rc.Rc.{Rc}
use Rattle.std.proofs.Common.{Global}
use Rattle.std.proofs.lemmas.List.{length-map}
use Rattle.std.proofs.lemmas.List.Sorted.{ranks_by, sorted_far, IsPermutation-sym, Contains-permutation, length_permutation}
use Rattle.std.proofs.lemmas.Map.Keys.{IsDistinct-IsPermutation}
use Rattle.crs_base.specs.declared.entry.Entry.{Entry as CodeEntry}
use Rattle.crs_base.specs.declared.symbols.Sym.{Sym}
use Rattle.crs_base.specs.Words.{IsIn, Ordered}
use Rattle.crs_base.specs.Entry.{Entry, Key, key_of, entry_cmp, IsInKeyOrder}
use Rattle.crs_base.specs.Seen.{entry_of}
use Rattle.crs_base.proofs.Words.{in_map, in_map_back}
use Rattle.crs_base.proofs.KeyOrder.{entry_total, key_exact}
use Rattle.crs_model.specs.Order.{HaveSameMembers}
use Rattle.crs_audit.specs.Runs.{entries_of, ArePlaced, IsKeyed}

abbrev Shared : Type 0
Shared = Rc CodeEntry Global

abbrev seen : Shared → Entry Sym
seen r = entry_of r.value

abbrev later : Shared → Shared → Bool
later r s = is_lt (entry_cmp (seen r) (seen s))

abbrev tie : Shared → Shared → Bool
tie r s = is_eq (entry_cmp (seen r) (seen s))

-- ---- members

in_at : {A : Type 0} (xs : List A) (k : ℕ) (d : A) → k < length xs → IsIn (get_or xs k d) xs
in_at [] k d l = absurd (omega arith)
in_at (x ∷ xs) zero d l = inl refl
in_at (x ∷ xs) (suc k) d l = inr (in_at xs k d (omega arith))

place_of : {A : Type 0} (xs : List A) (x d : A) → IsIn x xs → (k : ℕ) × (k < length xs) × (get_or xs k d ≡ x)
place_of [] x d i = absurd i
place_of (y ∷ xs) x d (inl e) = (0, omega arith, sym e)
place_of (y ∷ xs) x d (inr i) = let r = place_of xs x d i in (suc r.0, (let l = r.1 in omega arith), r.2)

moved_in : {A : Type 0} (xs ys : List A) → IsPermutation xs ys → (x : A) → IsIn x xs → IsIn x ys
moved_in {A} xs ys p x i =
    let h = Contains-permutation xs ys x p (place_of xs x x i) in
    subst (λ (t : A). IsIn t ys) h.2 (in_at ys h.0 x h.1)

seen_in : (rs ss : List Shared) → ((r : Shared) → IsIn r rs → IsIn r ss) → (e : Entry Sym) → IsIn e (entries_of rs) → IsIn e (entries_of ss)
seen_in rs ss h e i =
    let k = in_map_back seen rs e i in
    subst (λ (d : Entry Sym). IsIn d (entries_of ss)) (sym k.2) (in_map seen ss k.0 (h k.0 k.1))

-- ---- arrival numbers

above : (n m : ℕ) (es : List (Entry Sym)) → n < m → ArePlaced m es → AllByRecursion (λ e. n ≢ e.arrival) es
above n m [] lt p = tt
above n m (e ∷ es) lt p = ((λ q. let a : e.arrival ≡ m = p.0 in omega (arith, a, q, lt)), above n (m + 1) es (omega (arith, lt)) p.1)

-- no number stands twice
pub placed_apart : (n : ℕ) (es : List (Entry Sym)) → ArePlaced n es → Ordered (λ d e. d.arrival ≢ e.arrival) es
placed_apart n [] p = tt
placed_apart n (e ∷ es) p = (
  subst (λ (k : ℕ). AllByRecursion (λ (d : Entry Sym). k ≢ d.arrival) es) (sym p.0) (above n (n + 1) es (omega arith) p.1),
  placed_apart (n + 1) es p.1,
)

not_tied : (o : Ordering) → (o ≡ Equal → ⊥) → is_eq o ≡ false
not_tied Less h = refl
not_tied Equal h = absurd (h refl)
not_tied Greater h = refl

none_tied : (rs : List Shared) → Ordered (λ d e. d.arrival ≢ e.arrival) (entries_of rs) → IsDistinct tie rs
unfolding IsDistinct
none_tied [] o = tt
none_tied (r ∷ rs) o = (each rs o.0, none_tied rs o.1)
  where
    each : (ss : List Shared) → AllByRecursion (λ e. (seen r).arrival ≢ e.arrival) (entries_of ss) → AllByRecursion (λ s. tie r s ≡ false) ss
    each [] h = tt
    each (s ∷ ss) h = (
      not_tied (entry_cmp (seen r) (seen s)) (λ q. h.0 (ap (λ (k : Key). k.arrival) (key_exact (key_of (seen r)) (key_of (seen s)) q))),
      each ss h.1,
    )

-- ---- order

turned : (o : Ordering) → is_eq o ≡ is_eq (ordering_reverse o)
turned Less = refl
turned Equal = refl
turned Greater = refl

tie_flips : (r s : Shared) → tie r s ≡ tie s r
tie_flips r s = ap is_eq (entry_total.antisymm (seen r) (seen s)) ∙ sym (turned (entry_cmp (seen s) (seen r)))

less_by : (o p : Ordering) → o ≡ ordering_reverse p → is_eq o ≡ false → is_lt p ≡ false → o ≡ Less
less_by o Less e t f = absurd cc
less_by o Equal e t f = absurd (never o e t)
  where
    never : (o : Ordering) → o ≡ Equal → is_eq o ≡ false → ⊥
    never Less e t = absurd cc
    never Equal e t = absurd cc
    never Greater e t = absurd cc
less_by o Greater e t f = e

sorted_rest : (r : Shared) (rs : List Shared) → IsSortedBy later (r ∷ rs) → IsSortedBy later rs
sorted_rest r rs up k d l m =
    let e : suc k + 1 ≡ suc (k + 1) = omega arith in
    subst (λ (n : ℕ). later (get_or (r ∷ rs) n d) (get_or rs k d) ≡ false) e (up (suc k) d (omega arith) (omega arith))

first_is_least : (r : Shared) (rs : List Shared) → IsSortedBy later (r ∷ rs) → (s : Shared) → IsIn s rs → later s r ≡ false
first_is_least r rs up s i =
    let p = place_of rs s r i in
    let l = p.1 in
    ap (λ (t : Shared). later t r) (sym p.2) ∙ sorted_far later (ranks_by (entry_total {S = Sym}) seen) (r ∷ rs) up 0 (suc p.0) r (omega arith) (omega arith)

ascends : (rs : List Shared) → IsSortedBy later rs → IsDistinct tie rs → IsInKeyOrder (entries_of rs)
unfolding IsDistinct
ascends [] up d = tt
ascends (r ∷ rs) up d = (each rs (first_is_least r rs up) d.0, ascends rs (sorted_rest r rs up) d.1)
  where
    each : (ss : List Shared) → ((s : Shared) → IsIn s ss → later s r ≡ false) → AllByRecursion (λ s. tie r s ≡ false) ss → AllByRecursion (λ e. entry_cmp (seen r) e ≡ Less) (entries_of ss)
    each [] low t = tt
    each (s ∷ ss) low t = (
      less_by (entry_cmp (seen r) (seen s)) (entry_cmp (seen s) (seen r)) (entry_total.antisymm (seen r) (seen s)) t.0 (low s (inl refl)),
      each ss (λ u i. low u (inr i)) t.1,
    )

module _ (entries by_key : List Shared) (placed : ArePlaced 0 (entries_of entries)) (k : IsKeyed entries by_key) where
  pub in_key_order : IsInKeyOrder (entries_of by_key)
  in_key_order = ascends by_key k.3
      (IsDistinct-IsPermutation tie tie_flips k.0 by_key k.2 (none_tied k.0 (subst (Ordered (λ d e. d.arrival ≢ e.arrival)) (sym k.1) (placed_apart 0 (entries_of entries) placed))))

  pub same_members : HaveSameMembers (entries_of by_key) (entries_of entries)
  same_members = record {
    there = λ e i. subst (IsIn e) k.1 (seen_in by_key k.0 (moved_in by_key k.0 (IsPermutation-sym k.0 by_key k.2)) e i);
    back = λ e i. seen_in k.0 by_key (moved_in k.0 by_key k.2) e (subst (IsIn e) (sym k.1) i);
  }

-- no more are sorted than there were
pub few_sorted : (entries by_key : List Shared) (limit : ℕ) → IsKeyed entries by_key → length entries ≤ limit → length by_key ≤ limit
few_sorted entries by_key limit k few =
    let moved : length by_key ≡ length k.0 = length_permutation k.0 by_key k.2 in
    let copied : length (entries_of k.0) ≡ length (entries_of entries) = ap length k.1 in
    let a : length (entries_of k.0) ≡ length k.0 = length-map k.0 seen in
    let b : length (entries_of entries) ≡ length entries = length-map entries seen in
    omega (arith, moved, copied, a, b, few)
