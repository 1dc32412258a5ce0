-- An entry behind others in key order.
use Rattle.std.proofs.Common.{◌≡◌, ℕ, ◌≤◌, ◌<◌, ◌+◌, ◌==◌, cond, List, [], ◌∷◌, ◌++◌, sym, ap, subst, ◌∙◌, inl, inr, arith, Less, Equal, Greater}
use Rattle.std.specs.Ordering.{nat_cmp, ordering_then, ordering_reverse}
use Rattle.std.specs.Cmp.Lexicographic.{slice_cmp}
use Rattle.std.proofs.lemmas.Cmp.{tied_itself, nat_cmp_total}
use Rattle.std.proofs.lemmas.Bool.{lt-ltb, cases_eq, cases_lt}
use Rattle.crs_base.specs.Sifted.{Sifts}
use Rattle.std.specs.List.{AllByRecursion}
use Rattle.crs_base.specs.declared.symbols.Sym.{Sym}
use Rattle.crs_base.specs.Entry.{Entry, entry_cmp, IsInKeyOrder}
use Rattle.crs_base.proofs.Words.{in_from_each, ordered_append}
use Rattle.crs_base.proofs.KeyOrder.{entry_total, less_by_date}
use Rattle.crs_history.specs.Histories.{IsAfterAll}

-- no entry's key is below itself
pub not_below_itself : (x : Entry Sym) → entry_cmp x x ≡ Less → ⊥
not_below_itself x h = let e = tied_itself entry_total x in absurd (cc)

-- what is behind isn't before
pub turned : (x y : Entry Sym) → entry_cmp x y ≡ Less → entry_cmp y x ≡ Greater
turned x y h = entry_total.antisymm y x ∙ ap ordering_reverse h

pub in_order_push : (xs : List (Entry Sym)) (e : Entry Sym) → IsInKeyOrder xs → IsAfterAll xs e → IsInKeyOrder (xs ++ e ∷ [])
in_order_push xs e h all = ordered_append (λ d e. entry_cmp d e ≡ Less) xs (e ∷ []) h (tt, tt)
    (λ x y i j. elim j [ inl q ↦ subst (λ (w : Entry Sym). entry_cmp x w ≡ Less) (sym q) (in_from_each (λ d. entry_cmp d e ≡ Less) xs all x i) | inr k ↦ absurd k ])

-- of two entries of one date without text, that of the lesser arrival number is before
less_by_arrival : (d e : Entry Sym) → d.date ≡ e.date → d.text ≡ [] → e.text ≡ [] → d.arrival < e.arrival → entry_cmp d e ≡ Less
less_by_arrival d e date text other arrival =
    let one : nat_cmp d.date e.date ≡ Equal = ap (nat_cmp d.date) (sym date) ∙ tied_itself nat_cmp_total d.date in
    let two : slice_cmp nat_cmp d.text e.text ≡ Equal = ap (λ t. slice_cmp nat_cmp t e.text) text ∙ ap (slice_cmp nat_cmp []) other in
    let three : nat_cmp d.arrival e.arrival ≡ Less = ap (λ t. cond t Less (cond (d.arrival == e.arrival) Equal Greater)) (lt-ltb d.arrival e.arrival arrival) in
    ap (λ o. ordering_then o (ordering_then (slice_cmp nat_cmp d.text e.text) (nat_cmp d.arrival e.arrival))) one
    ∙ ap (λ o. ordering_then o (nat_cmp d.arrival e.arrival)) two ∙ three

-- an entry without text is behind such entries, where its date isn't before theirs and its arrival number is greater
pub after_keyed : (xs : List (Entry Sym)) (last count : ℕ) (e : Entry Sym) → AllByRecursion (λ d. (d.date ≤ last) × (d.arrival < count) × (d.text ≡ [])) xs
    → last ≤ e.date → count ≤ e.arrival → e.text ≡ [] → IsAfterAll xs e
after_keyed [] last count e all date arrival text = tt
after_keyed (d ∷ xs) last count e all date arrival text = (
  elim (cases_eq d.date e.date) [
    | inl same ↦ less_by_arrival d e same all.0.2 text (let k = all.0.1 in omega arith)
    | inr differs ↦ less_by_date d e (let k = all.0.0 in below d.date e.date (omega arith) differs)
  ],
  after_keyed xs last count e all.1 date arrival text,
)
  where
    below : (m n : ℕ) → m ≤ n → (m ≡ n → ⊥) → m < n
    below m n le ne = elim (cases_lt m n) [ inl l ↦ l | inr g ↦ absurd (ne (omega arith)) ]

pub keyed_with : (xs : List (Entry Sym)) (last count : ℕ) (e : Entry Sym) → AllByRecursion (λ d. (d.date ≤ last) × (d.arrival < count) × (d.text ≡ [])) xs
    → last ≤ e.date → count ≤ e.arrival → e.text ≡ [] → AllByRecursion (λ d. (d.date ≤ e.date) × (d.arrival < e.arrival + 1) × (d.text ≡ [])) (xs ++ e ∷ [])
keyed_with [] last count e all date arrival text = ((omega arith, omega arith, text), tt)
keyed_with (d ∷ xs) last count e all date arrival text =
    let a = all.0.0 in
    let b = all.0.1 in
    ((omega arith, omega arith, all.0.2), keyed_with xs last count e all.1 date arrival text)

-- what holds of all holds of those that are left
pub all_sifted : {A : Type 0} (P Q : A → Type 0) (xs ys : List A) → AllByRecursion P xs → Sifts Q xs ys → AllByRecursion P ys
all_sifted P Q [] ys all h = subst (AllByRecursion P) (sym h) tt
all_sifted P Q (x ∷ xs) ys all (inl h) = subst (AllByRecursion P) (sym h.2) (all.0, all_sifted P Q xs h.1 all.1 h.3)
all_sifted P Q (x ∷ xs) ys all (inr h) = all_sifted P Q xs ys all.1 h.1
