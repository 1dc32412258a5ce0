-- The last entry of a kind among entries in the order of their dates, and what holds of each entry.
use Rattle.std.proofs.Common.{◌≡◌, ◌∙◌, ◌<◌, ◌≤◌, ◌-◌, ◌+◌, ℕ, zero, suc, List, [], ◌∷◌, length, map, drop, get_or, refl, sym, ap, subst, arith, inl, inr, Some, Global}
use Rattle.std.proofs.lemmas.Bool.{cases_lt}
use Rattle.std.proofs.lemmas.List.{drop_more, drop_all}
use Rattle.std.specs.List.{AllByRecursion}
use Rattle.std.specs.declared.rc.Rc.{Rc}
use Rattle.crs_base.specs.declared.entry.Entry.{Entry as CodeEntry}
use Rattle.crs_base.specs.declared.symbols.Sym.{Sym}
use Rattle.crs_base.specs.Words.{IsIn}
use Rattle.crs_base.specs.Entry.{Entry}
use Rattle.crs_base.specs.Seen.{entry_of}
use Rattle.crs_base.proofs.Words.{in_map, in_from_each, in_filter_back, ordered_filter}
use Rattle.std.specs.Prelude.{ℤ, pos, ◌+ℤ◌, None, filter}
use Rattle.crs_audit.specs.CitedDates.{IsByDate, is_before, is_since, nat_of, dated_in}
use Rattle.crs_audit.specs.Runs.{entries_of}
use Rattle.crs_audit.specs.Changes.{IsLastDate, IsKept}
use Rattle.crs_audit.proofs.Dated.{in_places, ordered_under}

abbrev Shared : Type 0
Shared = Rc CodeEntry Global

abbrev pub seen : Shared → Entry Sym
seen r = entry_of r.value

in_at : (xs : List Shared) (k : ℕ) (d : Shared) → k < length xs → IsIn (get_or xs k d) xs
in_at [] k d l = absurd (omega arith)
in_at (x ∷ xs) zero d l = inl refl
in_at (x ∷ xs) (suc k) d l = inr (in_at xs k d (omega arith))

by_places : (R : Entry Sym → Type 0) (xs : List Shared) (d : Shared) → ((k : ℕ) → k < length xs → R (seen (get_or xs k d))) → AllByRecursion R (entries_of xs)
by_places R [] d h = tt
by_places R (x ∷ xs) d h = (h 0 (omega arith), by_places R xs d (λ k l. h (suc k) (omega arith)))

module _ {X Y : Type 0} (f : X → Y) (R : Y → Type 0) where
  -- what holds of all holds of the one at a place
  pub holds_there : (xs : List X) (i : ℕ) (r : X) → i < length xs → r ≡ get_or xs i r → AllByRecursion R (map f xs) → R (f r)
  holds_there [] i r l e h = absurd (omega arith)
  holds_there (x ∷ xs) zero r l e h = subst (λ (s : X). R (f s)) (sym e) h.0
  holds_there (x ∷ xs) (suc i) r l e h = holds_there xs i r (omega arith) e h.1

  pub holds_on : (xs : List X) (i : ℕ) (r : X) → i < length xs → r ≡ get_or xs i r → R (f r)
      → (AllByRecursion R (map f (drop i xs)) → AllByRecursion R (map f xs)) → AllByRecursion R (map f (drop (i + 1) xs)) → AllByRecursion R (map f xs)
  holds_on xs i r l e p so h =
      let d : drop i xs ≡ r ∷ drop (i + 1) xs = drop_more xs i r l ∙ ap (λ z. z ∷ drop (i + 1) xs) (sym e) in
      so (subst (λ (ys : List X). AllByRecursion R (map f ys)) (sym d) (p, h))

  pub holds_of_all : (xs : List X) (i : ℕ) → length xs ≤ i → (AllByRecursion R (map f (drop i xs)) → AllByRecursion R (map f xs)) → AllByRecursion R (map f xs)
  holds_of_all xs i l so = so (subst (λ (ys : List X). AllByRecursion R (map f ys)) (sym (drop_all i xs l)) tt)

module _ (P : Entry Sym → Type 0) (xs : List Shared) where
  -- no entry from the place n on is such
  abbrev pub NoneFrom : ℕ → Type 0
  NoneFrom n = (k : ℕ) (d : Shared) → n ≤ k → k < length xs → P (seen (get_or xs k d)) → ⊥

  pub none_such : (n : ℕ) → n ≤ 0 → NoneFrom n → AllByRecursion (λ e. P e → ⊥) (entries_of xs)
  none_such n z none = all xs (λ k d l p. none k d (omega arith) l p)
    where
      all : (ys : List Shared) → ((k : ℕ) (d : Shared) → k < length ys → P (seen (get_or ys k d)) → ⊥) → AllByRecursion (λ e. P e → ⊥) (entries_of ys)
      all [] h = tt
      all (y ∷ ys) h = (h 0 y (omega arith), all ys (λ k d l. h (suc k) d (omega arith)))

  same_there : (k : ℕ) (d r : Shared) → k < length xs → r ≡ get_or xs k r → get_or xs k d ≡ r
  same_there k d r l e = first xs k l e
    where
      first : (ys : List Shared) (j : ℕ) → j < length ys → r ≡ get_or ys j r → get_or ys j d ≡ r
      first [] j l e = absurd (omega arith)
      first (y ∷ ys) zero l e = sym e
      first (y ∷ ys) (suc j) l e = first ys j (omega arith) e

  pub one_less : (n : ℕ) (r : Shared) → 0 < n → n ≤ length xs → r ≡ get_or xs (n - 1) r → (P (seen r) → ⊥) → NoneFrom n → NoneFrom (n - 1)
  one_less n r some most e not none = λ k d l m p. elim (cases_lt k n) [
    | inl lt ↦
        let s : n - 1 ≡ k = omega arith in
        not (subst (λ (t : Shared). P (seen t)) (same_there k d r m (subst (λ (j : ℕ). r ≡ get_or xs j r) s e)) p)
    | inr ge ↦ none k d ge m p
  ]

  pub last_there : (n : ℕ) (r : Shared) → 0 < n → n ≤ length xs → r ≡ get_or xs (n - 1) r → P (seen r) → IsByDate (entries_of xs) → NoneFrom n
      → IsLastDate P (entries_of xs) (Some r.value.date)
  last_there n r some most e p sorted none =
      let l : n - 1 < length xs = omega arith in
      let up = ordered_under seen (λ d e. d.date ≤ e.date) xs sorted in (
        seen r,
        in_map seen xs r (subst (λ (t : Shared). IsIn t xs) (sym e) (in_at xs (n - 1) r l)),
        p,
        refl,
        by_places (λ d. P d → d.date ≤ r.value.date) xs r (λ k m q. elim (cases_lt k n) [
          | inl lt ↦ subst (λ (t : Shared). (get_or xs k r).value.date ≤ t.value.date) (sym e) (in_places (λ t. t.value.date) xs up k (n - 1) r (omega arith) l)
          | inr ge ↦ absurd (none k r ge m q)
        ]),
      )

-- there is one last date
pub one_date : (P : Entry Sym → Type 0) (es : List (Entry Sym)) (m n : ℕ) → IsLastDate P es (Some m) → IsLastDate P es (Some n) → m ≡ n
one_date P es m n h k =
    let a : h.0.date ≤ n = in_from_each (λ d. P d → d.date ≤ n) es k.4 h.0 h.1 h.2 in
    let b : k.0.date ≤ m = in_from_each (λ d. P d → d.date ≤ m) es h.4 k.0 k.1 k.2 in
    let p : h.0.date ≡ m = h.3 in
    let q : k.0.date ≡ n = k.3 in
    omega (arith, a, b, p, q)

pub by_date_in : (from to : ℤ) (es : List (Entry Sym)) → IsByDate es → IsByDate (dated_in from to es)
by_date_in from to es h = ordered_filter (λ d e. d.date ≤ e.date) (is_since (nat_of from)) (filter (is_before (nat_of to)) es) (ordered_filter (λ d e. d.date ≤ e.date) (is_before (nat_of to)) es h)

pub of_dated_in : (from to : ℤ) (es : List (Entry Sym)) (e : Entry Sym) → IsIn e (dated_in from to es) → IsIn e es
of_dated_in from to es e i = (in_filter_back (is_before (nat_of to)) es e (in_filter_back (is_since (nat_of from)) (filter (is_before (nat_of to)) es) e i).0).0

pub last_below : (P : Entry Sym → Type 0) (from to : ℤ) (es : List (Entry Sym)) (m limit : ℕ) → AllByRecursion (λ e. e.date < limit) es → IsLastDate P (dated_in from to es) (Some m) → m < limit
last_below P from to es m limit small h =
    let l : h.0.date < limit = in_from_each (λ e. e.date < limit) es small h.0 (of_dated_in from to es h.0 h.1) in
    let p : h.0.date ≡ m = h.3 in
    omega (arith, l, p)

pub not_kept : (P Q : Entry Sym → Type 0) (es : List (Entry Sym)) (from to : ℤ) → IsLastDate P (dated_in (pos 0) (from +ℤ pos 1) es) None → IsKept P Q es from to → ⊥
not_kept P Q es from to none k = in_from_each (λ e. P e → ⊥) (dated_in (pos 0) (from +ℤ pos 1) es) none k.last.0 k.last.1 k.last.2
