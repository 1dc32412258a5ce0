-- The dates of entries, by the points of their events.
use Rattle.std.proofs.Common.{◌≡◌, ◌∙◌, ◌<◌, ◌≤◌, ℕ, ◌+◌, ◌^◌, zero, suc, List, [], ◌∷◌, length, map, get_or, refl, sym, ap, subst, arith, inl, inr}
use Rattle.std.specs.Prelude.{ℤ, pos, Option, Some, None, IfSome, IsSomeAnd, slice_set}
use Rattle.std.proofs.lemmas.Int.{ints}
use Rattle.std.proofs.lemmas.List.{length-set}
use Rattle.std.specs.List.{AllByRecursion}
use Rattle.std.specs.declared.rc.Rc.{Rc}
use Rattle.std.proofs.Common.{Global}
use Rattle.crs_base.specs.declared.entry.Entry.{Entry as CodeEntry}
use Rattle.crs_base.specs.declared.symbols.Sym.{Sym}
use Rattle.crs_base.specs.Entry.{Entry}
use Rattle.crs_base.specs.Seen.{entry_of}
use Rattle.crs_model.specs.Partial.{at, dates_of}
use Rattle.crs_audit.specs.Rounds.{date_in, IsNear}
use Rattle.crs_audit.proofs.Near.{set_here, set_there, decided}

abbrev pub Shared : Type 0
Shared = Rc CodeEntry Global

abbrev pub given : List Shared → ℕ → Option ℤ
given es = dates_of (map Some (map (λ e. entry_of e.value) es))

pub given_there : (es : List Shared) (p : ℕ) → p < length es → IsSomeAnd (given es p) (λ d. Unit {0})
given_there [] p l = absurd (omega (arith, l))
given_there (e ∷ es) zero l = tt
given_there (e ∷ es) (suc p) l = given_there es p (omega (arith, l))

pub given_not : (es : List Shared) (p : ℕ) → length es ≤ p → given es p ≡ None
given_not [] p l = refl
given_not (e ∷ es) zero l = absurd (omega (arith, l))
given_not (e ∷ es) (suc p) l = given_not es p (omega (arith, l))

given_at : (es : List Shared) (p : ℕ) (d : Shared) → p < length es → given es p ≡ Some (pos (get_or es p d).value.date)
given_at [] p d l = absurd (omega (arith, l))
given_at (e ∷ es) zero d l = refl
given_at (e ∷ es) (suc p) d l = given_at es p d (omega (arith, l))

near_one : (n : ℕ) → n < 2 ^ 40 → IsNear 1 (pos n)
near_one n l = record { not_above = omega (arith, ints, l); not_below = omega (arith, ints, l) }

pub given_near : (es : List Shared) → AllByRecursion (λ e. e.date < 2 ^ 40) (map (λ e. entry_of e.value) es) → (p : ℕ) → IfSome (given es p) (IsNear 1)
given_near [] a p = tt
given_near (e ∷ es) a zero = near_one e.value.date a.0
given_near (e ∷ es) a (suc p) = given_near es a.1 p

pub dated_at : (es : List Shared) → AllByRecursion (λ e. e.date < 2 ^ 40) (map (λ e. entry_of e.value) es) → (p : ℕ) (d : Shared) → p < length es → (get_or es p d).value.date < 2 ^ 40
dated_at [] a p d l = absurd (omega (arith, l))
dated_at (e ∷ es) a zero d l = a.0
dated_at (e ∷ es) a (suc p) d l = dated_at es a.1 p d (omega (arith, l))

-- one entry's date more
module _ (es : List Shared) (l : List (Option ℤ)) (i : ℕ) (r : Shared) (v : ℤ) (lt : i < length es) (is : r ≡ get_or es i r) (value : v ≡ pos r.value.date)
    (size : length l ≡ 24) (few : length es ≤ 16) where
  pub set_size : length (slice_set l i (Some v)) ≡ 24
  set_size = length-set l i (Some v) ∙ size

  pub set_so_far : ((p : ℕ) → p < i → date_in l p ≡ given es p) → (p : ℕ) → p < i + 1 → date_in (slice_set l i (Some v)) p ≡ given es p
  set_so_far h p k = elim (decided p i) [
    | inl e ↦ ap (date_in (slice_set l i (Some v))) e ∙ set_here l i (Some v) (omega (arith, lt, size, few)) ∙ ap Some (value ∙ ap (λ (q : Shared). pos q.value.date) is)
        ∙ sym (given_at es i r lt) ∙ ap (given es) (sym e)
    | inr n ↦ set_there l i (Some v) p n ∙ h p (omega (arith, k, n))
  ]

  pub set_others : ((p : ℕ) → i ≤ p → date_in l p ≡ None) → (p : ℕ) → i + 1 ≤ p → date_in (slice_set l i (Some v)) p ≡ None
  set_others h p k = set_there l i (Some v) p (λ e. absurd (omega (arith, k, e))) ∙ h p (omega (arith, k))

pub near_by : (l : List (Option ℤ)) (es : List Shared) → ((p : ℕ) → date_in l p ≡ given es p) → AllByRecursion (λ e. e.date < 2 ^ 40) (map (λ e. entry_of e.value) es)
    → (p : ℕ) → IfSome (date_in l p) (IsNear 1)
near_by l es same a p = subst (λ (o : Option ℤ). IfSome o (IsNear 1)) (sym (same p)) (given_near es a p)

lt_or : {P : Type 0} (p n : ℕ) → (p < n → P) → (n ≤ p → P) → P
lt_or p zero f g = g (omega arith)
lt_or zero (suc n) f g = f (omega arith)
lt_or (suc p) (suc n) f g = lt_or p n (λ l. f (omega (arith, l))) (λ l. g (omega (arith, l)))

-- all entries' dates are there
pub all_given : (l : List (Option ℤ)) (es : List Shared) (i : ℕ) → length es ≤ i → i ≤ length es → ((p : ℕ) → p < i → date_in l p ≡ given es p) → ((p : ℕ) → i ≤ p → date_in l p ≡ None)
    → (p : ℕ) → date_in l p ≡ given es p
all_given l es i le ge h k p = lt_or p i (λ q. h p q) (λ q. k p q ∙ sym (given_not es p (omega (arith, le, q))))

-- the entry of an event
event_at : (es : List Shared) (p : ℕ) (d : Shared) → p < length es → at (map Some (map (λ e. entry_of e.value) es)) p ≡ Some (entry_of (get_or es p d).value)
event_at [] p d l = absurd (omega (arith, l))
event_at (e ∷ es) zero d l = refl
event_at (e ∷ es) (suc p) d l = event_at es p d (omega (arith, l))

pub date_there : (es : List Shared) (p : ℕ) (r : Shared) (n : ℕ) → p < length es → r ≡ get_or es p r → n ≡ r.value.date
    → IsSomeAnd (at (map Some (map (λ e. entry_of e.value) es)) p) (λ e. n ≡ e.date)
date_there es p r n l is e =
    subst (λ (o : Option (Entry Sym)). IsSomeAnd o (λ x. n ≡ x.date)) (sym (event_at es p r l)) (e ∙ ap (λ (q : Shared). q.value.date) is)
