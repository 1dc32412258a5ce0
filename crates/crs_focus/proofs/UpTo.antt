-- Entries in key order, up to the key of one.
use Rattle.std.proofs.Common.{◌≡◌, ℕ, ◌<◌, ◌≤◌, arith, Bool, true, false, not, cond, List, [], ◌∷◌, filter, refl, ap, ◌∙◌, inl, inr, Less, Greater}
use Rattle.std.specs.Prelude.{◌≢◌}
use Rattle.std.specs.List.{AllByRecursion}
use Rattle.std.specs.Ordering.{is_gt, MatchOrdering, nat_cmp, ordering_then}
use Rattle.std.specs.declared.cmp.Ordering.{Ordering}
use Rattle.std.specs.declared.cmp.Ordering.TheVariants.{Equal}
use Rattle.std.proofs.lemmas.Bool.{cases_lt}
use Rattle.std.proofs.lemmas.Cmp.{upto, ranked}
use Rattle.crs_base.specs.declared.symbols.Sym.{Sym}
use Rattle.crs_base.specs.Entry.{Entry, entry_cmp}
use Rattle.crs_base.specs.Sifted.{Sifts}
use Rattle.crs_base.proofs.KeyOrder.{entry_total}
use Rattle.crs_focus.specs.Candidacy.{is_up_to}

-- what is after an entry whose key is after that of until is so itself
after_too : (until x y : Entry Sym) (b : Bool) → is_gt (entry_cmp y until) ≡ b → is_gt (entry_cmp x until) ≡ true → entry_cmp x y ≡ Less → b ≡ true
after_too until x y true e h l = refl
after_too until x y false e h l =
    let k : is_gt (entry_cmp x until) ≡ false = upto entry_total x y until (ap is_gt l) e in
    absurd cc

-- none is left behind an entry whose key is after that of until
pub none_after : (until x : Entry Sym) (xs : List (Entry Sym)) → is_gt (entry_cmp x until) ≡ true → AllByRecursion (λ y. entry_cmp x y ≡ Less) xs → filter (is_up_to until) xs ≡ []
none_after until x [] h all = refl
none_after until x (y ∷ xs) h all =
    let beyond = after_too until x y (is_gt (entry_cmp y until)) refl h all.0 in
    ap (λ b. cond (not b) (y ∷ filter (is_up_to until) xs) (filter (is_up_to until) xs)) beyond ∙ none_after until x xs h all.1

pub first_after : (until x : Entry Sym) (xs : List (Entry Sym)) → is_gt (entry_cmp x until) ≡ true → AllByRecursion (λ y. entry_cmp x y ≡ Less) xs → filter (is_up_to until) (x ∷ xs) ≡ []
first_after until x xs h all = ap (λ b. cond (not b) (x ∷ filter (is_up_to until) xs) (filter (is_up_to until) xs)) h ∙ none_after until x xs h all

not_after : (o : Ordering) → not (is_gt o) ≡ true → o ≢ Greater
not_after Less h e = cc
not_after Equal h e = cc
not_after Greater h e = absurd cc

after_not : (o : Ordering) → not (is_gt o) ≡ false → o ≢ Greater → ⊥
after_not Less h f = absurd cc
after_not Equal h f = absurd cc
after_not Greater h f = f refl

-- a filter gives those of which P holds, where it tells P
sifts_filter : {A : Type 0} (P : A → Type 0) (p : A → Bool) (xs : List A) → ((x : A) → p x ≡ true → P x) → ((x : A) → p x ≡ false → P x → ⊥) → Sifts P xs (filter p xs)
sifts_filter P p [] f g = refl
sifts_filter {A} P p (x ∷ xs) f g = by (p x) refl (sifts_filter P p xs f g)
  where
    by : (b : Bool) → p x ≡ b → Sifts P xs (filter p xs) → Sifts P (x ∷ xs) (cond b (x ∷ filter p xs) (filter p xs))
    by true e h = inl (f x e, filter p xs, refl, h)
    by false e h = inr (g x e, h)

-- those up to the key of until
pub sifts_up_to : (until : Entry Sym) (xs : List (Entry Sym)) → Sifts (λ e. entry_cmp e until ≢ Greater) xs (filter (is_up_to until) xs)
sifts_up_to until xs = sifts_filter (λ e. entry_cmp e until ≢ Greater) (is_up_to until) xs (λ x. not_after (entry_cmp x until)) (λ x. after_not (entry_cmp x until))

late_greater : (m n : ℕ) (o r : Ordering) → MatchOrdering o (m < n) (m ≡ n) (n < m) → n < m → ordering_then o r ≡ Greater
late_greater m n Less r h l = absurd (omega (arith, h))
late_greater m n Equal r h l = absurd (omega (arith, h))
late_greater m n Greater r h l = refl

-- an entry whose key isn't after that of until isn't dated after it
pub by_date : (e until : Entry Sym) → entry_cmp e until ≢ Greater → e.date ≤ until.date
by_date e until h = elim (cases_lt until.date e.date) [
  | inl l ↦ absurd (h (late_greater e.date until.date (nat_cmp e.date until.date) _ (ranked e.date until.date (nat_cmp e.date until.date) refl) l))
  | inr g ↦ g
]
