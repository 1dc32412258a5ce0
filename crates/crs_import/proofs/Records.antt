-- How many records bytes can have, and the records behind the first.
use Rattle.std.proofs.Common.{◌≡◌, ◌<◌, ◌≤◌, ◌+◌, ℕ, zero, suc, Bool, true, false, List, [], ◌∷◌, ◌++◌, length, Option, Some, None, ◌⊎◌, inl, inr, arith, refl, sym, ap, add-one}
use Rattle.csv.specs.Machine.{Read, next_record, step, is_end, ends_at_end, fields_after, field_after}
use Rattle.csv.specs.Reading.{records_from, records_next, default_config, AreRecords, Reached}
use Rattle.csv.specs.declared.parser.State.{State}
use Rattle.csv.specs.declared.parser.State.TheVariants as st

-- a read takes bytes, or leaves none and the state of a start
abbrev Goes : List ℕ → Read → Type 0
Goes xs q = (length q.2 + 1 ≤ length xs) ⊎ ((q.1 ≡ st.StartRecord) × (q.2 ≡ []))

longer : (c : ℕ) (rest : List ℕ) (q : Read) → Goes rest q → Goes (c ∷ rest) q
longer c rest q (inl h) = inl (omega arith)
longer c rest q (inr h) = inr h

goes : (s : State) (fields : List (List ℕ)) (field xs : List ℕ) (q : Read) → next_record default_config s fields field xs ≡ Some q → Goes xs q
unfolding next_record
goes s fields field [] q e = by (ends_at_end s) refl
  where
    by : (b : Bool) → ends_at_end s ≡ b → Goes [] q
    by true t = let same : (fields ++ (field ∷ []), st.StartRecord, []) ≡ q = (cc (rw t at e)) in inr (rw (← same) (refl, refl))
    by false t = cc (rw t at e)
goes s fields field (c ∷ rest) q e = by (is_end (step default_config s c).1) refl (λ h. goes (step default_config s c).0 (fields_after (step default_config s c).1 fields field) (field_after (step default_config s c).1 c field) rest q h)
  where
    by : (b : Bool) → is_end (step default_config s c).1 ≡ b
        → (next_record default_config (step default_config s c).0 (fields_after (step default_config s c).1 fields field) (field_after (step default_config s c).1 c field) rest ≡ Some q → Goes rest q)
        → Goes (c ∷ rest) q
    by true t more = let same : rest ≡ q.2 = cc (rw t at e) in inl (rw (← same) (omega arith))
    by false t more = longer c rest q (more (rw t at e))

-- n reads come to the end
abbrev Enough : ℕ → State → List ℕ → Type 0
Enough n s xs = (length xs < n) ⊎ ((s ≡ st.StartRecord) × (xs ≡ []))

enough_behind : (n : ℕ) (s : State) (xs : List ℕ) (q : Read) → Enough (suc n) s xs → Goes xs q → Enough n q.1 q.2
enough_behind n s xs q (inl a) (inl b) = inl (omega arith)
enough_behind n s xs q (inr a) (inl b) = let none : length xs ≡ 0 = ap length a.1 in absurd (omega arith)
enough_behind n s xs q a (inr b) = inr b

none_at_end : (n : ℕ) (s : State) (xs : List ℕ) → Enough 0 s xs → records_from default_config n s xs ≡ []
unfolding records_from next_record
none_at_end zero s xs a = refl
none_at_end (suc n) s xs (inl a) = absurd (omega arith)
none_at_end (suc n) s xs (inr a) = rw (a.0, a.1) refl

same_rows : (n m : ℕ) (s : State) (xs : List ℕ) → Enough n s xs → Enough m s xs → records_from default_config n s xs ≡ records_from default_config m s xs
unfolding records_from
same_rows zero m s xs a b = sym (none_at_end m s xs a)
same_rows (suc n) zero s xs a b = none_at_end (suc n) s xs b
same_rows (suc n) (suc m) s xs a b = by (next_record default_config s [] [] xs) refl (λ q h. same_rows n m q.1 q.2 (enough_behind n s xs q a (goes s [] [] xs q h)) (enough_behind m s xs q b (goes s [] [] xs q h)))
  where
    by : (o : Option Read) → next_record default_config s [] [] xs ≡ o → ((q : Read) → next_record default_config s [] [] xs ≡ Some q → records_from default_config n q.1 q.2 ≡ records_from default_config m q.1 q.2)
        → records_next (records_from default_config n) (next_record default_config s [] [] xs) ≡ records_next (records_from default_config m) (next_record default_config s [] [] xs)
    by None e more = rw e refl
    by (Some q) e more = let same = more q e in rw (e, same) refl

-- the first record, and those behind it
pub first_row : (s : State) (xs : List ℕ) (q : Read) → next_record default_config s [] [] xs ≡ Some q
    → records_from default_config (length xs + 1) s xs ≡ q.0 ∷ records_from default_config (length q.2 + 1) q.1 q.2
unfolding records_from
first_row s xs q e =
    let g = goes s [] [] xs q e in
    let same = same_rows (length xs) (length q.2 + 1) q.1 q.2 (enough_behind (length xs) s xs q (inl (omega arith)) g) (inl (omega arith)) in
    rw (add-one (length xs), e, same) refl

-- no record is left
pub no_row : (s : State) (xs : List ℕ) → next_record default_config s [] [] xs ≡ None → records_from default_config (length xs + 1) s xs ≡ []
unfolding records_from
no_row s xs e = rw (add-one, e) refl

-- enough reads give all records
all_from : (n : ℕ) (s : State) (xs : List ℕ) → Enough n s xs → AreRecords default_config s xs (records_from default_config n s xs)
unfolding records_from next_record Reached
all_from zero s xs (inl a) = absurd (omega arith)
all_from zero s xs (inr a) = (s, xs, (refl, refl), rw (a.0, a.1) refl)
all_from (suc n) s xs a = by (next_record default_config s [] [] xs) refl (λ q h. all_from n q.1 q.2 (enough_behind n s xs q a (goes s [] [] xs q h)))
  where
    by : (o : Option Read) → next_record default_config s [] [] xs ≡ o → ((q : Read) → next_record default_config s [] [] xs ≡ Some q → AreRecords default_config q.1 q.2 (records_from default_config n q.1 q.2))
        → AreRecords default_config s xs (records_next (records_from default_config n) (next_record default_config s [] [] xs))
    by None e more = rw e (s, xs, (refl, refl), e)
    by (Some q) e more = let m = more q e in rw e (m.0, m.1, (q, e, refl, m.2), m.3)

pub all_records : (xs : List ℕ) → AreRecords default_config st.StartRecord xs (records_from default_config (length xs + 1) st.StartRecord xs)
all_records xs = all_from (length xs + 1) st.StartRecord xs (inl (omega arith))
