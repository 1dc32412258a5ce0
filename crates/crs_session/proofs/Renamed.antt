-- Entries keep their order and what they are parted by with the texts of their symbols.
use Rattle.std.proofs.Common.{◌≡◌, ℕ, Bool, true, false, cond, List, [], ◌∷◌, map, nat_lt, filter, refl, ap, ◌∙◌}
use Rattle.std.specs.Ordering.{is_lt}
use Rattle.crs_base.specs.Entry.{Entry, entry_cmp}
use Rattle.crs_model.specs.Order.{arrived, dated_before, in_key_order, put_all, put_in_order}
use Rattle.crs_model.specs.Renaming.{renamed_entry}

module _ {S T : Type 0} (f : S → T) where
  abbrev named : Entry S → Entry T
  named e = renamed_entry f e

  put_renamed : (e : Entry S) (xs : List (Entry S)) → map named (put_in_order e xs) ≡ put_in_order (named e) (map named xs)
  put_renamed e [] = refl
  put_renamed e (x ∷ xs) = by (is_lt (entry_cmp e x)) (put_renamed e xs)
    where
      by : (b : Bool) → map named (put_in_order e xs) ≡ put_in_order (named e) (map named xs)
          → map named (cond b (e ∷ x ∷ xs) (x ∷ put_in_order e xs)) ≡ cond b (named e ∷ named x ∷ map named xs) (named x ∷ put_in_order (named e) (map named xs))
      by true r = refl
      by false r = ap (λ zs. named x ∷ zs) r

  all_renamed : (sorted xs : List (Entry S)) → map named (put_all sorted xs) ≡ put_all (map named sorted) (map named xs)
  all_renamed sorted [] = refl
  all_renamed sorted (x ∷ xs) = all_renamed (put_in_order x sorted) xs ∙ ap (λ zs. put_all zs (map named xs)) (put_renamed x sorted)

  pub key_renamed : (xs : List (Entry S)) → map named (in_key_order xs) ≡ in_key_order (map named xs)
  key_renamed xs = all_renamed [] xs

  pub before_kept : (h : ℕ) (xs : List (Entry S)) → map named (filter (λ e. nat_lt e.date h) xs) ≡ filter (λ e. nat_lt e.date h) (map named xs)
  before_kept h [] = refl
  before_kept h (x ∷ xs) = by (nat_lt x.date h) (before_kept h xs)
    where
      by : (b : Bool) → map named (filter (λ e. nat_lt e.date h) xs) ≡ filter (λ e. nat_lt e.date h) (map named xs)
          → map named (cond b (x ∷ filter (λ e. nat_lt e.date h) xs) (filter (λ e. nat_lt e.date h) xs)) ≡ cond b (named x ∷ filter (λ e. nat_lt e.date h) (map named xs)) (filter (λ e. nat_lt e.date h) (map named xs))
      by true r = ap (λ zs. named x ∷ zs) r
      by false r = r

  pub dated_renamed : (h : ℕ) (xs : List (Entry S)) → map named (dated_before h xs) ≡ dated_before h (map named xs)
  dated_renamed h xs = key_renamed (filter (λ e. nat_lt e.date h) xs) ∙ ap in_key_order (before_kept h xs)

  pub arrived_renamed : (n : ℕ) (xs : List (Entry S)) → map named (arrived n xs) ≡ arrived n (map named xs)
  arrived_renamed n [] = refl
  arrived_renamed n (x ∷ xs) = by (nat_lt x.arrival n) (arrived_renamed n xs)
    where
      by : (b : Bool) → map named (arrived n xs) ≡ arrived n (map named xs) → map named (cond b (x ∷ arrived n xs) (arrived n xs)) ≡ cond b (named x ∷ arrived n (map named xs)) (arrived n (map named xs))
      by true r = ap (λ zs. named x ∷ zs) r
      by false r = r
