-- Accepted entries, parted at a date and put in key order.
use Rattle.std.proofs.Common.{append-nil, ◌≡◌, ◌≢◌, ℕ, ◌<◌, ◌≤◌, Bool, true, false, cond, not, List, [], ◌∷◌, ◌++◌, filter, nat_lt, refl, sym, ap, ◌∙◌, inl, inr, Less, arith}
use Rattle.std.specs.List.{AllByRecursion}
use Rattle.std.proofs.lemmas.Bool.{le-ltb, ltb-true, ltb-false}
use Rattle.std.proofs.lemmas.List.Elements.{filter-append}
use Rattle.crs_base.specs.Words.{IsIn, Ordered}
use Rattle.crs_base.specs.Entry.{Entry, entry_cmp}
use Rattle.crs_base.proofs.KeyOrder.{entry_total}
use Rattle.crs_base.proofs.Words.{in_append, in_append_left, in_append_right, in_filter, in_filter_back, ordered_filter}
use Rattle.crs_model.specs.Matching.{AreDistinct}
use Rattle.crs_model.specs.Open.{before}
use Rattle.crs_model.specs.Order.{arrived, put_in_order, put_all, in_key_order, dated_before, HaveSameMembers}
use Rattle.crs_model.proofs.Parted.{before_more, settled_is}
use Rattle.crs_model.proofs.Ties.{ordered, ordered_members}
use Rattle.crs_model.proofs.TwinPools.{arrived_is}
use Rattle.crs_base.proofs.Unique.{same_members}
use Rattle.crs_engine.specs.Engines.{since}

module _ {S : Type 0} where
  abbrev Below : Entry S → Entry S → Type 0
  Below a b = entry_cmp a b ≡ Less

  -- some of the entries, put in key order, are these of the key order of all
  filter_in_order : (p : Entry S → Bool) (xs : List (Entry S)) → AreDistinct xs → filter p (in_key_order xs) ≡ in_key_order (filter p xs)
  filter_in_order p xs distinct = same_members entry_total (filter p (in_key_order xs)) (in_key_order (filter p xs))
      (ordered_filter Below p (in_key_order xs) (ordered xs distinct))
      (ordered (filter p xs) (ordered_filter (λ d e. d.arrival ≢ e.arrival) p xs distinct))
      (λ x i. let k = in_filter_back p (in_key_order xs) x i in (ordered_members (filter p xs)).back x (in_filter p xs x ((ordered_members xs).there x k.0) k.1))
      (λ x i. let k = in_filter_back p xs x ((ordered_members (filter p xs)).there x i) in in_filter p (in_key_order xs) x ((ordered_members xs).back x k.0) k.1)

  since_twice : (g h : ℕ) (xs : List (Entry S)) → g ≤ h → since h (since g xs) ≡ since h xs
  since_twice g h [] l = refl
  since_twice g h (x ∷ xs) l = by (nat_lt x.date g) refl (nat_lt x.date h) refl (since_twice g h xs l)
    where
      by : (a : Bool) → nat_lt x.date g ≡ a → (b : Bool) → nat_lt x.date h ≡ b → since h (since g xs) ≡ since h xs
          → since h (cond (not a) (x ∷ since g xs) (since g xs)) ≡ cond (not b) (x ∷ since h xs) (since h xs)
      by true p true q r = r
      by true p false q r = absurd (let a = ltb-true x.date g p in let b = ltb-false x.date h q in omega (arith, a, b, l))
      by false p b q r = (λ i. cond (not (q i)) (x ∷ since h (since g xs)) (since h (since g xs))) ∙ ap (λ (ys : List (Entry S)). cond (not b) (x ∷ ys) ys) r

  -- what is dated from a later date on
  pub since_later : (g h : ℕ) (xs : List (Entry S)) → AreDistinct xs → g ≤ h → since h (in_key_order (since g xs)) ≡ in_key_order (since h xs)
  since_later g h xs distinct l =
      filter_in_order (λ e. not (nat_lt e.date h)) (since g xs) (ordered_filter (λ d e. d.arrival ≢ e.arrival) (λ e. not (nat_lt e.date g)) xs distinct)
      ∙ ap in_key_order (since_twice g h xs l)

  -- the two parts have all as members
  pub both_parts : (h : ℕ) (xs : List (Entry S)) → HaveSameMembers (dated_before h xs ++ in_key_order (since h xs)) xs
  both_parts h xs = record {
    there = λ x i. elim (in_append (dated_before h xs) (in_key_order (since h xs)) x i) [
      | inl k ↦ (in_filter_back (λ e. nat_lt e.date h) xs x ((ordered_members (before h xs)).there x k)).0
      | inr k ↦ (in_filter_back (λ e. not (nat_lt e.date h)) xs x ((ordered_members (since h xs)).there x k)).0
    ];
    back = λ x i. by x i (nat_lt x.date h) refl;
  }
    where
      by : (x : Entry S) → IsIn x xs → (b : Bool) → nat_lt x.date h ≡ b → IsIn x (dated_before h xs ++ in_key_order (since h xs))
      by x i true q = in_append_left (dated_before h xs) (in_key_order (since h xs)) x ((ordered_members (before h xs)).back x (in_filter (λ e. nat_lt e.date h) xs x i q))
      by x i false q = in_append_right (dated_before h xs) (in_key_order (since h xs)) x ((ordered_members (since h xs)).back x (in_filter (λ e. not (nat_lt e.date h)) xs x i (ap not q)))

  -- and are, one behind the other, all of them in key order
  all_parts : (h : ℕ) (xs : List (Entry S)) → AreDistinct xs → Ordered Below (dated_before h xs ++ in_key_order (since h xs))
      → dated_before h xs ++ in_key_order (since h xs) ≡ in_key_order xs
  all_parts h xs distinct order = same_members entry_total (dated_before h xs ++ in_key_order (since h xs)) (in_key_order xs) order (ordered xs distinct)
      (λ x i. (ordered_members xs).back x ((both_parts h xs).there x i))
      (λ x i. (both_parts h xs).back x ((ordered_members xs).there x i))

  -- those of them that had arrived
  pub arrived_parts : (n h : ℕ) (xs : List (Entry S)) → AreDistinct xs → Ordered Below (dated_before h xs ++ in_key_order (since h xs))
      → arrived n (dated_before h xs ++ in_key_order (since h xs)) ≡ in_key_order (arrived n xs)
  arrived_parts n h xs distinct order = ap (arrived n) (all_parts h xs distinct order) ∙ arrived_is n xs distinct

  -- what is dated before a later date
  pub before_later : (g h : ℕ) (xs : List (Entry S)) → AreDistinct xs → g ≤ h → Ordered Below (dated_before g xs ++ in_key_order (since g xs))
      → AllByRecursion (λ e. e.date < g) (dated_before g xs) → dated_before g xs ++ before h (in_key_order (since g xs)) ≡ dated_before h xs
  before_later g h xs distinct l order low =
      sym (before_more g h (dated_before g xs) (in_key_order (since g xs)) l low)
      ∙ settled_is h xs (dated_before g xs ++ in_key_order (since g xs)) distinct order (both_parts g xs)

  put_last : (sorted xs : List (Entry S)) (x : Entry S) → put_all sorted (xs ++ x ∷ []) ≡ put_in_order x (put_all sorted xs)
  put_last sorted [] x = refl
  put_last sorted (y ∷ xs) x = put_last (put_in_order y sorted) xs x

  -- one more that isn't dated before h
  pub before_last : (h : ℕ) (xs : List (Entry S)) (x : Entry S) → h ≤ x.date → dated_before h (xs ++ x ∷ []) ≡ dated_before h xs
  before_last h xs x l =
      ap in_key_order (filter-append (λ (e : Entry S). nat_lt e.date h) xs (x ∷ [])
      ∙ (λ i. before h xs ++ cond (le-ltb x.date h l i) (x ∷ []) [])
      ∙ append-nil (before h xs))

  pub since_last : (h : ℕ) (xs : List (Entry S)) (x : Entry S) → h ≤ x.date → in_key_order (since h (xs ++ x ∷ [])) ≡ put_in_order x (in_key_order (since h xs))
  since_last h xs x l =
      ap in_key_order (filter-append (λ (e : Entry S). not (nat_lt e.date h)) xs (x ∷ [])
      ∙ (λ i. since h xs ++ cond (not (le-ltb x.date h l i)) (x ∷ []) []))
      ∙ put_last [] (since h xs) x
