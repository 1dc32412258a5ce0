-- All accepted entries in key order, and where a horizon parts them.
use Rattle.std.proofs.Common.{◌≡◌, ◌≢◌, ◌<◌, ◌≤◌, ℕ, Bool, true, false, cond, not, List, [], ◌∷◌, ◌++◌, filter, nat_lt, refl, ap, ◌∙◌, Less, lt-ltb, ltb-true, arith}
use Rattle.std.specs.List.{AllByRecursion}
use Rattle.crs_base.specs.Words.{Ordered}
use Rattle.crs_base.specs.Entry.{Entry, entry_cmp}
use Rattle.crs_base.proofs.Words.{in_filter, in_filter_back, ordered_filter, each_from_in, in_from_each}
use Rattle.crs_base.proofs.KeyOrder.{entry_total}
use Rattle.crs_model.specs.Order.{dated_before, HaveSameMembers}
use Rattle.crs_model.specs.Open.{before}
use Rattle.crs_base.proofs.Unique.{same_members}
use Rattle.crs_model.proofs.Settled.{of_settled, settled_of, settled_in_order}

module _ {S : Type 0} where
  -- the entries dated at or after h
  abbrev pub since : ℕ → List (Entry S) → List (Entry S)
  since h entries = filter (λ e. not (nat_lt e.date h)) entries

  filter_append : (p : Entry S → Bool) (xs ys : List (Entry S)) → filter p (xs ++ ys) ≡ filter p xs ++ filter p ys
  filter_append p [] ys = refl
  filter_append p (x ∷ xs) ys = by (p x) (filter_append p xs ys)
    where
      by : (b : Bool) → filter p (xs ++ ys) ≡ filter p xs ++ filter p ys → cond b (x ∷ filter p (xs ++ ys)) (filter p (xs ++ ys)) ≡ cond b (x ∷ filter p xs) (filter p xs) ++ filter p ys
      by true h = ap (λ (zs : List (Entry S)). x ∷ zs) h
      by false h = h

  filter_all : (p : Entry S → Bool) (xs : List (Entry S)) → AllByRecursion (λ e. p e ≡ true) xs → filter p xs ≡ xs
  filter_all p [] h = refl
  filter_all p (x ∷ xs) h = (λ i. cond (h.0 i) (x ∷ filter p xs) (filter p xs)) ∙ ap (λ (zs : List (Entry S)). x ∷ zs) (filter_all p xs h.1)

  filter_none : (p : Entry S → Bool) (xs : List (Entry S)) → AllByRecursion (λ e. p e ≡ false) xs → filter p xs ≡ []
  filter_none p [] h = refl
  filter_none p (x ∷ xs) h = (λ i. cond (h.0 i) (x ∷ filter p xs) (filter p xs)) ∙ filter_none p xs h.1

  each_before : (g h : ℕ) (xs : List (Entry S)) → g ≤ h → AllByRecursion (λ e. e.date < g) xs → AllByRecursion (λ e. nat_lt e.date h ≡ true) xs
  each_before g h xs l k = each_from_in (λ (e : Entry S). nat_lt e.date h ≡ true) xs (λ e i. let d = in_from_each (λ (e : Entry S). e.date < g) xs k e i in lt-ltb e.date h (omega arith))

  -- what was settled stays settled as the horizon rises
  pub before_more : (g h : ℕ) (settled waiting : List (Entry S)) → g ≤ h → AllByRecursion (λ e. e.date < g) settled → before h (settled ++ waiting) ≡ settled ++ before h waiting
  before_more g h settled waiting l k =
      filter_append (λ e. nat_lt e.date h) settled waiting ∙ ap (λ (zs : List (Entry S)). zs ++ before h waiting) (filter_all (λ e. nat_lt e.date h) settled (each_before g h settled l k))

  not_before : (e : Entry S) (h : ℕ) (b : Bool) → nat_lt e.date h ≡ b → h ≤ e.date → b ≡ false
  not_before e h true q l = absurd (let d = ltb-true e.date h q in omega arith)
  not_before e h false q l = refl

  -- those dated before the horizon are the settled ones
  pub before_all : (h : ℕ) (settled waiting : List (Entry S)) → AllByRecursion (λ e. e.date < h) settled → AllByRecursion (λ e. h ≤ e.date) waiting → before h (settled ++ waiting) ≡ settled ++ []
  before_all h settled waiting k m =
      before_more h h settled waiting (omega arith) k
      ∙ ap (λ (zs : List (Entry S)). settled ++ zs) (filter_none (λ e. nat_lt e.date h) waiting (each_from_in (λ (e : Entry S). nat_lt e.date h ≡ false) waiting (λ e i. not_before e h (nat_lt e.date h) refl (in_from_each (λ (e : Entry S). h ≤ e.date) waiting m e i))))

  -- Those of all that are dated before the horizon, put in key order, are those of the key order that are dated before it.
  pub settled_is : (h : ℕ) (all ordered : List (Entry S)) → Ordered (λ d e. d.arrival ≢ e.arrival) all → Ordered (λ a b. entry_cmp a b ≡ Less) ordered → HaveSameMembers ordered all → before h ordered ≡ dated_before h all
  settled_is h all ordered distinct asc same = same_members entry_total (before h ordered) (dated_before h all)
      (ordered_filter (λ a b. entry_cmp a b ≡ Less) (λ e. nat_lt e.date h) ordered asc)
      (settled_in_order entry_total h all distinct)
      (λ x i. let k = in_filter_back (λ e. nat_lt e.date h) ordered x i in settled_of entry_total h all x (same.there x k.0) (ltb-true x.date h k.1))
      (λ x i. let k = of_settled entry_total h all x i in in_filter (λ e. nat_lt e.date h) ordered x (same.back x k.0) (lt-ltb x.date h k.1))
