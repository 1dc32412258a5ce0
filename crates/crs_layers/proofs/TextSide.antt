-- What strata read, give and accept with texts in place of the symbols' numbers.
use Rattle.std.proofs.Common.{◌≡◌, ℕ, zero, suc, ◌+◌, ◌==◌, Bool, true, false, nat_lt, cond, List, [], ◌∷◌, ◌++◌, length, map, filter, refl, sym, ap, subst, ◌∙◌, append_assoc}
use Rattle.std.specs.Prelude.{ℤ, Option, Some, None, option_map, slice_get, ◌||◌}
use Rattle.std.specs.List.{AllByRecursion, flat_map}
use Rattle.std.specs.Option.{option_to_list}
use Rattle.std.specs.Ordering.{is_lt}
use Rattle.std.proofs.lemmas.List.{map-append, length-map}
use Rattle.crs_base.specs.declared.symbols.Sym.{Sym}
use Rattle.crs_base.specs.Entry.{Entry, entry_cmp, canonical}
use Rattle.crs_base.specs.Symbols.{AreDistinct}
use Rattle.crs_base.proofs.KeyOrder.{entry_total}
use Rattle.crs_base.proofs.Words.{each_from_in, in_from_each}
use Rattle.crs_model.specs.Matching.{Assignment}
use Rattle.crs_model.specs.Models.{Term, Value, Var, Any, Emit, Chronicle}
use Rattle.crs_model.specs.Open.{pool_among}
use Rattle.crs_model.specs.Order.{arrived, put_in_order, put_all, in_key_order, dated_before}
use Rattle.crs_model.specs.Proper.{IsNamed}
use Rattle.crs_model.specs.Renaming.{text_in, renamed_term, renamed_emit, renamed_chronicle, renamed_entry, renamed_assignment, IsChronicleOf, IsEntryOf}
use Rattle.crs_model.specs.Scopes.{Scope, scope_of, ListsNew}
use Rattle.crs_model.specs.Hierarchy.{lag_below}
use Rattle.crs_model.proofs.RenamedAssignments.{new_renamed}
use Rattle.crs_model.proofs.RenamedWindows.{HasNoStar}
use Rattle.crs_model.proofs.Settled.{of_settled}
use Rattle.crs_layers.specs.Strata.{Placed, Stratum, behind, of_stratum, scope_in, symbols_at, entry_by, given_by, gives, Give, taken, with_given, after_mark, IsMarkFrom}
use Rattle.crs_layers.specs.Runs.{some_flooded}
use Rattle.crs_layers.specs.Standing.{HasText, placed_in, stratum_in}
use Rattle.crs_layers.proofs.Dated.{in_accepted}

-- its symbols have texts, each variable stands in an event's pattern, and its windows have no stars
pub record IsTextual (texts : List (List ℕ)) (c : Chronicle Sym) : Type 0 where
  pub of : IsChronicleOf (HasText texts) c
  pub named : IsNamed c
  pub stars : AllByRecursion (λ w. HasNoStar w.body) c.windows

map_same : {A : Type 0} (xs : List A) → map (λ x. x) xs ≡ xs
map_same [] = refl
map_same (x ∷ xs) = ap (λ ys. x ∷ ys) (map_same xs)

flat_append : {A B : Type 0} (f : A → List B) (xs ys : List A) → flat_map f (xs ++ ys) ≡ flat_map f xs ++ flat_map f ys
flat_append f [] ys = refl
flat_append f (x ∷ xs) ys = ap (λ zs. f x ++ zs) (flat_append f xs ys) ∙ sym (append_assoc (f x) (flat_map f xs) (flat_map f ys))

-- where it reads the same of both, what is made of the parts is made of the whole
flat_maps : {A B C D : Type 0} (f : B → D) (a : A → C) (p : A → List B) (q : C → List D) (xs : List A) → ((x : A) → map f (p x) ≡ q (a x)) → map f (flat_map p xs) ≡ flat_map q (map a xs)
flat_maps f a p q [] h = refl
flat_maps f a p q (x ∷ xs) h = map-append f (p x) (flat_map p xs) ∙ (λ i. h x i ++ flat_maps f a p q xs h i)

got_map : {A B : Type 0} (f : A → B) (xs : List A) (n : ℕ) → slice_get (map f xs) n ≡ option_map f (slice_get xs n)
got_map f [] n = refl
got_map f (x ∷ xs) zero = refl
got_map f (x ∷ xs) (suc n) = got_map f xs n

module _ (texts : List (List ℕ)) where
  abbrev f : Sym → List ℕ
  f = text_in texts

  abbrev es_of : List (Entry Sym) → List (Entry (List ℕ))
  es_of = map (renamed_entry f)

  -- ---- what is read of a stratum

  put_seen : (e : Entry Sym) (xs : List (Entry Sym)) → es_of (put_in_order e xs) ≡ put_in_order (renamed_entry f e) (es_of xs)
  put_seen e [] = refl
  put_seen e (x ∷ xs) = by (is_lt (entry_cmp e x)) (put_seen e xs)
    where
      by : (b : Bool) → es_of (put_in_order e xs) ≡ put_in_order (renamed_entry f e) (es_of xs)
          → es_of (cond b (e ∷ x ∷ xs) (x ∷ put_in_order e xs)) ≡ cond b (renamed_entry f e ∷ renamed_entry f x ∷ es_of xs) (renamed_entry f x ∷ put_in_order (renamed_entry f e) (es_of xs))
      by true r = refl
      by false r = ap (λ (ys : List (Entry (List ℕ))). renamed_entry f x ∷ ys) r

  all_seen : (sorted xs : List (Entry Sym)) → es_of (put_all sorted xs) ≡ put_all (es_of sorted) (es_of xs)
  all_seen sorted [] = refl
  all_seen sorted (x ∷ xs) = all_seen (put_in_order x sorted) xs ∙ ap (λ (ys : List (Entry (List ℕ))). put_all ys (es_of xs)) (put_seen x sorted)

  before_seen : (h : ℕ) (xs : List (Entry Sym)) → es_of (filter (λ e. nat_lt e.date h) xs) ≡ filter (λ e. nat_lt e.date h) (es_of xs)
  before_seen h [] = refl
  before_seen h (x ∷ xs) = by (nat_lt x.date h) (before_seen h xs)
    where
      by : (b : Bool) → es_of (filter (λ e. nat_lt e.date h) xs) ≡ filter (λ e. nat_lt e.date h) (es_of xs)
          → es_of (cond b (x ∷ filter (λ e. nat_lt e.date h) xs) (filter (λ e. nat_lt e.date h) xs)) ≡ cond b (renamed_entry f x ∷ filter (λ e. nat_lt e.date h) (es_of xs)) (filter (λ e. nat_lt e.date h) (es_of xs))
      by true r = ap (λ (ys : List (Entry (List ℕ))). renamed_entry f x ∷ ys) r
      by false r = r

  arrived_seen : (n : ℕ) (xs : List (Entry Sym)) → es_of (arrived n xs) ≡ arrived n (es_of xs)
  arrived_seen n [] = refl
  arrived_seen n (x ∷ xs) = by (nat_lt x.arrival n) (arrived_seen n xs)
    where
      by : (b : Bool) → es_of (arrived n xs) ≡ arrived n (es_of xs) → es_of (cond b (x ∷ arrived n xs) (arrived n xs)) ≡ cond b (renamed_entry f x ∷ arrived n (es_of xs)) (arrived n (es_of xs))
      by true r = ap (λ (ys : List (Entry (List ℕ))). renamed_entry f x ∷ ys) r
      by false r = r

  pub settled_seen : (h : ℕ) (xs : List (Entry Sym)) → es_of (dated_before h xs) ≡ dated_before h (es_of xs)
  settled_seen h xs = all_seen [] (filter (λ e. nat_lt e.date h) xs) ∙ ap in_key_order (before_seen h xs)

  pub came_seen : (n : ℕ) (xs : List (Entry Sym)) → es_of (in_key_order (arrived n xs)) ≡ in_key_order (arrived n (es_of xs))
  came_seen n xs = all_seen [] (arrived n xs) ∙ ap in_key_order (arrived_seen n xs)

  pool_seen : (c : Chronicle Sym) (settled came : List (Entry Sym)) → es_of (pool_among c settled came) ≡ pool_among (renamed_chronicle f c) (es_of settled) (es_of came)
  pool_seen c settled came = by c.prompt
    where
      by : (b : Bool) → es_of (cond b came settled) ≡ cond b (es_of came) (es_of settled)
      by true = refl
      by false = refl

  abbrev pub scope_seen : Scope Sym → Scope (List ℕ)
  scope_seen s = record { pool = es_of s.pool; settled = es_of s.settled; horizon = s.horizon }

  pub scope_of_seen : (c : Chronicle Sym) (settled came : List (Entry Sym)) (h : ℕ) → scope_seen (scope_of c settled came h) ≡ scope_of (renamed_chronicle f c) (es_of settled) (es_of came) h
  scope_of_seen c settled came h = λ i. record { pool = pool_seen c settled came i; settled = es_of settled; horizon = h }

  pub scope_in_seen : (s : Stratum Sym) (h : ℕ) (c : Chronicle Sym) → scope_seen (scope_in s h c) ≡ scope_in (stratum_in texts s) h (renamed_chronicle f c)
  scope_in_seen s h c =
      scope_of_seen c (dated_before h s.accepted) (in_key_order (arrived s.marked s.accepted)) h
      ∙ (λ i. scope_of (renamed_chronicle f c) (settled_seen h s.accepted i) (came_seen s.marked s.accepted i) h)

  -- all of what is read have texts
  pub record IsKnown (s : Scope Sym) : Type 0 where
    pub pool : AllByRecursion (IsEntryOf (HasText texts)) s.pool
    pub settled : AllByRecursion (IsEntryOf (HasText texts)) s.settled

  -- ---- what is new

  module _ (distinct : AreDistinct texts) where
    apart : (x y : Sym) → HasText texts x → HasText texts y → f x ≡ f y → x ≡ y
    apart x y p q e = ap (λ n. record { 0 = n }) (distinct x.0 y.0 p q e)

    pub new_seen : (c : Chronicle Sym) → IsTextual texts c → (was now : Scope Sym) → IsKnown was → IsKnown now → (new : List (Assignment Sym)) → ListsNew c was now new
        → ListsNew (renamed_chronicle f c) (scope_seen was) (scope_seen now) (map (renamed_assignment f) new)
    new_seen c t was now k l new h = new_renamed f (HasText texts) apart c t.of t.named t.stars now.pool now.settled was.pool was.settled now.horizon was.horizon l.pool l.settled k.pool k.settled new h

  -- ---- what is given

  symbols_seen : (values : List Sym) (t : Term Sym) → map f (symbols_at values t) ≡ symbols_at (map f values) (renamed_term f t)
  symbols_seen values (Value s) = refl
  symbols_seen values (Var v) = by (slice_get values v) ∙ ap option_to_list (sym (got_map f values v))
    where
      by : (o : Option Sym) → map f (option_to_list o) ≡ option_to_list (option_map f o)
      by None = refl
      by (Some x) = refl
  symbols_seen values Any = refl

  entry_seen : (values : List Sym) (e : Emit Sym) (x : Entry Sym) → renamed_entry f (entry_by f values e x) ≡ entry_by (λ y. y) (map f values) (renamed_emit f e) (renamed_entry f x)
  entry_seen values e x =
      let args : map f (flat_map (symbols_at values) e.pattern.terms) ≡ flat_map (symbols_at (map f values)) (map (renamed_term f) e.pattern.terms) =
      flat_maps f (renamed_term f) (symbols_at values) (symbols_at (map f values)) e.pattern.terms (symbols_seen values) in
      let written : map f (flat_map (symbols_at values) e.pattern.terms) ≡ map (λ y. y) (flat_map (symbols_at (map f values)) (map (renamed_term f) e.pattern.terms)) = args ∙ sym (map_same (flat_map (symbols_at (map f values)) (map (renamed_term f) e.pattern.terms))) in
      λ i. record { arrival = 0; date = x.date; name = f e.pattern.name; args = args i; change = None; text = canonical (f e.pattern.name) (written i) None }

  given_seen : (b : Assignment Sym) (e : Emit Sym) → es_of (given_by f b e) ≡ given_by (λ y. y) (renamed_assignment f b) (renamed_emit f e)
  given_seen b e = by (slice_get b.entries e.event) ∙ ap (λ (o : Option (Entry (List ℕ))). option_to_list (option_map (entry_by (λ y. y) (map f b.values) (renamed_emit f e)) o)) (sym (got_map (renamed_entry f) b.entries e.event))
    where
      by : (o : Option (Entry Sym)) → es_of (option_to_list (option_map (entry_by f b.values e) o)) ≡ option_to_list (option_map (entry_by (λ y. y) (map f b.values) (renamed_emit f e)) (option_map (renamed_entry f) o))
      by None = refl
      by (Some x) = ap (λ (y : Entry (List ℕ)). y ∷ []) (entry_seen b.values e x)

  gives_seen : (c : Chronicle Sym) (b : Assignment Sym) → es_of (gives f c b) ≡ gives (λ y. y) (renamed_chronicle f c) (renamed_assignment f b)
  gives_seen c b = flat_maps (renamed_entry f) (renamed_emit f) (given_by f b) (given_by (λ y. y) (renamed_assignment f b)) c.emits (given_seen b)

  module _ (distinct : AreDistinct texts) (was now : Chronicle Sym → Scope Sym) (then after : Chronicle (List ℕ) → Scope (List ℕ))
      (known_was : (c : Chronicle Sym) → IsKnown (was c)) (known_now : (c : Chronicle Sym) → IsKnown (now c))
      (seen_was : (c : Chronicle Sym) → scope_seen (was c) ≡ then (renamed_chronicle f c)) (seen_now : (c : Chronicle Sym) → scope_seen (now c) ≡ after (renamed_chronicle f c)) where
    give_seen : (cs : List (Chronicle Sym)) → AllByRecursion (IsTextual texts) cs → (given : List (Entry Sym)) → Give f cs was now given → Give (λ y. y) (map (renamed_chronicle f) cs) then after (es_of given)
    give_seen [] t given k = ap es_of k
    give_seen (c ∷ cs) t given k = (
      map (renamed_assignment f) k.0,
      es_of k.1,
      subst (λ (s : Scope (List ℕ)). ListsNew (renamed_chronicle f c) s (after (renamed_chronicle f c)) (map (renamed_assignment f) k.0)) (seen_was c)
          (subst (λ (s : Scope (List ℕ)). ListsNew (renamed_chronicle f c) (scope_seen (was c)) s (map (renamed_assignment f) k.0)) (seen_now c)
          (new_seen distinct c t.0 (was c) (now c) (known_was c) (known_now c) k.0 k.2)),
      give_seen cs t.1 k.1 k.3,
      ap es_of k.4 ∙ map-append (renamed_entry f) (flat_map (gives f c) k.0) k.1
          ∙ ap (λ (ys : List (Entry (List ℕ))). ys ++ es_of k.1) (flat_maps (renamed_entry f) (renamed_assignment f) (gives f c) (gives (λ y. y) (renamed_chronicle f c)) k.0 (gives_seen c)),
    )

  -- ---- what is accepted

  taken_seen : (limit n : ℕ) (ys : List (Entry Sym)) → es_of (taken limit n ys) ≡ taken limit n (es_of ys)
  taken_seen limit n [] = refl
  taken_seen limit n (y ∷ ys) = by (nat_lt n limit) (taken_seen limit (n + 1) ys)
    where
      by : (b : Bool) → es_of (taken limit (n + 1) ys) ≡ taken limit (n + 1) (es_of ys)
          → es_of (cond b (record y { arrival = n } ∷ taken limit (n + 1) ys) []) ≡ cond b (record (renamed_entry f y) { arrival = n } ∷ taken limit (n + 1) (es_of ys)) []
      by true r = ap (λ (zs : List (Entry (List ℕ))). record (renamed_entry f y) { arrival = n } ∷ zs) r
      by false r = refl

  after_seen : (limit : ℕ) (s : Stratum Sym) (given : List (Entry Sym)) → stratum_in texts (after_mark limit s given) ≡ after_mark limit (stratum_in texts s) (es_of given)
  after_seen limit s given =
      let long : length (es_of s.accepted) ≡ length s.accepted = length-map s.accepted (renamed_entry f) in
      let all : es_of (with_given limit s.accepted given) ≡ with_given limit (es_of s.accepted) (es_of given) =
      map-append (renamed_entry f) s.accepted (taken limit (length s.accepted) given) ∙ ap (λ (zs : List (Entry (List ℕ))). es_of s.accepted ++ zs) (taken_seen limit (length s.accepted) given ∙ ap (λ (n : ℕ). taken limit n (es_of given)) (sym long)) in
      let count : length (with_given limit s.accepted given) ≡ length (with_given limit (es_of s.accepted) (es_of given)) = sym (length-map (with_given limit s.accepted given) (renamed_entry f)) ∙ ap length all in
      λ i. record { accepted = all i; marked = count i }

  abbrev AreKnownIn : List (Stratum Sym) → Type 0
  AreKnownIn ss = AllByRecursion (λ s. AllByRecursion (IsEntryOf (HasText texts)) s.accepted) ss

  pub known_scope : (s : Stratum Sym) (h : ℕ) → AllByRecursion (IsEntryOf (HasText texts)) s.accepted → (c : Chronicle Sym) → IsKnown (scope_in s h c)
  known_scope s h k c = record {
    pool = each_from_in (IsEntryOf (HasText texts)) (scope_in s h c).pool (λ x i. in_from_each (IsEntryOf (HasText texts)) s.accepted k x (in_accepted s h c x i));
    settled = each_from_in (IsEntryOf (HasText texts)) (dated_before h s.accepted) (λ x i. in_from_each (IsEntryOf (HasText texts)) s.accepted k x (of_settled entry_total h s.accepted x i).0);
  }

  abbrev placed_all : List (Placed Sym) → List (Placed (List ℕ))
  placed_all = map (placed_in texts)

  abbrev ArePlacedTextual : List (Placed Sym) → Type 0
  ArePlacedTextual cs = AllByRecursion (λ p. IsTextual texts p.chronicle) cs

  stratum_seen : (j : ℕ) (cs : List (Placed Sym)) → map (renamed_chronicle f) (of_stratum j cs) ≡ of_stratum j (placed_all cs)
  stratum_seen j [] = refl
  stratum_seen j (c ∷ cs) = by (c.stratum == j) (stratum_seen j cs)
    where
      by : (b : Bool) → map (renamed_chronicle f) (of_stratum j cs) ≡ of_stratum j (placed_all cs)
          → map (renamed_chronicle f) (map (λ p. p.chronicle) (cond b (c ∷ filter (λ p. p.stratum == j) cs) (filter (λ p. p.stratum == j) cs)))
          ≡ map (λ p. p.chronicle) (cond b (placed_in texts c ∷ filter (λ p. p.stratum == j) (placed_all cs)) (filter (λ p. p.stratum == j) (placed_all cs)))
      by true r = ap (λ (ds : List (Chronicle (List ℕ))). renamed_chronicle f c.chronicle ∷ ds) r
      by false r = r

  textual_of : (j : ℕ) (cs : List (Placed Sym)) → ArePlacedTextual cs → AllByRecursion (IsTextual texts) (of_stratum j cs)
  textual_of j [] h = tt
  textual_of j (c ∷ cs) h = by (c.stratum == j) (textual_of j cs h.1)
    where
      by : (b : Bool) → AllByRecursion (IsTextual texts) (of_stratum j cs) → AllByRecursion (IsTextual texts) (map (λ p. p.chronicle) (cond b (c ∷ filter (λ p. p.stratum == j) cs) (filter (λ p. p.stratum == j) cs)))
      by true r = (h.0, r)
      by false r = r

  lags_seen : (cs : List (Placed Sym)) → map {B = ℕ × Option ℤ} (λ c. (c.stratum, c.lag)) cs ≡ map {B = ℕ × Option ℤ} (λ c. (c.stratum, c.lag)) (placed_all cs)
  lags_seen [] = refl
  lags_seen (c ∷ cs) = ap (λ (xs : List (ℕ × Option ℤ)). (c.stratum, c.lag) ∷ xs) (lags_seen cs)

  pub behind_seen : (cs : List (Placed Sym)) (j : ℕ) → behind cs j ≡ behind (placed_all cs) j
  behind_seen cs j = ap (λ (xs : List (ℕ × Option ℤ)). lag_below xs j) (lags_seen cs)

  -- ---- a mark

  module _ (distinct : AreDistinct texts) (cs : List (Placed Sym)) (textual : ArePlacedTextual cs) (limit : ℕ) (g h : ℕ → ℕ) where
    pub mark_seen : (j : ℕ) (given : List (Entry Sym)) (olds news : List (Stratum Sym)) (all : List (List (Entry Sym))) → AreKnownIn olds → AreKnownIn news → IsMarkFrom f cs limit g h j given olds news all
        → IsMarkFrom (λ y. y) (placed_all cs) limit g h j (es_of given) (map (stratum_in texts) olds) (map (stratum_in texts) news) (map es_of all)
    mark_seen j given [] news all k l m = (ap (map (stratum_in texts)) m.0, ap (map es_of) m.1)
    mark_seen j given (s ∷ ss) news all k l m =
        let known_news : AreKnownIn (after_mark limit s given ∷ m.0) = subst AreKnownIn m.3 l in
        let scope_then : (c : Chronicle Sym) → scope_seen (scope_in (after_mark limit s given) (h j) c) ≡ scope_in (after_mark limit (stratum_in texts s) (es_of given)) (h j) (renamed_chronicle f c) =
        λ c. scope_in_seen (after_mark limit s given) (h j) c ∙ ap (λ (t : Stratum (List ℕ)). scope_in t (h j) (renamed_chronicle f c)) (after_seen limit s given) in (
          map (stratum_in texts) m.0,
          map es_of m.1,
          es_of m.2,
          ap (map (stratum_in texts)) m.3 ∙ ap (λ (t : Stratum (List ℕ)). t ∷ map (stratum_in texts) m.0) (after_seen limit s given),
          ap (map es_of) m.4,
          subst (λ (ds : List (Chronicle (List ℕ))). Give (λ y. y) ds (scope_in (stratum_in texts s) (g j)) (scope_in (after_mark limit (stratum_in texts s) (es_of given)) (h j)) (es_of m.2)) (stratum_seen j cs)
              (give_seen distinct (scope_in s (g j)) (scope_in (after_mark limit s given) (h j)) (scope_in (stratum_in texts s) (g j)) (scope_in (after_mark limit (stratum_in texts s) (es_of given)) (h j))
              (known_scope s (g j) k.0) (known_scope (after_mark limit s given) (h j) known_news.0) (scope_in_seen s (g j)) scope_then (of_stratum j cs) (textual_of j cs textual) m.2 m.5),
          subst (λ (us : List (Entry (List ℕ))). IsMarkFrom (λ y. y) (placed_all cs) limit g h (suc j) us (map (stratum_in texts) ss) (map (stratum_in texts) m.0) (map es_of m.1)) (map-append (renamed_entry f) given m.2)
              (mark_seen (suc j) (given ++ m.2) ss m.0 m.1 k.1 known_news.1 m.6),
        )

  pub flooded_seen : (limit : ℕ) (ss : List (Stratum Sym)) (all : List (List (Entry Sym))) → some_flooded limit ss all ≡ some_flooded limit (map (stratum_in texts) ss) (map es_of all)
  flooded_seen limit [] all = refl
  flooded_seen limit (s ∷ ss) [] = refl
  flooded_seen limit (s ∷ ss) (given ∷ all) =
      λ i. nat_lt limit (sym (length-map s.accepted (renamed_entry f)) i + sym (length-map given (renamed_entry f)) i) || flooded_seen limit ss all i
