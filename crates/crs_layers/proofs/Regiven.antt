-- A mark may be gone through stratum by stratum, where each stratum gives its entries to those above at once.
use Rattle.std.proofs.Common.{◌≡◌, ℕ, suc, ◌≤◌, ◌==◌, Bool, true, false, nat_lt, cond, List, [], ◌∷◌, ◌++◌, length, map, filter, refl, sym, ap, subst, ◌∙◌, arith, append-nil, append_assoc}
use Rattle.std.specs.List.{AllByRecursion}
use Rattle.std.proofs.lemmas.Bool.{le-ltb}
use Rattle.std.proofs.lemmas.List.Elements.{filter-append}
use Rattle.crs_base.specs.declared.symbols.Sym.{Sym}
use Rattle.crs_base.specs.Entry.{Entry}
use Rattle.crs_base.proofs.Alls.{all_each}
use Rattle.crs_model.specs.declared.plan.Plan.{Plan}
use Rattle.crs_model.specs.Models.{Chronicle}
use Rattle.crs_model.specs.Order.{arrived, in_key_order, dated_before}
use Rattle.crs_model.specs.Plans.{chronicle}
use Rattle.crs_model.specs.Scopes.{Scope, scope_of}
use Rattle.crs_layers.specs.Strata.{Placed, Stratum, taken, with_given, after_mark, of_stratum, scope_in, Give, IsMarkFrom}
use Rattle.crs_layers.specs.LayerPlans.{placed_of, picked}
use Rattle.crs_layers.proofs.Splitting.{numbered_taken, numbered_least, taken_due}
use Rattle.crs_layers.proofs.Taking.{given_append}

none_left : {A : Type 0} (p : A → Bool) (xs : List A) → AllByRecursion (λ x. p x ≡ false) xs → filter p xs ≡ []
none_left p [] h = refl
none_left p (x ∷ xs) h = (λ i. cond (h.0 i) (x ∷ filter p xs) (filter p xs)) ∙ none_left p xs h.1

module _ {S : Type 0} where
  -- the stratum once it was given entries
  abbrev pub given_to : ℕ → List (Entry S) → Stratum S → Stratum S
  given_to limit ys s = record s { accepted = with_given limit s.accepted ys }

  -- all had been accepted that came by the last mark
  pub record IsFed (g : ℕ) (ys : List (Entry S)) (s : Stratum S) : Type 0 where
    pub counted : s.marked ≤ length s.accepted
    pub due : AllByRecursion (λ e. g ≤ e.date) ys

  -- recognition read the same of it at the last mark
  pub scope_same : (limit g : ℕ) (ys : List (Entry S)) (s : Stratum S) → IsFed g ys s → (c : Chronicle S) → scope_in (given_to limit ys s) g c ≡ scope_in s g c
  scope_same limit g ys s f c =
      let t : List (Entry S) = taken limit (length s.accepted) ys in
      let late : AllByRecursion (λ e. nat_lt e.date g ≡ false) t = all_each {P = λ e. g ≤ e.date} t (λ e l. le-ltb e.date g l) (taken_due g limit (length s.accepted) ys f.due) in
      let counted = f.counted in
      let new : AllByRecursion (λ e. nat_lt e.arrival s.marked ≡ false) t =
      all_each {P = λ e. length s.accepted ≤ e.arrival} t (λ e l. le-ltb e.arrival s.marked (omega (arith, l, counted))) (numbered_least (length s.accepted) t (numbered_taken limit (length s.accepted) ys)) in
      let settled : dated_before g (s.accepted ++ t) ≡ dated_before g s.accepted =
      ap in_key_order (filter-append (λ (e : Entry S). nat_lt e.date g) s.accepted t ∙ ap (λ (us : List (Entry S)). filter (λ e. nat_lt e.date g) s.accepted ++ us) (none_left (λ e. nat_lt e.date g) t late) ∙ append-nil (filter (λ e. nat_lt e.date g) s.accepted)) in
      let had : in_key_order (arrived s.marked (s.accepted ++ t)) ≡ in_key_order (arrived s.marked s.accepted) =
      ap in_key_order (filter-append (λ (e : Entry S). nat_lt e.arrival s.marked) s.accepted t ∙ ap (λ (us : List (Entry S)). filter (λ e. nat_lt e.arrival s.marked) s.accepted ++ us) (none_left (λ e. nat_lt e.arrival s.marked) t new) ∙ append-nil (filter (λ e. nat_lt e.arrival s.marked) s.accepted)) in
      λ i. scope_of c (settled i) (had i) g

  after_same : (limit : ℕ) (ys more : List (Entry S)) (s : Stratum S) → after_mark limit (given_to limit ys s) more ≡ after_mark limit s (ys ++ more)
  after_same limit ys more s = let e = given_append limit s.accepted ys more in λ i. record { accepted = e i; marked = length (e i) }

  -- the strata from j on, with their horizons
  abbrev pub AreFed : (ℕ → ℕ) → ℕ → List (Entry S) → List (Stratum S) → Type 0
  AreFed g j ys [] = Unit {0}
  AreFed g j ys (s ∷ ss) = IsFed (g j) ys s × AreFed g (suc j) ys ss

  module _ (text_of : S → List ℕ) (cs : List (Placed S)) (limit : ℕ) (g h : ℕ → ℕ) (ys : List (Entry S)) where
    -- entries that were given before the mark went on count as given at it
    pub regiven : (j : ℕ) (given : List (Entry S)) (olds news : List (Stratum S)) (all : List (List (Entry S))) → AreFed g j ys olds
        → IsMarkFrom text_of cs limit g h j given (map (given_to limit ys) olds) news all → IsMarkFrom text_of cs limit g h j (ys ++ given) olds news (map (λ us. ys ++ us) all)
    regiven j given [] news all f k = (k.0, ap (map (λ us. ys ++ us)) k.1)
    regiven j given (old ∷ olds) news all f k =
        let after = after_same limit ys given old in (
          k.0,
          map (λ us. ys ++ us) k.1,
          k.2,
          k.3 ∙ ap (λ (s : Stratum S). s ∷ k.0) after,
          ap (map (λ us. ys ++ us)) k.4,
          subst (λ (s : Stratum S). Give text_of (of_stratum j cs) (scope_in old (g j)) (scope_in s (h j)) k.2) after
              (subst (λ (p : Chronicle S → Scope S). Give text_of (of_stratum j cs) p (scope_in (after_mark limit (given_to limit ys old) given) (h j)) k.2)
              (λ i c. scope_same limit (g j) ys old f.0 c i) k.5),
          subst (λ (us : List (Entry S)). IsMarkFrom text_of cs limit g h (suc j) us olds k.0 (map (λ us. ys ++ us) k.1)) (sym (append_assoc ys given k.2))
              (regiven (suc j) (given ++ k.2) olds k.0 k.1 f.1 k.6),
        )

    -- the stratum j comes first, and then those above it
    pub first_marked : (j : ℕ) (old : Stratum S) (olds news : List (Stratum S)) (all : List (List (Entry S))) → AreFed g (suc j) ys olds
        → Give text_of (of_stratum j cs) (scope_in old (g j)) (scope_in (record old { marked = length old.accepted }) (h j)) ys
        → IsMarkFrom text_of cs limit g h (suc j) [] (map (given_to limit ys) olds) news all
        → IsMarkFrom text_of cs limit g h j [] (old ∷ olds) (record old { marked = length old.accepted } ∷ news) ([] ∷ map (λ us. ys ++ us) all)
    first_marked j old olds news all f k rest =
        let nothing : record old { marked = length old.accepted } ≡ after_mark limit old [] =
        (let e = sym (append-nil old.accepted) in λ i. record { accepted = e i; marked = length (e i) }) in (
          news,
          map (λ us. ys ++ us) all,
          ys,
          ap (λ (s : Stratum S). s ∷ news) nothing,
          refl,
          subst (λ (s : Stratum S). Give text_of (of_stratum j cs) (scope_in old (g j)) (scope_in s (h j)) ys) nothing k,
          subst (λ (us : List (Entry S)). IsMarkFrom text_of cs limit g h (suc j) us olds news (map (λ us. ys ++ us) all)) (append-nil ys) (regiven (suc j) [] olds news all f rest),
        )

-- the chronicles of a stratum are those of its engine's plans
pub picked_chronicles : (j : ℕ) (ps : List Plan) (ks : List ℕ) → map chronicle (picked j ps ks) ≡ of_stratum j (placed_of ps ks)
picked_chronicles j [] ks = refl
picked_chronicles j (p ∷ ps) [] = refl
picked_chronicles j (p ∷ ps) (k ∷ ks) = by (k == j) (picked_chronicles j ps ks)
  where
    by : (b : Bool) → map chronicle (picked j ps ks) ≡ of_stratum j (placed_of ps ks)
        → map chronicle (cond b (p ∷ picked j ps ks) (picked j ps ks)) ≡ map (λ c. c.chronicle) (cond b (record { chronicle = chronicle p; stratum = k; lag = p.lag } ∷ filter (λ c. c.stratum == j) (placed_of ps ks)) (filter (λ c. c.stratum == j) (placed_of ps ks)))
    by true r = ap (λ (cs : List (Chronicle Sym)). chronicle p ∷ cs) r
    by false r = r
