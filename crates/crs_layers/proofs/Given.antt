-- What is new at a mark gives no entry that is dated further than the lag before the horizon that was.
use Rattle.std.proofs.Common.{◌≡◌, ℕ, zero, suc, ◌+◌, ◌<◌, ◌≤◌, ◌==◌, max, cond, Bool, true, false, List, [], ◌∷◌, ◌++◌, map, filter, length, refl, sym, ap, subst, ◌∙◌, inl, inr, arith, eqb-true, eq-eqb}
use Rattle.std.specs.Prelude.{ℤ, pos, Option, Some, None, option_map, slice_get}
use Rattle.std.specs.List.{AllByRecursion, flat_map}
use Rattle.std.specs.Option.{option_to_list}
use Rattle.crs_base.specs.Entry.{Entry}
use Rattle.crs_base.specs.Words.{IsIn}
use Rattle.crs_base.proofs.Alls.{all_append}
use Rattle.crs_base.proofs.Words.{in_flat_map_back, in_filter_back, in_map, in_map_back, each_from_in, in_from_each}
use Rattle.crs_stn.specs.Network.{IsMinimal}
use Rattle.crs_model.specs.Hierarchy.{IsLagOf, ticks_of, lag_at}
use Rattle.crs_model.specs.Matching.{Assignment}
use Rattle.crs_model.specs.Models.{Emit, Chronicle}
use Rattle.crs_model.specs.Open.{IsRecognised, pool_among}
use Rattle.crs_model.specs.Partial.{at}
use Rattle.crs_model.specs.Scopes.{Scope, scope_of, IsNewIn}
use Rattle.crs_model.proofs.Lagging.{lag_suffices}
use Rattle.crs_layers.specs.Strata.{Placed, IsPlaced, entry_by, given_by, gives, Give, of_stratum}

placed_at : {S : Type 0} (es : List (Entry S)) (k : ℕ) (x : Entry S) → slice_get es k ≡ Some x → at (map Some es) k ≡ Some x
placed_at [] k x e = cc
placed_at (y ∷ es) zero x e = e
placed_at (y ∷ es) (suc k) x e = placed_at es k x e

-- a chronicle whose lag is at most this
pub record IsQuick {S : Type 0} (most_lag : ℕ) (c : Chronicle S) : Type 0 where
  pub most : ℕ → ℕ → Option ℤ
  pub minimal : IsMinimal c.bounds (length c.events + length c.free) most
  pub ticks : ℕ
  pub lag : IsLagOf c most (Some (pos ticks))
  pub few : ticks ≤ most_lag

module _ {S : Type 0} (text_of : S → List ℕ) where
  -- an entry that is given has the date of an event
  pub record IsDatedAs (c : Chronicle S) (b : Assignment S) (y : Entry S) : Type 0 where
    pub emit : Emit S
    pub among : IsIn emit c.emits
    pub entry : Entry S
    pub bound : slice_get b.entries emit.event ≡ Some entry
    pub date : y.date ≡ entry.date

  given_from : (b : Assignment S) (e : Emit S) (o : Option (Entry S)) (y : Entry S) → IsIn y (option_to_list (option_map (entry_by text_of b.values e) o)) → (x : Entry S) × (o ≡ Some x) × (y.date ≡ x.date)
  given_from b e None y i = absurd i
  given_from b e (Some x) y (inl q) = (x, refl, ap (λ z. z.date) q)
  given_from b e (Some x) y (inr i) = absurd i

  pub dated_as : (c : Chronicle S) (b : Assignment S) (y : Entry S) → IsIn y (gives text_of c b) → IsDatedAs c b y
  dated_as c b y i =
      let f = in_flat_map_back (given_by text_of b) c.emits y i in
      let g = given_from b f.0 (slice_get b.entries (f.0).event) y f.2 in
      record { emit = f.0; among = f.1; entry = g.0; bound = g.1; date = g.2 }

  -- Entries were settled at g, and with more that are dated at or after g they are settled at h. What had come by the last mark, and has come by this one.
  module _ (g h : ℕ) (was more : List (Entry S)) (late : (e : Entry S) → IsIn e more → g ≤ e.date) (settled : List (Entry S)) (split : settled ≡ was ++ more)
      (had came : List (Entry S)) (in_was : (e : Entry S) → IsIn e settled → e.date < g → IsIn e was) (in_had : (e : Entry S) → IsIn e came → e.date < g → IsIn e had) (lag : ℕ) where
    abbrev scope_was : Chronicle S → Scope S
    scope_was c = scope_of c was had g

    abbrev scope_now : Chronicle S → Scope S
    scope_now c = scope_of c settled came h

    in_pool : (c : Chronicle S) (e : Entry S) → IsIn e (pool_among c settled came) → e.date < g → IsIn e (pool_among c was had)
    in_pool c e = by c.prompt
      where
        by : (b : Bool) → IsIn e (cond b came settled) → e.date < g → IsIn e (cond b had was)
        by true i l = in_had e i l
        by false i l = in_was e i l

    one_due : (c : Chronicle S) → IsQuick lag c → (b : Assignment S) → IsNewIn c (scope_was c) (scope_now c) b → AllByRecursion (λ y. g ≤ y.date + lag) (gives text_of c b)
    one_due c q b new = each_from_in (λ y. g ≤ y.date + lag) (gives text_of c b) (λ y i.
        let d = dated_as c b y i in
        let few = q.few in
        let date = d.date in
        let near = lag_suffices c (pool_among c was had) (pool_among c settled came) was more g h (in_pool c) late b (subst (λ (es : List (Entry S)). IsRecognised c (pool_among c settled came) es h b) split new.0)
        (length c.events + length c.free) q.most q.minimal (omega arith) (map (λ e. e.event) c.emits) q.ticks q.lag new.1 (d.emit).event d.entry
        (in_map (λ (e : Emit S). e.event) c.emits d.emit d.among) (placed_at b.entries (d.emit).event d.entry d.bound) in
        omega (arith, few, date, near))

    all_due : (c : Chronicle S) → IsQuick lag c → (bs : List (Assignment S)) → AllByRecursion (IsNewIn c (scope_was c) (scope_now c)) bs → AllByRecursion (λ y. g ≤ y.date + lag) (flat_map (gives text_of c) bs)
    all_due c q [] k = tt
    all_due c q (b ∷ bs) k = all_append (λ y. g ≤ y.date + lag) (gives text_of c b) (flat_map (gives text_of c) bs) (one_due c q b k.0) (all_due c q bs k.1)

    pub give_due : (cs : List (Chronicle S)) (given : List (Entry S)) → AllByRecursion (IsQuick lag) cs → Give text_of cs scope_was scope_now given → AllByRecursion (λ y. g ≤ y.date + lag) given
    give_due [] given q k = subst (AllByRecursion (λ y. g ≤ y.date + lag)) (sym k) tt
    give_due (c ∷ cs) given q k = subst (AllByRecursion (λ y. g ≤ y.date + lag)) (sym k.4)
        (all_append (λ y. g ≤ y.date + lag) (flat_map (gives text_of c) k.0) k.1 (all_due c q.0 k.0 (k.2).each) (give_due cs k.1 q.1 k.3))

module _ {S : Type 0} (cs : List (Placed S)) (all : AllByRecursion IsPlaced cs) where
  abbrev pub lags : List (Placed S) → List (ℕ × Option ℤ)
  lags ps = map (λ c. (c.stratum, c.lag)) ps

  lag_within : (ps : List (Placed S)) (p : Placed S) (j : ℕ) → IsIn p ps → p.stratum ≡ j → ticks_of p.lag ≤ lag_at j (lags ps)
  lag_within [] p j i e = absurd i
  lag_within (q ∷ ps) p j (inl s) e = first (q.stratum == j) (eq-eqb q.stratum j (sym (ap (λ x. x.stratum) s) ∙ e)) (ap (λ x. ticks_of x.lag) s)
    where
      first : (b : Bool) → b ≡ true → ticks_of p.lag ≡ ticks_of q.lag → ticks_of p.lag ≤ max (cond b (ticks_of q.lag) 0) (lag_at j (lags ps))
      first true h k = omega arith
      first false h k = absurd cc
  lag_within (q ∷ ps) p j (inr i) e = let k = lag_within ps p j i e in omega arith

  quick_of : (p : Placed S) (j : ℕ) → IsIn p cs → p.stratum ≡ j → IsQuick (lag_at j (lags cs)) p.chronicle
  quick_of p j i e =
      let k = in_from_each IsPlaced cs all p i in
      record {
        most = k.most;
        minimal = k.minimal;
        ticks = k.ticks;
        lag = subst (λ (o : Option ℤ). IsLagOf p.chronicle k.most o) k.finite k.lag;
        few = subst (λ n. n ≤ lag_at j (lags cs)) (ap ticks_of k.finite) (lag_within cs p j i e);
      }

  pub quick : (j : ℕ) → AllByRecursion (IsQuick (lag_at j (lags cs))) (of_stratum j cs)
  quick j = each_from_in (IsQuick (lag_at j (lags cs))) (of_stratum j cs) (λ c i.
      let a = in_map_back (λ c. c.chronicle) (filter (λ c. c.stratum == j) cs) c i in
      let b = in_filter_back (λ c. c.stratum == j) cs a.0 a.1 in
      subst (IsQuick (lag_at j (lags cs))) (sym a.2) (quick_of a.0 j b.0 (eqb-true (a.0).stratum j b.1)))
