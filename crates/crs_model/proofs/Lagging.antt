-- How far behind the date of one of its events a recognition can be new.
use Rattle.std.proofs.Common.{◌≡◌, ℕ, zero, suc, ◌+◌, ◌<◌, ◌≤◌, Bool, true, false, nat_lt, List, [], ◌∷◌, ◌++◌, length, map, refl, sym, ap, subst, ◌⊎◌, inl, inr, arith, ltb-true}
use Rattle.std.specs.Prelude.{ℤ, pos, ◌+ℤ◌, ◌-ℤ◌, ◌≤ℤ◌, ◌<ℤ◌, Option, Some, None, option_map, slice_get}
use Rattle.std.specs.List.{AllByRecursion, AllZip}
use Rattle.std.proofs.lemmas.Bool.{ltb-false}
use Rattle.std.proofs.lemmas.Int.{ints, by_lt_z}
use Rattle.crs_base.specs.Words.{IsIn}
use Rattle.crs_base.specs.Entry.{Entry}
use Rattle.crs_base.proofs.Words.{in_map, each_from_in, in_from_each}
use Rattle.crs_stn.specs.declared.bound.Bound.{Bound}
use Rattle.crs_stn.specs.Bound.{Meets}
use Rattle.crs_stn.specs.Network.{IsMost, IsMinimal}
use Rattle.crs_model.specs.Models.{Chronicle, Window}
use Rattle.crs_model.specs.Matching.{Assignment}
use Rattle.crs_model.specs.Partial.{at}
use Rattle.crs_model.specs.Verdicts.{IsMet}
use Rattle.crs_model.specs.Open.{IsRecognised, whole}
use Rattle.crs_model.specs.Reach.{Bounds}
use Rattle.crs_model.specs.Hierarchy.{IsLag, end_span}
use Rattle.crs_model.proofs.Lost.{so_back}
use Rattle.crs_model.proofs.Options.{and_some}
use Rattle.crs_model.proofs.Parts.{agrees_at}
use Rattle.crs_model.proofs.Reaching.{by_pair}

-- where the window's last date lies at most l behind an event's
by_end : (bounds : List Bound) (p q : ℕ) (o : Option ℤ) (l off : ℤ) (t : ℕ → ℤ) → IsMost bounds p q o
    → Bounds (Some l) (option_map (λ m. (m +ℤ off) -ℤ pos 1) o) → Meets bounds t → (t q +ℤ off) ≤ℤ ((t p +ℤ l) +ℤ pos 1)
by_end bounds p q None l off t is k m = absurd k
by_end bounds p q (Some b) l off t is k m = let d = is.0 t m in omega (arith, ints)

place : {S : Type 0} (es : List (Entry S)) (x : Entry S) → IsIn x es → (e : ℕ) × (at (map Some es) e ≡ Some x) × (e < length es)
place [] x i = absurd i
place (y ∷ es) x (inl s) = (0, ap Some (sym s), omega arith)
place (y ∷ es) x (inr i) = let r = place es x i in (suc r.0, r.1, let k = r.2 in omega arith)

within : {S : Type 0} (es : List (Entry S)) (e : ℕ) (x : Entry S) → at (map Some es) e ≡ Some x → e < length es
within [] e x h = absurd cc
within (y ∷ es) zero x h = omega arith
within (y ∷ es) (suc e) x h = let k = within es e x h in omega arith

entry_near : (x y l g : ℕ) (s t : ℤ) → s ≡ pos x → t ≡ pos y → t ≤ℤ (s +ℤ pos l) → g ≤ y → g ≤ x + l
entry_near x y l g s t e f k h = omega (arith, ints)

end_near : (x y l g : ℕ) (s t off to : ℤ) → s ≡ pos x → t ≡ pos y → to ≡ (pos y +ℤ off) → (t +ℤ off) ≤ℤ ((s +ℤ pos l) +ℤ pos 1) → pos g <ℤ to → g ≤ x + l
end_near x y l g s t off to e f q k h = omega (arith, ints)

-- An assignment is recognised at h over a pool, and the settled entries are those at g and more, dated at or after g. What of the pool is
-- dated before g was in it then.
module _ {S : Type 0} (c : Chronicle S) (was_pool pool was more : List (Entry S)) (g h : ℕ)
    (kept : (e : Entry S) → IsIn e pool → e.date < g → IsIn e was_pool) (late : (e : Entry S) → IsIn e more → g ≤ e.date)
    (b : Assignment S) (now : IsRecognised c pool (was ++ more) h b) where
  -- the window is met, and ends by g
  abbrev EndsBy : Window S → Type 0
  EndsBy w = (m : IsMet (slice_get b.values) (whole b) (was ++ more) h w) × (m.to ≤ℤ pos g)

  met_then : (w : Window S) → EndsBy w → IsMet (slice_get b.values) (whole b) was g w
  met_then w e = let m = e.0 in record {
    from = m.from;
    to = m.to;
    stretch = m.stretch;
    bound = m.bound;
    settled = e.1;
    so = so_back was more g g (omega arith) late (slice_get b.values) w.body m.from m.to e.1 m.so;
  }

  -- it was recognised at g, where its entries are dated before g and its windows end by g
  recognised_then : AllByRecursion (λ e. e.date < g) b.entries → AllByRecursion EndsBy c.windows → IsRecognised c was_pool was g b
  recognised_then dated ends = record {
    assignment = record {
      given = each_from_in (λ e. IsIn e was_pool) b.entries (λ e i. kept e (in_from_each (λ e. IsIn e pool) b.entries now.assignment.given e i) (in_from_each (λ e. e.date < g) b.entries dated e i));
      distinct = now.assignment.distinct;
      bound = now.assignment.bound;
      equal = now.assignment.equal;
      allowed = now.assignment.allowed;
    };
    bounds = now.bounds;
    windows = λ w i. met_then w (in_from_each EndsBy c.windows ends w i);
  }

  -- an entry dated at or after g, or none
  abbrev HasLate : List (Entry S) → Type 0
  HasLate es = (x : Entry S) × IsIn x es × (g ≤ x.date)

  late_entry : (es : List (Entry S)) → AllByRecursion (λ e. e.date < g) es ⊎ HasLate es
  late_entry [] = inl tt
  late_entry (x ∷ es) = by (nat_lt x.date g) refl (late_entry es)
    where
      by : (t : Bool) → nat_lt x.date g ≡ t → AllByRecursion (λ e. e.date < g) es ⊎ HasLate es → AllByRecursion (λ e. e.date < g) (x ∷ es) ⊎ HasLate (x ∷ es)
      by false e r = inr (x, inl refl, ltb-false x.date g e)
      by true e (inl all) = inl (ltb-true x.date g e, all)
      by true e (inr r) = inr (r.0, inr r.1, r.2)

  -- a window that ends behind g, or none
  abbrev EndsBehind : List (Window S) → Type 0
  EndsBehind ws = (w : Window S) × IsIn w ws × (m : IsMet (slice_get b.values) (whole b) (was ++ more) h w) × (pos g <ℤ m.to)

  late_window : (ws : List (Window S)) → ((w : Window S) → IsIn w ws → IsMet (slice_get b.values) (whole b) (was ++ more) h w) → AllByRecursion EndsBy ws ⊎ EndsBehind ws
  late_window [] met = inl tt
  late_window (w ∷ ws) met = by_lt_z (pos g) (met w (inl refl)).to (λ k. inr (w, inl refl, met w (inl refl), k)) (λ k. step k (late_window ws (λ v i. met v (inr i))))
    where
      step : (met w (inl refl)).to ≤ℤ pos g → AllByRecursion EndsBy ws ⊎ EndsBehind ws → AllByRecursion EndsBy (w ∷ ws) ⊎ EndsBehind (w ∷ ws)
      step k (inl all) = inl ((met w (inl refl), k), all)
      step k (inr r) = inr (r.0, inr r.1, r.2, r.3)

  same_length : length b.entries ≡ length c.events
  same_length = sym (zipped _ c.events b.entries now.assignment.equal)
    where
      zipped : {V : Type 0} (R : V → Entry S → Type 0) (vs : List V) (es : List (Entry S)) → AllZip R vs es → length vs ≡ length es
      zipped R [] [] k = refl
      zipped R [] (e ∷ es) k = absurd k
      zipped R (v ∷ vs) [] k = absurd k
      zipped R (v ∷ vs) (e ∷ es) k = ap suc (zipped R vs es k.1)

  module _ (n : ℕ) (most : ℕ → ℕ → Option ℤ) (minimal : IsMinimal c.bounds n most) (points : length c.events ≤ n)
      (from : List ℕ) (l : ℕ) (lag : IsLag (length c.events) most (map (λ w. w.to) c.windows) from (Some (pos l))) where
    event_point : (e : ℕ) (x : Entry S) → at (whole b) e ≡ Some x → e < length c.events
    event_point e x i = subst (λ k. e < k) same_length (within b.entries e x i)

    behind_entry : (p : ℕ) (x : Entry S) → IsIn p from → at (whole b) p ≡ Some x → HasLate b.entries → g ≤ x.date + l
    behind_entry p x among i r =
        let t = now.bounds.0 in
        let q = place b.entries r.0 r.1 in
        let lp = event_point p x i in
        let lq = event_point q.0 r.0 q.1 in
        entry_near x.date (r.0).date l g (t p) (t q.0) (agrees_at (whole b) t p x now.bounds.1 i) (agrees_at (whole b) t q.0 r.0 now.bounds.1 q.1)
        (by_pair c.bounds p q.0 (most p q.0) (pos l) t (minimal p q.0 (omega (arith, lp, points)) (omega (arith, lq, points))) (lag.bounds (most p q.0) (inr (p, among, inl (q.0, lq, refl)))) now.bounds.2) r.2

    behind_end : (p : ℕ) (x : Entry S) → IsIn p from → at (whole b) p ≡ Some x → EndsBehind c.windows → g ≤ x.date + l
    behind_end p x among i r =
        let t = now.bounds.0 in
        let w = r.0 in
        let s = and_some (at (whole b) w.to.event) _ (r.2).stretch.ends in
        let lp = event_point p x i in
        let lq = event_point w.to.event s.0 s.1 in
        end_near x.date (s.0).date l g (t p) (t w.to.event) w.to.offset (r.2).to (agrees_at (whole b) t p x now.bounds.1 i) (agrees_at (whole b) t w.to.event s.0 now.bounds.1 s.1) s.2
        (by_end c.bounds p w.to.event (most p w.to.event) (pos l) w.to.offset t (minimal p w.to.event (omega (arith, lp, points)) (omega (arith, lq, points)))
        (lag.bounds (end_span most p w.to) (inr (p, among, inr (w.to, in_map (λ (v : Window S). v.to) c.windows w r.1, refl)))) now.bounds.2) r.3

    -- what wasn't recognised at g has an event of an emit dated no further than the lag before g
    pub lag_suffices : (IsRecognised c was_pool was g b → ⊥) → (p : ℕ) (x : Entry S) → IsIn p from → at (whole b) p ≡ Some x → g ≤ x.date + l
    lag_suffices new p x among i = elim (late_entry b.entries) [
      | inr r ↦ behind_entry p x among i r
      | inl dated ↦ elim (late_window c.windows now.windows) [
        | inr r ↦ behind_end p x among i r
        | inl ends ↦ absurd (new (recognised_then dated ends))
      ]
    ]
