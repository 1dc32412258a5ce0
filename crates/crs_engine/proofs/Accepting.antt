-- What an engine stands for when an entry was accepted.
use Rattle.std.proofs.Common.{◌≡◌, ◌≢◌, ℕ, ◌<◌, ◌≤◌, ◌+◌, ◌^◌, List, [], ◌∷◌, ◌++◌, map, sym, ap, subst, ◌∙◌, inl, inr, arith, Bool, true, false}
use Rattle.std.specs.List.{AllByRecursion, AllZip}
use Rattle.std.specs.declared.cmp.Ordering.TheVariants.{Less}
use Rattle.std.proofs.lemmas.Bool.{cases_lt}
use Rattle.crs_base.specs.declared.symbols.Sym.{Sym}
use Rattle.crs_base.specs.Words.{IsIn, Ordered}
use Rattle.crs_base.specs.Entry.{Entry, entry_cmp, IsInKeyOrder}
use Rattle.crs_base.proofs.Words.{in_append, in_append_left, in_append_right, in_from_each, each_from_in, in_map, in_map_back, ordered_append}
use Rattle.crs_base.proofs.Alls.{all_each}
use Rattle.crs_base.proofs.KeyOrder.{less_by_date}
use Rattle.crs_model.specs.Matching.{AreDistinct}
use Rattle.crs_model.specs.Order.{put_in_order, arrived}
use Rattle.crs_model.specs.Open.{pool_among}
use Rattle.crs_model.specs.Plans.{chronicle}
use Rattle.crs_model.specs.declared.plan.Plan.{Plan}
use Rattle.crs_store.specs.Stores.{StoreState, Stands}
use Rattle.crs_buffer.specs.Entries.{IsNewKey}
use Rattle.crs_engine.specs.Engines.{EngineState, StandsFor, HaveNumbersBelow, IsStoreAt, IsWaiting, has_prompt, plans_of}
use Rattle.crs_engine.specs.Moves.{put_where}
use Rattle.crs_engine.proofs.Pools.{arrived_more, not_arrived_put}
use Rattle.crs_engine.proofs.Order.{ordered_left, ordered_right, ordered_cross, keys_differ, put_each, put_distinct, in_put_new, in_put_old}

-- no waiting entry has the key of the next one
pub new_key : (n : ℕ) (ws : List (Entry Sym)) (x : Entry Sym) → x.arrival ≡ n → AllByRecursion (IsWaiting n) ws → IsNewKey x ws
new_key n ws x e h = all_each {P = IsWaiting n} ws (λ y w. keys_differ x y (λ s. let a = w.arrived in absurd (omega (arith, e, s)))) h

pub waiting_more : (n : ℕ) (ws : List (Entry Sym)) (x : Entry Sym) → x.arrival ≡ n → x.date < 2 ^ 40 → AllByRecursion (IsWaiting n) ws → AllByRecursion (IsWaiting (n + 1)) (put_in_order x ws)
waiting_more n ws x e d h = put_each x (IsWaiting (n + 1)) ws (record { dated = d; arrived = omega (arith, e) }) (all_each {P = IsWaiting n} ws (λ y w. record { dated = w.dated; arrived = (let a = w.arrived in omega arith) }) h)

pub fresh_more : (b : Bool) (n : ℕ) (fs : List (Entry Sym)) (x : Entry Sym) → x.arrival ≡ n → x.date < 2 ^ 40 → AllByRecursion (IsWaiting n) fs → AllByRecursion (IsWaiting (n + 1)) (put_where b x fs)
fresh_more true n fs x e d h = waiting_more n fs x e d h
fresh_more false n fs x e d h = all_each {P = IsWaiting n} fs (λ y w. record { dated = w.dated; arrived = (let a = w.arrived in omega arith) }) h

-- the pools stay as they are where the next entry waits
stores_put : (focus : Bool) (m : ℕ) (settled was now : List (Entry Sym)) (h : ℕ) → arrived m (settled ++ now) ≡ arrived m (settled ++ was) → (ps : List Plan) (ss : List StoreState) → AllZip (IsStoreAt focus m settled was h) ps ss → AllZip (IsStoreAt focus m settled now h) ps ss
stores_put focus m settled was now h e [] [] z = tt
stores_put focus m settled was now h e [] (s ∷ ss) z = absurd z
stores_put focus m settled was now h e (p ∷ ps) [] z = absurd z
stores_put focus m settled was now h e (p ∷ ps) (s ∷ ss) z = (
  record { plan = (z.0).plan; focus_is = (z.0).focus_is; stands = subst (λ (t : List (Entry Sym)). Stands s (pool_among (chronicle p) settled t) (pool_among (chronicle p) settled t) settled h h) (sym e) (z.0).stands },
  stores_put focus m settled was now h e ps ss z.1,
)

abbrev pub arrivals : List (Entry Sym) → List ℕ
arrivals es = map (λ e. e.arrival) es

module _ (n : ℕ) (s w : List (Entry Sym)) (x : Entry Sym) (is : x.arrival ≡ n) (num : HaveNumbersBelow n (s ++ w)) where
  below : (y : Entry Sym) → IsIn y (s ++ w) → y.arrival < n
  below y i = (num.numbers y.arrival).1 (in_map (λ (e : Entry Sym). e.arrival) (s ++ w) y i)

  apart : (y : Entry Sym) → IsIn y (s ++ w) → x.arrival ≢ y.arrival
  apart y i e = let b = below y i in omega (arith, e, is)

  distinct : AreDistinct (s ++ put_in_order x w)
  distinct = ordered_append (λ d e. d.arrival ≢ e.arrival) s (put_in_order x w)
      (ordered_left (λ d e. d.arrival ≢ e.arrival) s w num.distinct)
      (put_distinct x w (each_from_in (λ y. x.arrival ≢ y.arrival) w (λ y i. apart y (in_append_right s w y i))) (ordered_right (λ d e. d.arrival ≢ e.arrival) s w num.distinct))
      (λ y z i j. in_from_each (λ t. y.arrival ≢ t.arrival) (put_in_order x w)
      (put_each x (λ t. y.arrival ≢ t.arrival) w (λ e. apart y (in_append_left s w y i) (sym e)) (each_from_in (λ t. y.arrival ≢ t.arrival) w (λ t k. ordered_cross (λ d e. d.arrival ≢ e.arrival) s w num.distinct y t i k))) z j)

  old_in : (y : Entry Sym) → IsIn y (s ++ w) → IsIn y (s ++ put_in_order x w)
  old_in y i = elim (in_append s w y i) [ inl a ↦ in_append_left s (put_in_order x w) y a | inr b ↦ in_append_right s (put_in_order x w) y (in_put_old x w y b) ]

  there : (k : ℕ) → k < n + 1 → IsIn k (arrivals (s ++ put_in_order x w))
  there k l = elim (cases_lt k n) [
    | inl a ↦ (let r = in_map_back (λ (e : Entry Sym). e.arrival) (s ++ w) k ((num.numbers k).0 a) in subst (λ (m : ℕ). IsIn m (arrivals (s ++ put_in_order x w))) (sym r.2) (in_map (λ (e : Entry Sym). e.arrival) (s ++ put_in_order x w) r.0 (old_in r.0 r.1)))
    | inr b ↦ (let e : x.arrival ≡ k = omega (arith, is) in subst (λ (m : ℕ). IsIn m (arrivals (s ++ put_in_order x w))) e (in_map (λ (e : Entry Sym). e.arrival) (s ++ put_in_order x w) x (in_append_right s (put_in_order x w) x (in_put_new x w))))
  ]

  each_below : AllByRecursion (λ y. y.arrival < n + 1) (put_in_order x w)
  each_below = put_each x (λ y. y.arrival < n + 1) w (omega (arith, is)) (each_from_in (λ y. y.arrival < n + 1) w (λ y i. let b = below y (in_append_right s w y i) in omega arith))

  back : (k : ℕ) → IsIn k (arrivals (s ++ put_in_order x w)) → k < n + 1
  back k i =
      let r = in_map_back (λ (e : Entry Sym). e.arrival) (s ++ put_in_order x w) k i in
      elim (in_append s (put_in_order x w) r.0 r.1) [
        | inl a ↦ (let b = below r.0 (in_append_left s w r.0 a) in omega (arith, r.2))
        | inr c ↦ (let b = in_from_each (λ y. y.arrival < n + 1) (put_in_order x w) each_below r.0 c in omega (arith, r.2))
      ]

  pub numbered_more : HaveNumbersBelow (n + 1) (s ++ put_in_order x w)
  numbered_more = record { distinct = distinct; numbers = λ k. (there k, back k) }

-- one more in order, dated after what stands before them
pub in_order_more : (s w : List (Entry Sym)) (x : Entry Sym) (h : ℕ) → Ordered (λ a b. entry_cmp a b ≡ Less) (s ++ w) → AllByRecursion (λ y. y.date < h) s → h ≤ x.date → Ordered (λ a b. entry_cmp a b ≡ Less) (put_in_order x w) → Ordered (λ a b. entry_cmp a b ≡ Less) (s ++ put_in_order x w)
in_order_more s w x h order before_h late up =
    ordered_append (λ a b. entry_cmp a b ≡ Less) s (put_in_order x w) (ordered_left (λ a b. entry_cmp a b ≡ Less) s w order) up (λ y z i j.
    in_from_each (λ t. entry_cmp y t ≡ Less) (put_in_order x w)
    (put_each x (λ t. entry_cmp y t ≡ Less) w (less_by_date y x (let a = in_from_each (λ t. t.date < h) s before_h y i in omega arith)) (each_from_in (λ t. entry_cmp y t ≡ Less) w (λ t k. ordered_cross (λ a b. entry_cmp a b ≡ Less) s w order y t i k))) z j)

pub accepted_from : (seen old : EngineState) (x : Entry Sym) (ws fs : List (Entry Sym)) (b : Bool) → seen ≡ old → x.arrival ≡ seen.accepted → seen.horizon ≤ x.date → ws ≡ put_in_order x seen.waiting → IsInKeyOrder ws → b ≡ has_prompt seen.plans → fs ≡ put_where b x seen.fresh →
    (s w : List (Entry Sym)) → StandsFor old s w →
    StandsFor (record { plans = seen.plans; stores = seen.stores; history = seen.history; waiting = ws; fresh = fs; delay = seen.delay; last = seen.last; horizon = seen.horizon; accepted = seen.accepted + 1; marked = seen.marked; limit = seen.limit; focus = seen.focus; stopped = seen.stopped }) s (put_in_order x w)
accepted_from seen old x ws fs b view is late put sorted prompt given s w stands =
    let so : StandsFor seen s w = subst (λ (t : EngineState). StandsFor t s w) (sym view) stands in
    let held : ws ≡ put_in_order x w = put ∙ ap (put_in_order x) so.held in
    let up : Ordered (λ a b. entry_cmp a b ≡ Less) (put_in_order x w) = subst (λ (t : List (Entry Sym)). Ordered (λ a b. entry_cmp a b ≡ Less) t) held sorted in
    let after : seen.marked ≤ x.arrival = let c = so.counted in omega (arith, is, c) in
    record {
      settled_before = so.settled_before;
      waiting_after = put_each x (λ y. seen.horizon ≤ y.date) w late so.waiting_after;
      in_order = in_order_more s w x seen.horizon so.in_order so.settled_before late up;
      numbered = numbered_more seen.accepted s w x is so.numbered;
      held = held;
      counted = (let c = so.counted in omega arith);
      arrived_settled = so.arrived_settled;
      fresh_is = λ e. given ∙ ap (λ (t : Bool). put_where t x seen.fresh) (prompt ∙ e) ∙ ap (put_in_order x) (so.fresh_is e) ∙ sym (not_arrived_put seen.marked x after w (ordered_right (λ a b. entry_cmp a b ≡ Less) s w so.in_order));
      history = so.history;
      far_back = so.far_back;
      stores = stores_put seen.focus seen.marked s w (put_in_order x w) seen.horizon (arrived_more seen.marked x after s w) (plans_of seen.plans) seen.stores so.stores;
    }
