-- The pools of prompt chronicles: what had arrived by the last mark, and what was accepted since then.
use Rattle.std.proofs.Common.{◌≡◌, ◌≢◌, ℕ, ◌<◌, ◌≤◌, List, [], ◌∷◌, ◌++◌, refl, sym, ap, subst, ◌∙◌, inl, inr, arith, cond, not, Bool, true, false, nat_lt}
use Rattle.std.specs.List.{AllByRecursion}
use Rattle.std.specs.Ordering.{is_lt}
use Rattle.std.specs.declared.cmp.Ordering.{Ordering}
use Rattle.std.specs.declared.cmp.Ordering.TheVariants.{Less, Equal, Greater}
use Rattle.std.proofs.lemmas.Bool.{lt-ltb, le-ltb, ltb-true, ltb-false, not-true, cases_lt}
use Rattle.std.proofs.lemmas.List.Elements.{filter-append}
use Rattle.crs_base.specs.declared.symbols.Sym.{Sym}
use Rattle.crs_base.specs.Words.{IsIn, Ordered}
use Rattle.crs_base.specs.Entry.{Entry, entry_cmp}
use Rattle.crs_base.proofs.Words.{in_append, in_append_left, in_append_right, in_from_each, each_from_in, in_filter, in_filter_back, ordered_append, ordered_filter}
use Rattle.crs_base.proofs.KeyOrder.{entry_total}
use Rattle.crs_model.specs.declared.plan.Plan.{Plan}
use Rattle.crs_model.specs.Models.{Chronicle}
use Rattle.crs_model.specs.Matching.{AreDistinct}
use Rattle.crs_model.specs.Partial.{Partial, at}
use Rattle.crs_model.specs.Open.{IsOpen, pool_among}
use Rattle.crs_model.specs.Order.{put_in_order, arrived}
use Rattle.crs_model.specs.Plans.{chronicle}
use Rattle.crs_model.proofs.Options.{of_some, some_if}
use Rattle.crs_store.specs.Stores.{StoreState, StandsComing, levels_of}
use Rattle.crs_engine.specs.Engines.{not_arrived}
use Rattle.crs_engine.proofs.Order.{put_cases, ordered_right}

-- ---- what had arrived

pub arrived_all : (n : ℕ) (xs : List (Entry Sym)) → AllByRecursion (λ x. x.arrival < n) xs → arrived n xs ≡ xs
arrived_all n [] h = refl
arrived_all n (x ∷ xs) h = ap (λ (b : Bool). cond b (x ∷ arrived n xs) (arrived n xs)) (lt-ltb x.arrival n h.0) ∙ ap (λ (t : List (Entry Sym)). x ∷ t) (arrived_all n xs h.1)

pub arrived_none : (n : ℕ) (xs : List (Entry Sym)) → AllByRecursion (λ x. x.arrival < n) xs → not_arrived n xs ≡ []
arrived_none n [] h = refl
arrived_none n (x ∷ xs) h = ap (λ (b : Bool). cond (not b) (x ∷ not_arrived n xs) (not_arrived n xs)) (lt-ltb x.arrival n h.0) ∙ arrived_none n xs h.1

module _ (n : ℕ) (x : Entry Sym) (late : n ≤ x.arrival) where
  -- one that arrives later hadn't arrived
  pub arrived_put : (xs : List (Entry Sym)) → arrived n (put_in_order x xs) ≡ arrived n xs
  arrived_put [] = ap (λ (b : Bool). cond b (x ∷ []) []) (le-ltb x.arrival n late)
  arrived_put (y ∷ ys) = put_cases (λ t. arrived n t ≡ arrived n (y ∷ ys)) x y ys
      (ap (λ (b : Bool). cond b (x ∷ arrived n (y ∷ ys)) (arrived n (y ∷ ys))) (le-ltb x.arrival n late))
      (ap (λ (t : List (Entry Sym)). cond (nat_lt y.arrival n) (y ∷ t) t) (arrived_put ys))

  pub arrived_more : (s w : List (Entry Sym)) → arrived n (s ++ put_in_order x w) ≡ arrived n (s ++ w)
  arrived_more s w = filter-append (λ (e : Entry Sym). nat_lt e.arrival n) s (put_in_order x w) ∙ ap (λ (t : List (Entry Sym)). arrived n s ++ t) (arrived_put w) ∙ sym (filter-append (λ (e : Entry Sym). nat_lt e.arrival n) s w)

-- ---- one more in order among those that hadn't arrived

less_from : (r : Ordering) → is_lt r ≡ true → r ≡ Less
less_from Less e = refl
less_from Equal e = absurd cc
less_from Greater e = absurd cc

put_first : (x : Entry Sym) (xs : List (Entry Sym)) → AllByRecursion (λ y. entry_cmp x y ≡ Less) xs → put_in_order x xs ≡ x ∷ xs
put_first x [] h = refl
put_first x (y ∷ ys) h = ap (λ (r : Ordering). cond (is_lt r) (x ∷ y ∷ ys) (y ∷ put_in_order x ys)) h.0

module _ (n : ℕ) (x : Entry Sym) (late : n ≤ x.arrival) where
  stays : (xs : List (Entry Sym)) → not_arrived n (x ∷ xs) ≡ x ∷ not_arrived n xs
  stays xs = ap (λ (b : Bool). cond (not b) (x ∷ not_arrived n xs) (not_arrived n xs)) (le-ltb x.arrival n late)

  before_all : (y : Entry Sym) (ys : List (Entry Sym)) → entry_cmp x y ≡ Less → AllByRecursion (λ z. entry_cmp y z ≡ Less) ys → (z : Entry Sym) → IsIn z (y ∷ ys) → entry_cmp x z ≡ Less
  before_all y ys l all z (inl e) = subst (λ (t : Entry Sym). entry_cmp x t ≡ Less) (sym e) l
  before_all y ys l all z (inr i) = entry_total.trans x y z l (in_from_each (λ t. entry_cmp y t ≡ Less) ys all z i)

  pub not_arrived_put : (xs : List (Entry Sym)) → Ordered (λ a b. entry_cmp a b ≡ Less) xs → not_arrived n (put_in_order x xs) ≡ put_in_order x (not_arrived n xs)
  not_arrived_put [] o = stays []
  not_arrived_put (y ∷ ys) o = by (is_lt (entry_cmp x y)) refl (not_arrived_put ys o.1)
    where
      later : (b c : Bool) → c ≡ false → is_lt (entry_cmp x y) ≡ c → cond b (y ∷ put_in_order x (not_arrived n ys)) (put_in_order x (not_arrived n ys)) ≡ put_in_order x (cond b (y ∷ not_arrived n ys) (not_arrived n ys))
      later true c f e = sym (ap (λ (t : Bool). cond t (x ∷ y ∷ not_arrived n ys) (y ∷ put_in_order x (not_arrived n ys))) (e ∙ f))
      later false c f e = refl

      by : (c : Bool) → is_lt (entry_cmp x y) ≡ c → not_arrived n (put_in_order x ys) ≡ put_in_order x (not_arrived n ys) → not_arrived n (cond c (x ∷ y ∷ ys) (y ∷ put_in_order x ys)) ≡ put_in_order x (not_arrived n (y ∷ ys))
      by true e rest = stays (y ∷ ys) ∙ sym (put_first x (not_arrived n (y ∷ ys)) (each_from_in (λ z. entry_cmp x z ≡ Less) (not_arrived n (y ∷ ys)) (λ z i. before_all y ys (less_from (entry_cmp x y) e) o.0 z (in_filter_back (λ (t : Entry Sym). not (nat_lt t.arrival n)) (y ∷ ys) z i).0)))
      by false e rest = ap (λ (t : List (Entry Sym)). cond (not (nat_lt y.arrival n)) (y ∷ t) t) rest ∙ later (not (nat_lt y.arrival n)) false refl e

-- ---- the old pool and the new ones

module _ (s w : List (Entry Sym)) (m : ℕ) (early : AllByRecursion (λ x. x.arrival < m) s) where
  abbrev pub grown : List (Entry Sym)
  grown = arrived m (s ++ w) ++ not_arrived m w

  pub pool_to : (e : Entry Sym) → IsIn e grown → IsIn e (s ++ w)
  pool_to e i = elim (in_append (arrived m (s ++ w)) (not_arrived m w) e i) [
    | inl a ↦ (in_filter_back (λ (t : Entry Sym). nat_lt t.arrival m) (s ++ w) e a).0
    | inr b ↦ in_append_right s w e (in_filter_back (λ (t : Entry Sym). not (nat_lt t.arrival m)) w e b).0
  ]

  pub pool_from : (e : Entry Sym) → IsIn e (s ++ w) → IsIn e grown
  pool_from e i = elim (cases_lt e.arrival m) [
    | inl l ↦ in_append_left (arrived m (s ++ w)) (not_arrived m w) e (in_filter (λ (t : Entry Sym). nat_lt t.arrival m) (s ++ w) e i (lt-ltb e.arrival m l))
    | inr g ↦ in_append_right (arrived m (s ++ w)) (not_arrived m w) e (elim (in_append s w e i) [
      | inl a ↦ (let l = in_from_each (λ x. x.arrival < m) s early e a in absurd (omega arith))
      | inr b ↦ in_filter (λ (t : Entry Sym). not (nat_lt t.arrival m)) w e b (ap not (le-ltb e.arrival m g))
    ])
  ]

  pub pool_apart : AreDistinct (s ++ w) → AreDistinct grown
  pool_apart d = ordered_append (λ a b. a.arrival ≢ b.arrival) (arrived m (s ++ w)) (not_arrived m w)
      (ordered_filter (λ a b. a.arrival ≢ b.arrival) (λ (t : Entry Sym). nat_lt t.arrival m) (s ++ w) d)
      (ordered_filter (λ a b. a.arrival ≢ b.arrival) (λ (t : Entry Sym). not (nat_lt t.arrival m)) w (ordered_right (λ a b. a.arrival ≢ b.arrival) s w d))
      (λ y z i j e. let a = ltb-true y.arrival m (in_filter_back (λ (t : Entry Sym). nat_lt t.arrival m) (s ++ w) y i).1 in
      let b = ltb-false z.arrival m (not-true (nat_lt z.arrival m) (in_filter_back (λ (t : Entry Sym). not (nat_lt t.arrival m)) w z j).1) in absurd (omega (arith, e)))

-- ---- the order of a pool doesn't matter

module _ (c : Chronicle Sym) where
  open_in : (level : ℕ → ℕ) (pool other entries : List (Entry Sym)) (n : ℕ) (a : Partial Sym) → ((e : Entry Sym) → IsIn e pool → IsIn e other) → IsOpen c level pool entries n a → IsOpen c level other entries n a
  open_in level pool other entries n a sub k = record {
    look = k.look;
    partial = record { len = k.partial.len; given = λ e. some_if (at a e) _ (λ x i. sub x (of_some (at a e) x _ i (k.partial.given e))); distinct = k.partial.distinct; binding = k.partial.binding; allowed = k.partial.allowed };
    closed = k.closed;
    dates = k.dates;
    windows = k.windows;
  }

pub stands_alike : (s : StoreState) (whole all coming was pool other entries : List (Entry Sym)) (d g h : ℕ) → ((e : Entry Sym) → IsIn e pool → IsIn e other) → ((e : Entry Sym) → IsIn e other → IsIn e pool) → StandsComing s whole all coming was pool entries d g h → StandsComing s whole all coming was other entries d g h
stands_alike s whole all coming was pool other entries d g h there back k =
    let c = chronicle s.plan in
    record {
      stands = record {
        was_in = λ e i. there e (k.stands.was_in e i);
        entries_in = λ e i. there e (k.stands.entries_in e i);
        marked = k.stands.marked;
        distinct = k.stands.distinct;
        each = λ a i. (open_in c (levels_of s) pool other entries d a there (k.stands.each a i).0, (k.stands.each a i).1);
        all = λ a o w. k.stands.all a (open_in c (levels_of s) other pool entries d a back o.0, o.1) w;
      };
      follows = k.follows;
      judged = k.judged;
    }

-- ---- the pool of a plan

pub among_plain : (p q : Plan) → q ≡ p → q.chronicle.prompt ≡ false → (settled came : List (Entry Sym)) → pool_among (chronicle p) settled came ≡ settled
among_plain p q sp e settled came = ap (λ (b : Bool). cond b came settled) (sym (ap (λ (t : Plan). t.chronicle.prompt) sp) ∙ e)

pub among_prompt : (p q : Plan) → q ≡ p → q.chronicle.prompt ≡ true → (settled came : List (Entry Sym)) → pool_among (chronicle p) settled came ≡ came
among_prompt p q sp e settled came = ap (λ (b : Bool). cond b came settled) (sym (ap (λ (t : Plan). t.chronicle.prompt) sp) ∙ e)

-- the two lists being one, that is the pool
pub among_same : (c : Chronicle Sym) (settled came : List (Entry Sym)) → came ≡ settled → pool_among c settled came ≡ settled
among_same c settled came e = by c.prompt
  where
    by : (b : Bool) → cond b came settled ≡ settled
    by true = e
    by false = refl
