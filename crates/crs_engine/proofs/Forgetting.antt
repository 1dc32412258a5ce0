-- What an engine forgets after a mark, and what it still stands for.
use Rattle.std.proofs.Common.{◌≡◌, ℕ, ◌<◌, List, ◌++◌, sym, ap, subst, inl, inr, arith}
use Rattle.std.specs.Prelude.{◌⊎◌, ℤ, pos, ◌≤ℤ◌, ◌<ℤ◌}
use Rattle.std.specs.List.{AllByRecursion}
use Rattle.std.proofs.lemmas.Int.{ints, by_lt_z}
use Rattle.crs_base.specs.declared.symbols.Sym.{Sym}
use Rattle.crs_base.specs.Words.{Ordered}
use Rattle.std.specs.declared.cmp.Ordering.TheVariants.{Less}
use Rattle.crs_base.specs.Entry.{Entry, entry_cmp, IsInKeyOrder}
use Rattle.crs_base.specs.Sifted.{Sifts}
use Rattle.crs_base.proofs.Words.{ordered_append, in_from_each, each_from_in}
use Rattle.crs_base.proofs.Sifted.{sifts_ordered, sifted_in}
use Rattle.crs_history.specs.Histories.{HistoryState, lowest, IsFarBack, IsKept, StandsFor as HistoryStandsFor}
use Rattle.crs_engine.specs.Engines.{EngineState, StandsFor, IsEngine, plans_of, reaches_of, floor_at}
use Rattle.crs_engine.proofs.Floors.{all_far_at, floor_within, from_zero, from_floor}
use Rattle.crs_engine.proofs.Order.{ordered_left, ordered_right, ordered_cross}

-- ---- what is left

-- either nothing was forgotten, or what isn't kept from the date on
abbrev pub IsLeft : ℤ → List (Entry Sym) → List (Entry Sym) → Type 0
IsLeft date old new = (new ≡ old) ⊎ Sifts (IsKept old date) old new

pub what_is_left : (old new : HistoryState) (date : ℤ) → (date ≤ℤ old.floor → new ≡ old) → (old.floor <ℤ date → Sifts (IsKept old.entries date) old.entries new.entries) → IsLeft date old.entries new.entries
what_is_left old new date low held = by_lt_z old.floor date (λ g. inr (held g)) (λ l. inl (ap (λ (h : HistoryState). h.entries) (low l)))

pub front_sifted : {A : Type 0} (P : A → Type 0) (R : A → A → Type 0) (xs ys zs : List A) → Sifts P xs ys → Ordered R (xs ++ zs) → Ordered R (ys ++ zs)
front_sifted P R xs ys zs h o =
    ordered_append R ys zs (sifts_ordered P R xs ys h (ordered_left R xs zs o)) (ordered_right R xs zs o)
    (λ y z i j. ordered_cross R xs zs o y z (sifted_in P xs ys y h i).0 j)

pub left_in_order : (date : ℤ) (xs ys zs : List (Entry Sym)) → IsLeft date xs ys → IsInKeyOrder (xs ++ zs) → IsInKeyOrder (ys ++ zs)
left_in_order date xs ys zs (inl e) o = subst (λ (t : List (Entry Sym)). IsInKeyOrder (t ++ zs)) (sym e) o
left_in_order date xs ys zs (inr s) o = front_sifted (IsKept xs date) (λ a b. entry_cmp a b ≡ Less) xs ys zs s o

pub left_before : (date : ℤ) (xs ys : List (Entry Sym)) → IsLeft date xs ys → (t : ℕ) → AllByRecursion (λ x. x.date < t) xs → AllByRecursion (λ x. x.date < t) ys
left_before date xs ys (inl e) t all = subst (AllByRecursion (λ x. x.date < t)) (sym e) all
left_before date xs ys (inr s) t all = each_from_in (λ x. x.date < t) ys (λ x i. in_from_each (λ x. x.date < t) xs all x (sifted_in (IsKept xs date) xs ys x s i).0)

-- ---- the engine

pub forgot : (seen old : EngineState) (now : HistoryState) → seen ≡ old → IsEngine seen → now.floor ≡ floor_at seen.plans.reach seen.horizon → ((s : List (Entry Sym)) → HistoryStandsFor s seen.history → HistoryStandsFor s now) →
    (s w : List (Entry Sym)) → StandsFor old s w → StandsFor (record seen { history = now }) s w
forgot seen old now view is floor kept s w stands =
    let so : StandsFor seen s w = subst (λ (t : EngineState). StandsFor t s w) (sym view) stands in
    record {
      settled_before = so.settled_before;
      waiting_after = so.waiting_after;
      in_order = so.in_order;
      numbered = so.numbered;
      held = so.held;
      counted = so.counted;
      arrived_settled = so.arrived_settled;
      fresh_is = so.fresh_is;
      history = kept s so.history;
      far_back = subst (λ (z : ℤ). AllByRecursion (λ p. IsFarBack p.reach seen.horizon z) (plans_of seen.plans)) (sym floor)
          (all_far_at seen.plans.reach seen.horizon (plans_of seen.plans) (λ r i. (is.reach).bounds r (inr i)));
      stores = so.stores;
    }

pub still_engine : (seen : EngineState) (now : HistoryState) → IsEngine seen → now.floor ≡ floor_at seen.plans.reach seen.horizon → ((zs : List (Entry Sym)) → IsInKeyOrder (seen.history.entries ++ zs) → IsInKeyOrder (now.entries ++ zs)) →
    ((t : ℕ) → AllByRecursion (λ x. x.date < t) seen.history.entries → AllByRecursion (λ x. x.date < t) now.entries) → lowest ≤ℤ now.floor → IsEngine (record seen { history = now })
still_engine seen now is floor order dated least = record {
  stores = is.stores;
  waiting = is.waiting;
  few = is.few;
  limited = is.limited;
  not_late = is.not_late;
  in_order = order seen.waiting is.in_order;
  reach = is.reach;
  small = is.small;
  due = is.due;
  least = least;
  needed = omega (arith, ints, floor);
  settled = λ running. dated seen.horizon (is.settled running);
  fresh = is.fresh;
}

-- no entry that waits is before the floor
pub waits_from_floor : (seen : EngineState) → IsEngine seen → AllByRecursion (λ x. seen.history.floor ≤ℤ pos x.date) seen.waiting
waits_from_floor seen is =
    let within = floor_within seen.plans.reach seen.horizon (from_zero seen.plans.reach (reaches_of seen.plans) is.reach) in
    let needed = is.needed in
    from_floor seen.history.floor seen.horizon seen.waiting (omega (arith, ints)) is.due
