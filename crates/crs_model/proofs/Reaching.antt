-- How far back the entries and the windows of what binds an entry can lie.
use Rattle.std.proofs.Common.{◌≡◌, ℕ, ◌<◌, List, length, refl, subst, inl, inr, arith}
use Rattle.std.specs.Prelude.{ℤ, pos, ◌+ℤ◌, ◌-ℤ◌, ◌≤ℤ◌, Option, Some, None, option_map}
use Rattle.std.proofs.lemmas.Int.{ints}
use Rattle.std.proofs.lemmas.List.{length-map}
use Rattle.crs_base.specs.Words.{IsIn}
use Rattle.crs_base.specs.Entry.{Entry}
use Rattle.crs_base.specs.declared.symbols.Sym.{Sym}
use Rattle.crs_base.proofs.Words.{in_map, in_from_each}
use Rattle.crs_stn.specs.declared.bound.Bound.{Bound}
use Rattle.crs_stn.specs.Bound.{Meets, MeetsInPart}
use Rattle.crs_stn.specs.Network.{IsMost}
use Rattle.crs_stn.specs.Table.{most_of}
use Rattle.crs_model.specs.declared.plan.Plan.{Plan}
use Rattle.crs_model.specs.Models.{Chronicle, Window}
use Rattle.crs_model.specs.Partial.{Partial, at, dates_of}
use Rattle.crs_model.specs.Verdicts.{IsStretch}
use Rattle.crs_model.specs.ProperModels.{IsProperWindow}
use Rattle.crs_model.specs.Reach.{Bounds, IsReachOf}
use Rattle.crs_model.specs.Plans.{chronicle, IsProper}
use Rattle.crs_model.specs.SeenModels.{event_of}
use Rattle.crs_model.proofs.Options.{and_some}
use Rattle.crs_model.proofs.Parts.{agrees_at}

-- whatever dates meet the bounds, no event lies more than r before another, and no window's start more than r before an event
pub record ReachesBack {S : Type 0} (c : Chronicle S) (r : ℤ) : Type 0 where
  pub events : (t : ℕ → ℤ) → Meets c.bounds t → (p q : ℕ) → p < length c.events → q < length c.events → t q ≤ℤ (t p +ℤ r)
  pub starts : (t : ℕ → ℤ) → Meets c.bounds t → (w : Window S) → IsIn w c.windows → (q : ℕ) → q < length c.events
      → t q ≤ℤ ((t w.from.event +ℤ w.from.offset) +ℤ r)

by_most : (bounds : List Bound) (p q : ℕ) (o : Option ℤ) (r off : ℤ) (t : ℕ → ℤ) → IsMost bounds p q o
    → Bounds (Some r) (option_map (λ m. m -ℤ off) o) → Meets bounds t → t q ≤ℤ ((t p +ℤ off) +ℤ r)
by_most bounds p q None r off t is l m = absurd l
by_most bounds p q (Some b) r off t is l m = let k = is.0 t m in omega (arith, ints)

pub by_pair : (bounds : List Bound) (p q : ℕ) (o : Option ℤ) (r : ℤ) (t : ℕ → ℤ) → IsMost bounds p q o → Bounds (Some r) o → Meets bounds t
    → t q ≤ℤ (t p +ℤ r)
by_pair bounds p q None r t is l m = absurd l
by_pair bounds p q (Some b) r t is l m = let k = is.0 t m in omega (arith, ints)

-- a plan's finite reach tells so
pub reaches_back : (p : Plan) → IsProper p → (r : ℤ) → p.reach ≡ Some r → ReachesBack (chronicle p) r
reaches_back p proper r finite = record {
  events = λ t m a b la lb. by_pair p.chronicle.bounds a b (most_of p.network a b) r t (proper.minimal a b (point a la) (point b lb)) (reach.bounds (most_of p.network a b) (inr (inl (a, b, la, lb, refl)))) m;
  starts = λ t m w i b lb. by_most p.chronicle.bounds w.from.event b (most_of p.network w.from.event b) r w.from.offset t (proper.minimal w.from.event b (point w.from.event (anchored w i)) (point b lb))
      (reach.bounds (option_map (λ m. m -ℤ w.from.offset) (most_of p.network w.from.event b)) (inr (inr (w.from, in_map (λ (v : Window Sym). v.from) (chronicle p).windows w i, (b, lb, refl))))) m;
}
  where
    point : (e : ℕ) → e < length (chronicle p).events → e < p.network.points
    point e l = let a = proper.points in let b = length-map p.chronicle.events event_of in omega arith

    anchored : (w : Window Sym) → IsIn w (chronicle p).windows → w.from.event < length (chronicle p).events
    anchored w i = (in_from_each (IsProperWindow proper.declared.0 (chronicle p)) (chronicle p).windows proper.declared.2.windows w i).from.event

    reach : IsReachOf (chronicle p) (most_of p.network) (Some r)
    reach = subst (λ (o : Option ℤ). IsReachOf (chronicle p) (most_of p.network) o) finite proper.reach

back_start : (x y : ℕ) (s t o r from : ℤ) → s ≡ pos x → t ≡ pos y → from ≡ (pos y +ℤ o) → s ≤ℤ ((t +ℤ o) +ℤ r) → pos x ≤ℤ (from +ℤ r)
back_start x y s t o r from e f q k = omega (arith, ints)

back_entry : (x y : ℕ) (s t r : ℤ) → s ≡ pos x → t ≡ pos y → s ≤ℤ (t +ℤ r) → pos x ≤ℤ (pos y +ℤ r)
back_entry x y s t r e f k = omega (arith, ints)

not_back : (s r : ℤ) → s ≤ℤ (s +ℤ r) → pos 0 ≤ℤ r
not_back s r k = omega (arith, ints)

module _ {S : Type 0} (c : Chronicle S) (r : ℤ) (reach : ReachesBack c r) where
  -- what binds an entry has no window that starts before the entry's date less the reach
  pub starts_in_reach : (b : Partial S) → MeetsInPart c.bounds (dates_of b) → (e : ℕ) (x : Entry S) → e < length c.events
      → at b e ≡ Some x → (w : Window S) (from to : ℤ) → IsIn w c.windows → IsStretch b w from to → pos x.date ≤ℤ (from +ℤ r)
  starts_in_reach b dates e x l i w from to m stretch =
      let t = dates.0 in
      let s = and_some (at b w.from.event) _ stretch.starts in
      (back_start x.date (s.0).date (t e) (t w.from.event) w.from.offset r from (agrees_at b t e x dates.1 i) (agrees_at b t w.from.event s.0 dates.1 s.1) s.2 (reach.starts t dates.2 w m e l))

  -- nor an entry dated before that
  pub entries_in_reach : (b : Partial S) → MeetsInPart c.bounds (dates_of b) → (e f : ℕ) (x y : Entry S) → e < length c.events
      → f < length c.events
      → at b e ≡ Some x → at b f ≡ Some y → pos x.date ≤ℤ (pos y.date +ℤ r)
  entries_in_reach b dates e f x y l m i j =
      let t = dates.0 in
      back_entry x.date y.date (t e) (t f) r (agrees_at b t e x dates.1 i) (agrees_at b t f y dates.1 j) (reach.events t dates.2 f e m l)

  pub not_negative : (b : Partial S) → MeetsInPart c.bounds (dates_of b) → 0 < length c.events → pos 0 ≤ℤ r
  not_negative b dates l = not_back (dates.0 0) r (reach.events dates.0 dates.2 0 0 l l)
