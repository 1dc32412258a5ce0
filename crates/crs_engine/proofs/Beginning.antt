-- The stores of the plans at the start.
use Rattle.std.proofs.Common.{◌≡◌, ℕ, zero, suc, ◌<◌, ◌≤◌, ◌+◌, List, [], ◌∷◌, ◌++◌, length, map, take, refl, sym, ap, subst, ◌∙◌, inl, arith, get_or, Global}
use Rattle.std.specs.List.{AllByRecursion}
use Rattle.std.specs.declared.rc.Rc.{Rc}
use Rattle.std.proofs.lemmas.List.{map-append, take_more}
use Rattle.crs_model.specs.declared.plan.Plan.{Plan}
use Rattle.crs_history.specs.Histories.{HistoryState, lowest, IsFarBack}
use Rattle.crs_store.specs.Stores.{StoreState, Stands}
use Rattle.std.specs.Prelude.{◌^◌, Bool, false, ℤ, ◌≤ℤ◌, Option, Some, None}
use Rattle.std.proofs.lemmas.Int.{ints}
use Rattle.crs_base.specs.Entry.{IsInKeyOrder}
use Rattle.crs_base.proofs.Alls.{all_each}
use Rattle.crs_model.specs.Plans.{IsProper, chronicle}
use Rattle.crs_model.specs.Reach.{IsReachOfAll, IsSmallSpan}
use Rattle.crs_engine.proofs.Floors.{small_span}
use Rattle.crs_base.specs.declared.symbols.Sym.{Sym}
use Rattle.crs_base.specs.Entry.{Entry}
use Rattle.crs_base.proofs.Alls.{all_put}
use Rattle.crs_model.specs.declared.plan.Plans.{Plans}
use Rattle.crs_engine.specs.Engines.{StandsFor, AreStoresOf, IsEngine, IsWaiting, plans_of, reaches_of, floor_at}
use Rattle.crs_engine.specs.Moves.{HasRanks}
use Rattle.crs_engine.proofs.Marking.{AllStand, stores_at}
use Rattle.crs_engine.proofs.Pools.{among_same}
use Rattle.crs_model.specs.Levels.{reads_levels}

abbrev pub planned : List (Rc Plan Global) → List Plan
planned rs = map (λ r. r.value) rs

-- the stores of the first k plans
pub record AreStartedBelow (focus : Bool) (ranks : List ℕ) (k : ℕ) (plans : List (Rc Plan Global)) (stores : List StoreState) : Type 0 where
  pub of : AreStoresOf focus (planned (take k plans)) 0 stores
  pub stand : AllByRecursion (λ s. Stands s [] [] [] 0 0) stores
  pub ranked : AllByRecursion (HasRanks ranks) stores

stores_more : (focus : Bool) (ps : List Plan) (n : ℕ) (ss : List StoreState) (p : Plan) (s : StoreState) → AreStoresOf focus ps n ss
    → s.plan ≡ p → s.number ≡ n + length ps → s.focus ≡ reads_levels (chronicle p) focus → AreStoresOf focus (ps ++ p ∷ []) n (ss ++ s ∷ [])
stores_more focus [] n [] p s h a b f = (record { plan = a; number = omega (arith, b); focus_is = f }, tt)
stores_more focus [] n (t ∷ ss) p s h a b f = absurd h
stores_more focus (q ∷ ps) n [] p s h a b f = absurd h
stores_more focus (q ∷ ps) n (t ∷ ss) p s h a b f = (h.0, stores_more focus ps (suc n) ss p s h.1 a (omega (arith, b)) f)

length_take : (k : ℕ) (plans : List (Rc Plan Global)) → k ≤ length plans → length (planned (take k plans)) ≡ k
length_take zero plans l = refl
length_take (suc k) [] l = absurd (omega arith)
length_take (suc k) (r ∷ plans) l = ap suc (length_take k plans (omega arith))

pub started_more : (focus : Bool) (ranks : List ℕ) (k : ℕ) (plans : List (Rc Plan Global)) (out new : List StoreState) (r : Rc Plan Global) (s : StoreState)
    → k < length plans → r ≡ get_or plans k r → new ≡ out ++ s ∷ [] → AreStartedBelow focus ranks k plans out → s.ranks ≡ ranks → s.plan ≡ r.value → s.number ≡ k
    → (q : Plan) → s.plan ≡ q → s.focus ≡ reads_levels (chronicle q) focus → Stands s [] [] [] 0 0 → AreStartedBelow focus ranks (k + 1) plans new
started_more focus ranks k plans out new r s l at_k q h w a b made made_of f stands =
    let cut : planned (take (k + 1) plans) ≡ planned (take k plans) ++ r.value ∷ [] =
    ap planned (take_more plans k r l ∙ ap (λ (t : Rc Plan Global). take k plans ++ t ∷ []) (sym at_k)) ∙ map-append (λ (t : Rc Plan Global). t.value) (take k plans) (r ∷ []) in
    let long = length_take k plans (omega arith) in
    rw q (record {
      of = subst (λ (t : List Plan). AreStoresOf focus t 0 (out ++ s ∷ [])) (sym cut) (stores_more focus (planned (take k plans)) 0 out r.value s h.of a (omega (arith, b)) (subst (λ (t : Plan). s.focus ≡ reads_levels (chronicle t) focus) (sym made_of ∙ a) f));
      stand = all_put (λ t. Stands t [] [] [] 0 0) out s h.stand stands;
      ranked = all_put (HasRanks ranks) out s h.ranked w;
    })

all_far : {floor : ℤ} → floor ≡ lowest → (ps : List Plan) → AllByRecursion (λ p. IsFarBack p.reach 0 floor) ps
all_far e [] = tt
all_far e (p ∷ ps) = (inl e, all_far e ps)

all_at_start : (focus : Bool) (ps : List Plan) (n : ℕ) (ss : List StoreState) → AreStoresOf focus ps n ss → AllByRecursion (λ s. Stands s [] [] [] 0 0) ss → AllStand ps ss [] [] 0
all_at_start focus [] n [] of k = tt
all_at_start focus [] n (s ∷ ss) of k = absurd of
all_at_start focus (p ∷ ps) n [] of k = absurd of
all_at_start focus (p ∷ ps) n (s ∷ ss) of k = (subst (λ (t : List (Entry Sym)). Stands s t t [] 0 0) (sym (among_same (chronicle p) [] [] refl)) k.0, all_at_start focus ps (suc n) ss of.1 k.1)

pub new_stands : (plans : Plans) (stores : List StoreState) (focus : Bool) (limit : ℕ) → AreStoresOf focus (plans_of plans) 0 stores
    → AllByRecursion (λ s. Stands s [] [] [] 0 0) stores → (past : HistoryState) → past ≡ record { entries = []; floor = lowest }
    → (ws : List (Entry Sym)) → ws ≡ [] → (fs : List (Entry Sym)) → fs ≡ [] →
    StandsFor (record { plans = plans; stores = stores; history = past; waiting = ws; fresh = fs; delay = 0; last = 0; horizon = 0; accepted = 0; marked = 0; limit = limit; focus = focus; stopped = false }) [] []
new_stands plans stores focus limit of stand past none ws e fs f = record {
  settled_before = tt;
  waiting_after = tt;
  in_order = tt;
  numbered = record { distinct = tt; numbers = λ k. (λ l. absurd (omega arith), λ i. absurd i) };
  held = e;
  counted = omega arith;
  arrived_settled = tt;
  fresh_is = λ k. f;
  history = ap (λ (h : HistoryState). h.entries) none;
  far_back = all_far (ap (λ (h : HistoryState). h.floor) none) (plans_of plans);
  stores = stores_at focus 0 [] [] 0 (plans_of plans) 0 stores of (all_at_start focus (plans_of plans) 0 stores of stand);
}

pub plans_proper : (rs : List (Rc Plan Global)) → AllByRecursion (λ r. IsProper r.value) rs → AllByRecursion (λ p. IsProper p) (planned rs)
plans_proper [] h = tt
plans_proper (r ∷ rs) h = (h.0, plans_proper rs h.1)

from_lowest : (all : Option ℤ) → IsSmallSpan all → lowest ≤ℤ floor_at all 0
from_lowest None k = omega (arith, ints)
from_lowest (Some d) k = omega (arith, ints)

pub new_engine : (plans : Plans) (stores : List StoreState) (focus : Bool) (limit : ℕ) → AreStoresOf focus (plans_of plans) 0 stores
    → AllByRecursion (λ p. IsProper p) (plans_of plans) → IsReachOfAll (reaches_of plans) plans.reach → limit < 2 ^ 32 →
    (past : HistoryState) → past ≡ record { entries = []; floor = lowest } → (ws : List (Entry Sym)) → ws ≡ [] → (fs : List (Entry Sym)) → fs ≡ [] →
    IsEngine (record { plans = plans; stores = stores; history = past; waiting = ws; fresh = fs; delay = 0; last = 0; horizon = 0; accepted = 0; marked = 0; limit = limit; focus = focus; stopped = false })
new_engine plans stores focus limit of proper reach limited past none ws e fs f =
    let small = small_span plans.reach (plans_of plans) reach (all_each {P = IsProper} (plans_of plans) (λ p k. k.small) proper) in
    let floor : past.floor ≡ lowest = ap (λ (h : HistoryState). h.floor) none in
    record {
      stores = of;
      waiting = subst (AllByRecursion (IsWaiting 0)) (sym e) tt;
      few = omega arith;
      limited = limited;
      not_late = omega arith;
      in_order = subst (λ (t : List (Entry Sym)). IsInKeyOrder (t ++ ws)) (sym (ap (λ (h : HistoryState). h.entries) none)) (subst IsInKeyOrder (sym e) tt);
      reach = reach;
      small = small;
      due = subst (AllByRecursion (λ x. 0 ≤ x.date)) (sym e) tt;
      least = subst (λ (z : ℤ). lowest ≤ℤ z) (sym floor) (omega (arith, ints));
      needed = subst (λ (z : ℤ). z ≤ℤ floor_at plans.reach 0) (sym floor) (from_lowest plans.reach small);
      settled = λ running. subst (AllByRecursion (λ x. x.date < 0)) (sym (ap (λ (h : HistoryState). h.entries) none)) tt;
      fresh = λ running. subst (AllByRecursion (IsWaiting 0)) (sym f) tt;
    }
