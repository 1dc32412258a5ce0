-- New layers stand for the start of each run.
use Rattle.std.proofs.Common.{◌≡◌, ℕ, zero, suc, ◌+◌, ◌<◌, ◌≤◌, ◌^◌, Bool, false, List, [], ◌∷◌, length, map, replicate, refl, sym, ap, subst, ◌∙◌, inl, inr, arith, Option, Some, None, true≢false}
use Rattle.std.specs.Prelude.{ℤ, pos, negsuc}
use Rattle.std.specs.List.{AllByRecursion, AllZip}
use Rattle.std.proofs.lemmas.Int.{ints}
use Rattle.std.proofs.lemmas.List.{length-map}
use Rattle.crs_base.specs.declared.symbols.Sym.{Sym}
use Rattle.crs_base.specs.Words.{IsIn}
use Rattle.crs_stn.specs.Network.{IsMinimal}
use Rattle.crs_stn.specs.Table.{most_of}
use Rattle.crs_model.specs.declared.plan.Plan.{Plan}
use Rattle.crs_model.specs.declared.plan.Plans.{Plans}
use Rattle.crs_model.specs.Hierarchy.{AreInOrder, AreStrata}
use Rattle.crs_model.specs.Plans.{IsProper, chronicle}
use Rattle.crs_model.specs.Reach.{Bounds}
use Rattle.crs_model.specs.Renaming.{IsEntryOf}
use Rattle.crs_model.specs.SeenModels.{event_of}
use Rattle.crs_model.specs.ShortLags.{HaveShortLags}
use Rattle.crs_engine.specs.Engines.{plans_of}
use Rattle.crs_log.specs.Run as run
use Rattle.crs_layers.specs.Strata.{Stratum, empty, IsPlaced, behind, horizon_behind, strata_count}
use Rattle.crs_layers.specs.Runs.{horizon_of}
use Rattle.crs_layers.specs.declared.layer.Layer.{Layer}
use Rattle.crs_layers.specs.LayerPlans.{placed_of, AreLayersOf, IsNewLayer, AreNewLayers}
use Rattle.crs_layers.specs.LayerStates.{LayersState}
use Rattle.crs_layers.specs.Standing.{IsLayerAt, AreLayersAt, AreLayers, HasText, placed_in, stratum_in, StandAtStart}
use Rattle.crs_layers.proofs.OneStrata.{one_strata}
use Rattle.crs_layers.proofs.Beginning.{not_none}
use Rattle.crs_layers.proofs.Logging.{unsaid}

-- each stratum is below the count
all_counted : (ks : List ℕ) (n : ℕ) → strata_count ks ≤ n → AllByRecursion (λ k. k < n) ks
all_counted [] n l = tt
all_counted (k ∷ ks) n l = (omega (arith, l), all_counted ks n (omega (arith, l)))

new_of : (ps : List Plan) (ks : List ℕ) (focus : Bool) (limit j : ℕ) (ls : List Layer) → j + length ls ≡ strata_count ks → AreNewLayers ps ks focus limit j ls → AreLayersOf ps ks focus limit j ls
new_of ps ks focus limit j [] e k = all_counted ks j (omega (arith, e))
new_of ps ks focus limit j (l ∷ ls) e k = (k.0.of, new_of ps ks focus limit (suc j) ls (omega (arith, e)) k.1)

new_near : (ps : List Plan) (ks : List ℕ) (focus : Bool) (limit j : ℕ) (ls : List Layer) → AreNewLayers ps ks focus limit j ls → AllByRecursion (λ l. l.behind ≤ 2 ^ 40) ls
new_near ps ks focus limit j [] k = tt
new_near ps ks focus limit j (l ∷ ls) k = (k.0.of.near, new_near ps ks focus limit (suc j) ls k.1)

one_new : (ps : List Plan) (ks : List ℕ) (focus : Bool) (limit j h : ℕ) (l : Layer) → h ≡ 0 → IsNewLayer ps ks focus limit j l → IsLayerAt h 0 0 empty l
one_new ps ks focus limit j h l z k = record {
  running = k.engine.running;
  horizon = k.engine.horizon ∙ sym z;
  clock = k.engine.last;
  delayed = k.delay ∙ omega arith;
  sound = record { numbered = tt; due = λ x i n. absurd i };
  dated = tt;
  few = let a = k.engine.accepted in omega (arith, a);
  count = k.engine.accepted;
  marked = k.engine.marked;
  stands = k.engine.stands;
}

new_at : (ps : List Plan) (ks : List ℕ) (focus : Bool) (limit : ℕ) (h : ℕ → ℕ) → ((j : ℕ) → h j ≡ 0) → (j n : ℕ) (ls : List Layer) → length ls ≡ n → AreNewLayers ps ks focus limit j ls → AreLayersAt h 0 0 j (replicate n empty) ls
new_at ps ks focus limit h z j zero [] e k = tt
new_at ps ks focus limit h z j zero (l ∷ ls) e k = absurd (omega (arith, e))
new_at ps ks focus limit h z j (suc n) [] e k = absurd (omega (arith, e))
new_at ps ks focus limit h z j (suc n) (l ∷ ls) e k = (one_new ps ks focus limit j (h j) l (z j) k.0, new_at ps ks focus limit h z (suc j) n ls (omega (arith, e)) k.1)

at_none : (b : ℕ) → horizon_behind false 0 b ≡ 0
at_none b = omega arith

known_none : (texts : List (List ℕ)) (n : ℕ) → AllByRecursion (λ t. AllByRecursion (IsEntryOf (HasText texts)) t.accepted) (replicate {A = Stratum Sym} n empty)
known_none texts zero = tt
known_none texts (suc n) = (tt, known_none texts n)

seen_none : (texts : List (List ℕ)) (n : ℕ) → map (stratum_in texts) (replicate n empty) ≡ replicate n empty
seen_none texts zero = refl
seen_none texts (suc n) = ap (λ (us : List (Stratum (List ℕ))). empty ∷ us) (seen_none texts n)

pub some_strata : (ks : List ℕ) → 0 < strata_count ks
some_strata [] = omega arith
some_strata (k ∷ ks) = omega arith

-- the strata of placed chronicles
pub strata_placed : (texts : List (List ℕ)) (ps : List Plan) (ks : List ℕ) → length ps ≡ length ks → map (λ p. p.stratum) (map (placed_in texts) (placed_of ps ks)) ≡ ks
strata_placed texts [] [] e = refl
strata_placed texts [] (k ∷ ks) e = absurd (omega (arith, e))
strata_placed texts (p ∷ ps) [] e = absurd (omega (arith, e))
strata_placed texts (p ∷ ps) (k ∷ ks) e = ap (λ (ms : List ℕ). k ∷ ms) (strata_placed texts ps ks (omega (arith, e)))

zipped : {A B : Type 0} (R : A → B → Type 0) (xs : List A) (ys : List B) → AllZip R xs ys → length xs ≡ length ys
zipped R [] [] h = refl
zipped R [] (y ∷ ys) h = absurd h
zipped R (x ∷ xs) [] h = absurd h
zipped R (x ∷ xs) (y ∷ ys) h = ap suc (zipped R xs ys h.1)

finite_lag : (lag : Option ℤ) → Bounds lag (Some (pos 0)) → (lag ≡ None → ⊥) → (n : ℕ) × (lag ≡ Some (pos n))
finite_lag None b h = absurd (h refl)
finite_lag (Some (pos n)) b h = (n, refl)
finite_lag (Some (negsuc n)) b h = absurd (omega (arith, ints, b))

one_placed : (p : Plan) (k : ℕ) → IsProper p → (p.lag ≡ None → ⊥) → IsPlaced (record { chronicle = chronicle p; stratum = k; lag = p.lag })
one_placed p k h f =
    let points : p.network.points ≡ length (chronicle p).events + length (chronicle p).free = h.points ∙ ap (λ (n : ℕ). n + length p.chronicle.free) (sym (length-map p.chronicle.events event_of)) in
    let finite = finite_lag p.lag (h.lag.bounds (Some (pos 0)) (inl refl)) f in
    record {
      most = most_of p.network;
      minimal = subst (λ (n : ℕ). IsMinimal p.chronicle.bounds n (most_of p.network)) points h.minimal;
      lag = h.lag;
      ticks = finite.0;
      finite = finite.1;
    }

pub all_placed : (ps : List Plan) (ks : List ℕ) → AllByRecursion IsProper ps → (IsIn None (map (λ p. p.lag) ps) → ⊥) → AllByRecursion IsPlaced (placed_of ps ks)
all_placed [] ks h f = tt
all_placed (p ∷ ps) [] h f = tt
all_placed (p ∷ ps) (k ∷ ks) h f = (one_placed p k h.0 (λ e. f (inl (sym e))), all_placed ps ks h.1 (λ i. f (inr i)))

module _ (plans : Plans) (ks : List ℕ) (focus : Bool) (limit : ℕ) (ls : List Layer) (count : length ls ≡ strata_count ks) (new : AreNewLayers (plans_of plans) ks focus limit 0 ls)
    (order : AreInOrder (map chronicle (plans_of plans))) (are : AreStrata (map chronicle (plans_of plans)) ks) where
  abbrev x : LayersState
  x = record { plans = plans; layers = ls; focus = focus; limit = limit; last = 0; ended = false; stopped = false }

  pub stands_new : StandAtStart x
  stands_new c texts numbers r same_limit =
      let same : numbers ≡ ks = one_strata (map chronicle (plans_of plans)) numbers ks order r.strata are in
      let long : length (plans_of plans) ≡ length numbers = sym (length-map (plans_of plans) chronicle) ∙ zipped _ (map chronicle (plans_of plans)) numbers r.strata in
      let strata : map (λ p. p.stratum) c.placed ≡ ks = ap (map (λ p. p.stratum)) r.placed ∙ strata_placed texts (plans_of plans) numbers long ∙ same in
      let n : ℕ = strata_count (map (λ p. p.stratum) c.placed) in
      record {
        numbers = numbers;
        run = r;
        of = subst (λ (ms : List ℕ). AreLayersOf (plans_of plans) ms focus limit 0 ls) (sym same) (new_of (plans_of plans) ks focus limit 0 ls (omega (arith, count)) new);
        limit = same_limit;
        last = refl;
        ended = refl;
        strata = replicate n empty;
        known = known_none texts n;
        seen = seen_none texts n;
        at = new_at (plans_of plans) ks focus limit (horizon_of c (run.at_start texts)) (λ j. at_none (behind c.placed j)) 0 n ls (count ∙ ap strata_count (sym strata)) new;
        running = refl;
      }

  pub layers_new : AllByRecursion IsProper (plans_of plans) → HaveShortLags (plans_of plans) → AreLayers x
  layers_new proper short = record {
    some = let s = some_strata ks in omega (arith, count, s);
    near = new_near (plans_of plans) ks focus limit 0 ls new;
    proper = proper;
    lags = not_none (plans_of plans) ks order are short;
    standing = λ _. record {
      numbers = ks;
      of = new_of (plans_of plans) ks focus limit 0 ls (omega (arith, count)) new;
      horizon = 0;
      delay = 0;
      strata = replicate (length ls) empty;
      at = new_at (plans_of plans) ks focus limit (λ j. horizon_behind false 0 (behind (placed_of (plans_of plans) ks) j)) (λ j. at_none (behind (placed_of (plans_of plans) ks) j)) 0 (length ls) ls refl new;
      each = unsaid (replicate (length ls) empty);
      within = omega arith;
      closed = λ e. absurd (true≢false (sym e));
    };
  }
