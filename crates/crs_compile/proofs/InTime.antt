-- Lags of plans, as those of their chronicles.
use Rattle.std.proofs.Common.{◌≡◌, inl, inr, refl, sym, subst, ◌∙◌, ap, ℕ, suc, ◌≤◌, ◌+◌, List, [], ◌∷◌, map, zip, length}
use Rattle.std.specs.Prelude.{take, option_map}
use Rattle.std.specs.declared.rc.Rc.{Rc}
use Rattle.std.specs.Global.{Global}
use Rattle.std.specs.List.{AllByRecursion}
use Rattle.std.proofs.lemmas.List.{length-map, take-map}
use Rattle.std.proofs.lemmas.Option.{slice_get-map}
use Rattle.crs_base.specs.declared.symbols.Sym.{Sym}
use Rattle.crs_stn.specs.Bound.{IsConsistent}
use Rattle.crs_stn.specs.Network.{IsMinimal}
use Rattle.crs_stn.specs.Table.{most_of}
use Rattle.crs_model.specs.declared.chronicle.Chronicle.{Chronicle}
use Rattle.crs_model.specs.declared.models.ModelRefused.{ModelRefused}
use Rattle.crs_model.specs.declared.models.ModelRefused.TheVariants.{At, Memory}
use Rattle.crs_model.specs.declared.plan.Plan.{Plan}
use Rattle.crs_model.specs.Plans.{IsProper, chronicle}
use Rattle.crs_model.specs.SeenModels.{event_of, chronicle_of}
use Rattle.crs_model.specs.ShortLags.{AreSlow, AreLags, AreInTime, ClosesSlow, first_lags, HaveShortLags}
use Rattle.crs_compile.specs.Compiled.{plans_in, chronicles_in, IsRefusal, IsLagRefusal, IsModelsRefusal}

pub lags_are : (ps : List Plan) → AllByRecursion IsProper ps → AreLags (map chronicle ps) (map (λ p. p.lag) ps)
lags_are [] h = tt
lags_are (p ∷ ps) h =
    let points : p.network.points ≡ length (map event_of p.chronicle.events) + length p.chronicle.free = h.0.points ∙ ap (λ n. n + length p.chronicle.free) (sym (length-map p.chronicle.events event_of)) in
    ((most_of p.network, subst (λ n. IsMinimal p.chronicle.bounds n (most_of p.network)) points h.0.minimal, h.0.lag), lags_are ps h.1)

first_are : (n : ℕ) (ps : List Plan) (strata : List ℕ) → zip (take n strata) (take n (map (λ p. p.lag) ps)) ≡ first_lags n ps strata
first_are n ps strata = ap (zip (take n strata)) (take-map (λ (p : Plan). p.lag) n ps)

in_time_of : (ps : List Plan) → AllByRecursion IsProper ps → HaveShortLags ps → AreInTime Sym (map chronicle ps)
in_time_of ps proper h = record {
  strata = h.0;
  lags = map (λ p. p.lag) ps;
  are_strata = h.1;
  are_lags = lags_are ps proper;
  fast = λ n l s. h.2 n (subst (λ k. n ≤ k) (length-map ps chronicle) l) (subst AreSlow (first_are n ps h.0) s);
}

closes_slow : (ps : List Plan) → AllByRecursion IsProper ps → (line : ℕ) (word : _) → IsLagRefusal ps (At line word) → ClosesSlow Sym (map chronicle ps) line
closes_slow ps proper line word (is, (strata, are, (n, p, there, line_is, slow, fast))) = record {
  strata = strata;
  lags = map (λ p. p.lag) ps;
  are_strata = are;
  are_lags = lags_are ps proper;
  place = n;
  closed = chronicle p;
  there = slice_get-map chronicle ps n ∙ ap (option_map chronicle) there;
  line_is = line_is;
  slow = subst AreSlow (sym (first_are (suc n) ps strata)) slow;
  fast = λ k l s. fast k l (subst AreSlow (first_are k ps strata) s);
}

-- the plans' chronicles
seen_of : (plans : List (Rc Plan Global)) → map chronicle (plans_in plans) ≡ map chronicle_of (chronicles_in plans)
seen_of [] = refl
seen_of (p ∷ plans) = ap (λ l. chronicle p.value ∷ l) (seen_of plans)

pub in_time : (plans : List (Rc Plan Global)) (cs : List Chronicle) → chronicles_in plans ≡ cs → AllByRecursion IsProper (plans_in plans) → HaveShortLags (plans_in plans) → AreInTime Sym (map chronicle_of cs)
in_time plans cs e proper h = subst (AreInTime Sym) (seen_of plans ∙ ap (map chronicle_of) e) (in_time_of (plans_in plans) proper h)

consistent : (ps : List Plan) → AllByRecursion IsProper ps → AllByRecursion (λ c. IsConsistent c.bounds) (map (λ p. p.chronicle) ps)
consistent [] h = tt
consistent (p ∷ ps) h = (h.0.consistent, consistent ps h.1)

-- the refusals
pub lag_refused : (plans : List (Rc Plan Global)) (cs : List Chronicle) → chronicles_in plans ≡ cs → AllByRecursion IsProper (plans_in plans) → (why : ModelRefused) → IsLagRefusal (plans_in plans) why → IsModelsRefusal cs why
lag_refused plans cs e proper Memory h = tt
lag_refused plans cs e proper (At line word) h = inr (
  h.0,
  subst (AllByRecursion (λ c. IsConsistent c.bounds)) e (consistent (plans_in plans) proper),
  subst (λ l. ClosesSlow Sym l line) (seen_of plans ∙ ap (map chronicle_of) e) (closes_slow (plans_in plans) proper line word h),
)

pub bounds_refused : (cs : List Chronicle) (why : ModelRefused) → IsRefusal cs why → IsModelsRefusal cs why
bounds_refused cs Memory h = tt
bounds_refused cs (At line word) h = inl h
