-- What layers stand for once they took in a logged entry, or have another delay.
use Rattle.std.proofs.Common.{◌≡◌, ℕ, suc, ◌+◌, ◌<◌, ◌≤◌, ◌==◌, ◌||◌, ◌^◌, Bool, true, false, nat_lt, List, [], ◌∷◌, ◌++◌, length, map, refl, sym, ap, subst, ◌∙◌, inl, inr, arith, true≢false, length-append, eq-eqb}
use Rattle.std.specs.Prelude.{Some, None}
use Rattle.std.specs.List.{AllByRecursion, AllZip, list_any}
use Rattle.std.proofs.lemmas.Bool.{cases_lt, ltb-false}
use Rattle.std.proofs.lemmas.List.{with_items_is}
use Rattle.std.specs.Vec.{with_items}
use Rattle.std.specs.declared.vec.Vec.{Vec}
use Rattle.std.proofs.Common.{Global, Result, Ok}
use Rattle.std.specs.Prelude.{if◌then◌else◌}
use Rattle.crs_engine.specs.EngineRefusals.{answer_by}
use Rattle.crs_engine.specs.declared.refused.Refused.{Refused}
use Rattle.crs_engine.specs.declared.refused.Refused.TheVariants.{Stopped, Late}
use Rattle.crs_layers.specs.Halts.{test_refusal}
use Rattle.crs_base.specs.declared.symbols.Sym.{Sym}
use Rattle.crs_base.specs.Entry.{Entry}
use Rattle.crs_base.proofs.Alls.{all_left, all_right, all_put}
use Rattle.crs_base.proofs.Words.{in_append}
use Rattle.crs_model.specs.declared.plan.Plan.{Plan}
use Rattle.crs_model.specs.Order.{put_in_order, in_key_order, dated_before}
use Rattle.crs_engine.specs.Engines.{EngineState, StandsFor, plans_of, since}
use Rattle.crs_layers.specs.Strata.{Stratum, behind, horizon_behind, with_logged}
use Rattle.crs_layers.specs.declared.layer.Layer.{Layer}
use Rattle.crs_layers.specs.LayerPlans.{placed_of, AreLayersOf}
use Rattle.crs_layers.specs.Accepting.{IsSameLayer, IsDelayed, IsReady, HasLogged}
use Rattle.crs_layers.specs.LayerStates.{LayersState, first_of, horizon_in, is_full_in}
use Rattle.crs_layers.specs.Standing.{IsLayerAt, AreLayersAt, AreStanding, AreLayers}
use Rattle.crs_layers.proofs.Parting.{before_last, since_last}
use Rattle.crs_layers.proofs.Splitting.{numbered_append}

-- ---- the same strata

pub same_all : (ls : List Layer) → AllZip IsSameLayer ls ls
same_all [] = tt
same_all (l ∷ ls) = (record { numbers = refl; behind = refl }, same_all ls)

pub same_then : (ls ms ns : List Layer) → AllZip IsSameLayer ls ms → AllZip IsSameLayer ms ns → AllZip IsSameLayer ls ns
same_then [] [] [] p q = tt
same_then [] [] (n ∷ ns) p q = absurd q
same_then [] (m ∷ ms) ns p q = absurd p
same_then (l ∷ ls) [] ns p q = absurd p
same_then (l ∷ ls) (m ∷ ms) [] p q = absurd q
same_then (l ∷ ls) (m ∷ ms) (n ∷ ns) p q = (record { numbers = q.0.numbers ∙ p.0.numbers; behind = q.0.behind ∙ p.0.behind }, same_then ls ms ns p.1 q.1)

pub same_first : (ls : List Layer) (l m : Layer) (rest : List Layer) → ls ≡ l ∷ rest → IsSameLayer l m → AllZip IsSameLayer ls (m ∷ rest)
same_first ls l m rest e h = subst (λ (ks : List Layer). AllZip IsSameLayer ks (m ∷ rest)) (sym e) (h, same_all rest)

-- ---- the last one and the others

pub ready_parts : (date : ℕ) (ls os : List Layer) (l : Layer) → ls ≡ os ++ l ∷ [] → AllByRecursion (IsReady date) ls → AllByRecursion (IsReady date) os × IsReady date l
ready_parts date ls os l e h =
    let k = subst (AllByRecursion (IsReady date)) e h in
    (all_left (IsReady date) os (l ∷ []) k, (all_right (IsReady date) os (l ∷ []) k).0)

pub zip_last : (R : Layer → Layer → Type 0) (ls os ns : List Layer) (l m : Layer) → ls ≡ os ++ l ∷ [] → AllZip R os ns → R l m → AllZip R ls (ns ++ m ∷ [])
zip_last R ls os ns l m e z r = subst (λ (ks : List Layer). AllZip R ks (ns ++ m ∷ [])) (sym e) (by os ns z)
  where
    by : (os ns : List Layer) → AllZip R os ns → AllZip R (os ++ l ∷ []) (ns ++ m ∷ [])
    by [] [] z = (r, tt)
    by [] (n ∷ ns) z = absurd z
    by (o ∷ os) [] z = absurd z
    by (o ∷ os) (n ∷ ns) z = (z.0, by os ns z.1)

pub same_near : (ls ms : List Layer) → AllZip IsSameLayer ls ms → AllByRecursion (λ l. l.behind ≤ 2 ^ 40) ls → AllByRecursion (λ l. l.behind ≤ 2 ^ 40) ms
same_near [] [] z h = tt
same_near [] (m ∷ ms) z h = absurd z
same_near (l ∷ ls) [] z h = absurd z
same_near (l ∷ ls) (m ∷ ms) z h = let e = z.0.behind in let k = h.0 in (omega (arith, e, k), same_near ls ms z.1 h.1)

pub same_some : (ls ms : List Layer) → AllZip IsSameLayer ls ms → 0 < length ls → 0 < length ms
same_some [] ms z h = absurd (omega (arith, h))
same_some (l ∷ ls) [] z h = absurd z
same_some (l ∷ ls) (m ∷ ms) z h = omega arith

pub delayed_same : (d : ℕ) (ls ms : List Layer) → AllZip (IsDelayed d) ls ms → AllZip IsSameLayer ls ms
delayed_same d [] [] z = tt
delayed_same d [] (m ∷ ms) z = absurd z
delayed_same d (l ∷ ls) [] z = absurd z
delayed_same d (l ∷ ls) (m ∷ ms) z = (z.0.same, delayed_same d ls ms z.1)

-- ---- another delay

delayed_at : (h last delay d : ℕ) (s : Stratum Sym) (l m : Layer) → IsLayerAt h last delay s l → IsDelayed d l m → IsLayerAt h last d s m
delayed_at h last delay d s l m k z =
    let e : m.engine ≡ record l.engine { delay = d + l.behind } = z.value in
    record {
      running = ap (λ (x : EngineState). x.stopped) e ∙ k.running;
      horizon = ap (λ (x : EngineState). x.horizon) e ∙ k.horizon;
      clock = ap (λ (x : EngineState). x.last) e ∙ k.clock;
      delayed = ap (λ (x : EngineState). x.delay) e ∙ ap (λ (n : ℕ). d + n) (sym z.same.behind);
      sound = k.sound;
      dated = k.dated;
      few = let a = ap (λ (x : EngineState). x.accepted) e in let b = ap (λ (x : EngineState). x.limit) e in let f = k.few in omega (arith, a, b, f);
      count = ap (λ (x : EngineState). x.accepted) e ∙ k.count;
      marked = ap (λ (x : EngineState). x.marked) e ∙ k.marked;
      stands = z.stands (dated_before h s.accepted) (in_key_order (since h s.accepted)) k.stands;
    }

pub delayed_all : (h : ℕ → ℕ) (last delay d j : ℕ) (ss : List (Stratum Sym)) (ls ms : List Layer) → AreLayersAt h last delay j ss ls → AllZip (IsDelayed d) ls ms → AreLayersAt h last d j ss ms
delayed_all h last delay d j [] [] [] k z = tt
delayed_all h last delay d j [] [] (m ∷ ms) k z = absurd z
delayed_all h last delay d j [] (l ∷ ls) ms k z = absurd k
delayed_all h last delay d j (s ∷ ss) [] ms k z = absurd k
delayed_all h last delay d j (s ∷ ss) (l ∷ ls) [] k z = absurd z
delayed_all h last delay d j (s ∷ ss) (l ∷ ls) (m ∷ ms) k z = (delayed_at (h j) last delay d s l m k.0 z.0, delayed_all h last delay d (suc j) ss ls ms k.1 z.1)

pub delayed_of : (ps : List Plan) (ks : List ℕ) (focus : Bool) (limit d j : ℕ) (ls ms : List Layer) → AreLayersOf ps ks focus limit j ls → AllZip (IsDelayed d) ls ms → AreLayersOf ps ks focus limit j ms
delayed_of ps ks focus limit d j [] [] k z = k
delayed_of ps ks focus limit d j [] (m ∷ ms) k z = absurd z
delayed_of ps ks focus limit d j (l ∷ ls) [] k z = absurd z
delayed_of ps ks focus limit d j (l ∷ ls) (m ∷ ms) k z =
    let e : m.engine ≡ record l.engine { delay = d + l.behind } = z.0.value in
    let near = k.0.near in
    let same = z.0.same.behind in (
      record {
        own_plans = ap (λ (x : EngineState). plans_of x.plans) e ∙ k.0.own_plans;
        numbers = z.0.same.numbers ∙ k.0.numbers;
        own_behind = same ∙ k.0.own_behind;
        near = omega (arith, near, same);
        own_focus = ap (λ (x : EngineState). x.focus) e ∙ k.0.own_focus;
        own_limit = ap (λ (x : EngineState). x.limit) e ∙ k.0.own_limit;
      },
      delayed_of ps ks focus limit d (suc j) ls ms k.1 z.1,
    )

-- ---- a logged entry

pub logged_at : (h last delay : ℕ) (s : Stratum Sym) (l m : Layer) (x : Entry Sym) → IsLayerAt h last delay s l → l.engine.accepted < l.engine.limit → IsSameLayer l m → HasLogged x l m → h ≤ x.date → x.date < 2 ^ 40 → IsLayerAt h last delay (with_logged x s) m
logged_at h last delay s l m x k room same g due date =
    let y : Entry Sym = record x { arrival = length s.accepted } in
    let long : length (s.accepted ++ y ∷ []) ≡ length s.accepted + 1 = length-append s.accepted (y ∷ []) in
    record {
      running = g.running;
      horizon = g.accepted.same_horizon ∙ k.horizon;
      clock = g.accepted.same_clock ∙ k.clock;
      delayed = g.accepted.same_delay ∙ k.delayed ∙ ap (λ (n : ℕ). delay + n) (sym same.behind);
      sound = record {
        numbered = numbered_append 0 s.accepted (y ∷ []) k.sound.numbered (omega arith, tt);
        due = λ z i n. elim (in_append s.accepted (y ∷ []) z i) [
          | inl o ↦ k.sound.due z o n
          | inr o ↦ elim o [ inl q ↦ subst (λ (w : Entry Sym). h ≤ w.date) (sym q) due | inr never ↦ absurd never ]
        ];
      };
      dated = all_put (λ (z : Entry Sym). z.date < 2 ^ 40) s.accepted y k.dated date;
      few = let a = g.accepted.one_more in let b = g.accepted.same_limit in omega (arith, a, b, room);
      count = let a = g.accepted.one_more in let b = k.count in omega (arith, a, b, long);
      marked = g.accepted.same_marked ∙ k.marked;
      stands =
          subst (λ (us : List (Entry Sym)). StandsFor m.engine us (in_key_order (since h (s.accepted ++ y ∷ [])))) (sym (before_last h s.accepted y due))
          (subst (StandsFor m.engine (dated_before h s.accepted)) (sym (since_last h s.accepted y due))
          (subst (λ (n : ℕ). StandsFor m.engine (dated_before h s.accepted) (put_in_order (record x { arrival = n }) (in_key_order (since h s.accepted)))) k.count
          (g.stands (dated_before h s.accepted) (in_key_order (since h s.accepted)) k.stands)));
    }

pub logged_all : (h : ℕ → ℕ) (last delay j : ℕ) (x : Entry Sym) → x.date < 2 ^ 40 → (ss : List (Stratum Sym)) (ls ms : List Layer)
    → AreLayersAt h last delay j ss ls → AllByRecursion (IsReady x.date) ls → AllZip IsSameLayer ls ms → AllZip (HasLogged x) ls ms → AreLayersAt h last delay j (map (with_logged x) ss) ms
logged_all h last delay j x date [] [] [] k r q z = tt
logged_all h last delay j x date [] [] (m ∷ ms) k r q z = absurd z
logged_all h last delay j x date [] (l ∷ ls) ms k r q z = absurd k
logged_all h last delay j x date (s ∷ ss) [] ms k r q z = absurd k
logged_all h last delay j x date (s ∷ ss) (l ∷ ls) [] k r q z = absurd z
logged_all h last delay j x date (s ∷ ss) (l ∷ ls) (m ∷ ms) k r q z =
    (logged_at (h j) last delay s l m x k.0 r.0.room q.0 z.0 (let a = k.0.horizon in let b = r.0.due in omega (arith, a, b)) date, logged_all h last delay (suc j) x date ss ls ms k.1 r.1 q.1 z.1)

pub logged_of : (ps : List Plan) (ks : List ℕ) (focus : Bool) (limit j : ℕ) (x : Entry Sym) (ls ms : List Layer) → AreLayersOf ps ks focus limit j ls → AllZip IsSameLayer ls ms → AllZip (HasLogged x) ls ms → AreLayersOf ps ks focus limit j ms
logged_of ps ks focus limit j x [] [] k q z = k
logged_of ps ks focus limit j x [] (m ∷ ms) k q z = absurd z
logged_of ps ks focus limit j x (l ∷ ls) [] k q z = absurd z
logged_of ps ks focus limit j x (l ∷ ls) (m ∷ ms) k q z =
    let near = k.0.near in
    let same = q.0.behind in (
      record {
        own_plans = ap plans_of z.0.accepted.same_plans ∙ k.0.own_plans;
        numbers = q.0.numbers ∙ k.0.numbers;
        own_behind = same ∙ k.0.own_behind;
        near = omega (arith, near, same);
        own_focus = z.0.accepted.same_focus ∙ k.0.own_focus;
        own_limit = z.0.accepted.same_limit ∙ k.0.own_limit;
      },
      logged_of ps ks focus limit (suc j) x ls ms k.1 q.1 z.1,
    )

-- ---- how many stratum 0 accepted

pub first_delayed : (d : ℕ) (ls ms : List Layer) → AllZip (IsDelayed d) ls ms → first_of (λ e. e.accepted) ms ≡ first_of (λ e. e.accepted) ls + 0
first_delayed d [] [] z = refl
first_delayed d [] (m ∷ ms) z = absurd z
first_delayed d (l ∷ ls) [] z = absurd z
first_delayed d (l ∷ ls) (m ∷ ms) z = let e = ap (λ (x : EngineState). x.accepted) z.0.value in omega (arith, e)

pub first_logged : (x : Entry Sym) (ls ms : List Layer) → 0 < length ls → AllZip (HasLogged x) ls ms → first_of (λ e. e.accepted) ms ≡ first_of (λ e. e.accepted) ls + 1
first_logged x [] ms l z = absurd (omega (arith, l))
first_logged x (l ∷ ls) [] k z = absurd z
first_logged x (l ∷ ls) (m ∷ ms) k z = z.0.accepted.one_more

-- ---- no stratum refuses an entry that isn't late for stratum 0, where none is full

not_full : (a b : ℕ) → a ≤ b → (a == b) ≡ false → a < b
not_full a b l e = elim (cases_lt a b) [ inl k ↦ k | inr k ↦ absurd (true≢false (sym (eq-eqb a b (omega (arith, l, k))) ∙ e)) ]

neither : (a b : Bool) → (a || b) ≡ false → (a ≡ false) × (b ≡ false)
neither true b e = absurd (true≢false e)
neither false b e = (refl, e)

pub ready_all : (h : ℕ → ℕ) (last delay j date : ℕ) → ((i : ℕ) → h i ≤ date) → (ss : List (Stratum Sym)) (ls : List Layer) → AreLayersAt h last delay j ss ls
    → list_any (λ l. l.engine.accepted == l.engine.limit) ls ≡ false → AllByRecursion (IsReady date) ls
ready_all h last delay j date due [] [] k e = tt
ready_all h last delay j date due [] (l ∷ ls) k e = absurd k
ready_all h last delay j date due (s ∷ ss) [] k e = absurd k
ready_all h last delay j date due (s ∷ ss) (l ∷ ls) k e =
    let n = neither (l.engine.accepted == l.engine.limit) (list_any (λ m. m.engine.accepted == m.engine.limit) ls) e in
    let at = k.0.horizon in
    let d = due j in (
      record { running = k.0.running; due = omega (arith, at, d); room = not_full l.engine.accepted l.engine.limit k.0.few n.0 },
      ready_all h last delay (suc j) date due ss ls k.1 n.1,
    )

-- the horizon of stratum 0 is the latest
first_latest : (ended : Bool) (n b : ℕ) → horizon_behind ended n b ≤ horizon_behind ended n 0
first_latest true n b = omega arith
first_latest false n b = omega arith

pub first_at : (h : ℕ → ℕ) (last delay : ℕ) (ss : List (Stratum Sym)) (x : LayersState) → 0 < length x.layers → AreLayersAt h last delay 0 ss x.layers → horizon_in x ≡ h 0
first_at h last delay ss x some k = by ss x.layers some k
  where
    by : (ss : List (Stratum Sym)) (ls : List Layer) → 0 < length ls → AreLayersAt h last delay 0 ss ls → horizon_in (record x { layers = ls }) ≡ h 0
    by [] [] l k = absurd (omega (arith, l))
    by [] (m ∷ ms) l k = absurd k
    by (s ∷ ss) [] l k = absurd k
    by (s ∷ ss) (m ∷ ms) l k = k.0.horizon

module _ (x : LayersState) (some : 0 < length x.layers) (a : AreStanding (λ e. Unit {0}) x) (date : ℕ) (due : horizon_in x ≤ date) where
  abbrev horizons : ℕ → ℕ
  horizons j = horizon_behind x.ended a.horizon (behind (placed_of (plans_of x.plans) a.numbers) j)

  pub due_everywhere : (j : ℕ) → horizons j ≤ date
  due_everywhere j =
      let e : horizon_in x ≡ horizons 0 = first_at horizons x.last a.delay a.strata x some a.at in
      let l = first_latest x.ended a.horizon (behind (placed_of (plans_of x.plans) a.numbers) j) in
      omega (arith, e, l, due)

  pub standing_ready : is_full_in x ≡ false → AllByRecursion (IsReady date) x.layers
  standing_ready e = ready_all horizons x.last a.delay 0 date due_everywhere a.strata x.layers a.at e

-- of what they accepted nothing is said
pub unsaid : (ss : List (Stratum Sym)) → AllByRecursion (λ s. AllByRecursion (λ e. Unit {0}) s.accepted) ss
unsaid [] = tt
unsaid (s ∷ ss) = (unsaid_of s.accepted, unsaid ss)
  where
    unsaid_of : (es : List (Entry Sym)) → AllByRecursion (λ e. Unit {0}) es
    unsaid_of [] = tt
    unsaid_of (e ∷ es) = (tt, unsaid_of es)

pub standing_logged : (x : LayersState) (some : 0 < length x.layers) (a : AreStanding (λ e. Unit {0}) x) (e : Entry Sym) → horizon_in x ≤ e.date → e.date < 2 ^ 40 → is_full_in x ≡ false
    → (ms : List Layer) → AllZip IsSameLayer x.layers ms → AllZip (HasLogged e) x.layers ms → AreStanding (λ e. Unit {0}) (record x { layers = ms })
standing_logged x some a e due date full ms q z = record {
  numbers = a.numbers;
  of = logged_of (plans_of x.plans) a.numbers x.focus x.limit 0 e x.layers ms a.of q z;
  horizon = a.horizon;
  delay = a.delay;
  strata = map (with_logged e) a.strata;
  at = logged_all _ x.last a.delay 0 e date a.strata x.layers ms a.at (standing_ready x some a e.date due full) q z;
  each = unsaid _;
  within = a.within;
  closed = a.closed;
}

pub standing_delayed : (x : LayersState) (a : AreStanding (λ e. Unit {0}) x) (d : ℕ) (ms : List Layer) → AllZip (IsDelayed d) x.layers ms → AreStanding (λ e. Unit {0}) (record x { layers = ms })
standing_delayed x a d ms z = record {
  numbers = a.numbers;
  of = delayed_of (plans_of x.plans) a.numbers x.focus x.limit d 0 x.layers ms a.of z;
  horizon = a.horizon;
  delay = d;
  strata = a.strata;
  at = delayed_all _ x.last a.delay d 0 a.strata x.layers ms a.at z;
  each = unsaid _;
  within = a.within;
  closed = a.closed;
}

pub same_length : (ls ms : List Layer) → AllZip IsSameLayer ls ms → length ms ≡ length ls
same_length [] [] z = refl
same_length [] (m ∷ ms) z = absurd z
same_length (l ∷ ls) [] z = absurd z
same_length (l ∷ ls) (m ∷ ms) z = ap suc (same_length ls ms z.1)

-- the layers written back where they stood
pub written_back : (v : Vec Layer Global) (ms : List Layer) → AllZip IsSameLayer v.items ms → (with_items v ms).items ≡ ms
written_back v ms z = with_items_is v ms (same_length v.items ms z ∙ sym v.ok.0)

pub layers_delayed : (x : LayersState) (d : ℕ) (ms : List Layer) → AllZip (IsDelayed d) x.layers ms → AreLayers x → AreLayers (record x { layers = ms })
layers_delayed x d ms z a =
    let same = delayed_same d x.layers ms z in
    record {
      some = same_some x.layers ms same a.some;
      near = same_near x.layers ms same a.near;
      proper = a.proper;
      lags = a.lags;
      standing = λ running. standing_delayed x (a.standing running) d ms z;
    }

pub layers_logged : (x : LayersState) (e : Entry Sym) → x.stopped ≡ false → horizon_in x ≤ e.date → e.date < 2 ^ 40 → is_full_in x ≡ false
    → (ms : List Layer) → AllZip IsSameLayer x.layers ms → AllZip (HasLogged e) x.layers ms → AreLayers x → AreLayers (record x { layers = ms })
layers_logged x e running due date full ms q z a = record {
  some = same_some x.layers ms q a.some;
  near = same_near x.layers ms q a.near;
  proper = a.proper;
  lags = a.lags;
  standing = λ _. standing_logged x a.some (a.standing running) e due date full ms q z;
}

pub layers_stopped : (x : LayersState) (ms : List Layer) → AllZip IsSameLayer x.layers ms → AreLayers x → AreLayers (record x { layers = ms; stopped = true })
layers_stopped x ms q a = record {
  some = same_some x.layers ms q a.some;
  near = same_near x.layers ms q a.near;
  proper = a.proper;
  lags = a.lags;
  standing = λ e. absurd (true≢false e);
}

-- a date that isn't refused
pub date_fine : (x : LayersState) (date : ℕ) (u : Unit {0}) → ◌≡◌ {A = Result (Unit {0}) Refused} (Ok u) (answer_by (test_refusal x date)) → (x.stopped ≡ false) × (horizon_in x ≤ date)
date_fine x date u e = by x.stopped refl (nat_lt date (horizon_in x)) refl e
  where
    by : (a : Bool) → x.stopped ≡ a → (b : Bool) → nat_lt date (horizon_in x) ≡ b → ◌≡◌ {A = Result (Unit {0}) Refused} (Ok u) (answer_by (if a then Some Stopped else (if b then Some (Late date (horizon_in x)) else None))) → (x.stopped ≡ false) × (horizon_in x ≤ date)
    by true p b q e = absurd cc
    by false p true q e = absurd cc
    by false p false q e = (p, ltb-false date (horizon_in x) q)
