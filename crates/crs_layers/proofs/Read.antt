-- What layers show of a state of a run that they stand for.
use Rattle.std.proofs.Common.{◌≡◌, ℕ, suc, ◌≤◌, ◌^◌, ◌==◌, ◌||◌, Bool, true, false, nat_le, List, [], ◌∷◌, length, map, refl, sym, ap, subst, ◌∙◌, arith, true≢false, inl, inr, eq-eqb}
use Rattle.std.specs.List.{list_any}
use Rattle.std.proofs.lemmas.Bool.{cases_lt, ne_eqb, le-leb, lt-leb}
use Rattle.std.proofs.lemmas.List.{length-map}
use Rattle.crs_base.specs.declared.symbols.Sym.{Sym}
use Rattle.crs_base.specs.Symbols.{AreDistinct}
use Rattle.crs_model.specs.declared.plan.Plan.{Plan}
use Rattle.crs_model.specs.Renaming.{text_in, renamed_entry, IsEntryOf}
use Rattle.crs_log.specs.Run.{end_date}
use Rattle.crs_engine.specs.Engines.{plans_of}
use Rattle.crs_layers.specs.Strata.{Placed, Stratum, behind, horizon_behind}
use Rattle.crs_layers.specs.Runs.{Setting, State, is_full, horizon_of}
use Rattle.crs_layers.specs.declared.layer.Layer.{Layer}
use Rattle.crs_layers.specs.LayerPlans.{placed_of, AreLayersOf}
use Rattle.crs_layers.specs.LayerStates.{LayersState, first_of, horizon_in, accepted_in, is_full_in}
use Rattle.crs_layers.specs.Standing.{HasText, AreLayersAt, stratum_in, StandFor, AreStanding, KnowSymbols, AreLayers}
use Rattle.crs_layers.proofs.Logging.{first_at}
use Rattle.crs_layers.proofs.MarkTaken.{at_same, at_first}
use Rattle.crs_layers.proofs.TextSide.{behind_seen}

-- how many entries stratum 0 accepted
abbrev pub first_count : {S : Type 0} → List (Stratum S) → ℕ
first_count [] = 0
first_count (s ∷ ss) = length s.accepted

counted_at : (texts : List (List ℕ)) (g : ℕ → ℕ) (last delay : ℕ) (ss : List (Stratum Sym)) (ls : List Layer) → AreLayersAt g last delay 0 ss ls → first_of (λ e. e.accepted) ls ≡ first_count (map (stratum_in texts) ss)
counted_at texts g last delay [] [] k = refl
counted_at texts g last delay [] (l ∷ ls) k = absurd k
counted_at texts g last delay (s ∷ ss) [] k = absurd k
counted_at texts g last delay (s ∷ ss) (l ∷ ls) k = k.0.count ∙ sym (length-map s.accepted (renamed_entry (text_in texts)))

one_full : (limit a n : ℕ) → a ≤ limit → a ≡ n → (a == limit) ≡ nat_le limit n
one_full limit a n few e = elim (cases_lt a limit) [
  | inl l ↦ (ne_eqb a limit (λ q. omega (arith, l, q)) ∙ sym (lt-leb limit n (omega (arith, l, e))))
  | inr l ↦ (eq-eqb a limit (omega (arith, l, few)) ∙ sym (le-leb limit n (omega (arith, l, e))))
]

full_at : (texts : List (List ℕ)) (ps : List Plan) (ks : List ℕ) (focus : Bool) (limit : ℕ) (g : ℕ → ℕ) (last delay j : ℕ) (ss : List (Stratum Sym)) (ls : List Layer) → AreLayersAt g last delay j ss ls → AreLayersOf ps ks focus limit j ls
    → list_any (λ l. l.engine.accepted == l.engine.limit) ls ≡ is_full limit (map (stratum_in texts) ss)
full_at texts ps ks focus limit g last delay j [] [] k o = refl
full_at texts ps ks focus limit g last delay j [] (l ∷ ls) k o = absurd k
full_at texts ps ks focus limit g last delay j (s ∷ ss) [] k o = absurd k
full_at texts ps ks focus limit g last delay j (s ∷ ss) (l ∷ ls) k o =
    let few = k.0.few in
    let most = o.0.own_limit in
    (λ i. (l.engine.accepted == most i) || list_any (λ m. m.engine.accepted == m.engine.limit) ls)
    ∙ (λ i. one_full limit l.engine.accepted (length (map (renamed_entry (text_in texts)) s.accepted)) (omega (arith, few, most)) (k.0.count ∙ sym (length-map s.accepted (renamed_entry (text_in texts)))) i
    || full_at texts ps ks focus limit g last delay (suc j) ss ls k.1 o.1 i)

module _ (c : Setting) (s : State) (x : LayersState) (b : StandFor c s x) where
  pub accepted_read : accepted_in x ≡ first_count s.strata
  accepted_read = counted_at s.log.texts (horizon_of c s.log) s.log.last s.log.delay b.strata x.layers b.at ∙ ap first_count b.seen

  pub full_read : is_full_in x ≡ is_full c.log.entries s.strata
  full_read =
      full_at s.log.texts (plans_of x.plans) b.numbers x.focus x.limit (horizon_of c s.log) s.log.last s.log.delay 0 b.strata x.layers b.at b.of
      ∙ (λ i. is_full (b.limit i) (b.seen i))

  module _ (inv : AreLayers x) where
    first_horizon : horizon_in x ≡ horizon_behind s.log.ended s.log.horizon 0
    first_horizon = first_at (horizon_of c s.log) s.log.last s.log.delay b.strata x inv.some b.at

    -- at the end each horizon is that of the end
    pub horizon_read : (s.log.ended ≡ true → s.log.horizon ≡ end_date) → horizon_in x ≡ s.log.horizon
    horizon_read end = by s.log.ended refl
      where
        by : (e : Bool) → s.log.ended ≡ e → horizon_in x ≡ s.log.horizon
        by true e = first_horizon ∙ (λ i. horizon_behind (e i) s.log.horizon 0) ∙ sym (end e)
        by false e = first_horizon ∙ at_first s.log.ended e s.log.horizon

    pub symbols_known : AreDistinct s.log.texts → KnowSymbols s.log.texts x
    symbols_known distinct = record { distinct = distinct; plans = b.run.known; entries = λ running. by (inv.standing running) x.ended refl }
      where
        same_behind : (j : ℕ) → behind c.placed j ≡ behind (placed_of (plans_of x.plans) b.numbers) j
        same_behind j = ap (λ (ps : List (Placed (List ℕ))). behind ps j) b.run.placed ∙ sym (behind_seen s.log.texts (placed_of (plans_of x.plans) b.numbers) j)

        at_now : AreLayersAt (horizon_of c s.log) x.last s.log.delay 0 b.strata x.layers
        at_now = subst (λ (n : ℕ). AreLayersAt (horizon_of c s.log) n s.log.delay 0 b.strata x.layers) b.last b.at

        by : AreStanding (λ e. Unit {0}) x → (e : Bool) → x.ended ≡ e → AreStanding (IsEntryOf (HasText s.log.texts)) x
        by a true e = record {
          numbers = b.numbers;
          of = b.of;
          horizon = 2 ^ 42;
          delay = s.log.delay;
          strata = b.strata;
          at = at_same (horizon_of c s.log) (λ j. horizon_behind x.ended (2 ^ 42) (behind (placed_of (plans_of x.plans) b.numbers) j)) x.last s.log.delay 0 b.strata x.layers
              (λ j. (λ i. horizon_behind ((b.ended ∙ e) i) s.log.horizon (behind c.placed j)) ∙ (λ i. horizon_behind (sym e i) (2 ^ 42) (behind (placed_of (plans_of x.plans) b.numbers) j))) at_now;
          each = b.known;
          within = omega arith;
          closed = λ q. (refl, (a.closed q).1);
        }
        by a false e =
            let low : s.log.horizon ≤ 2 ^ 42 =
            (let d : horizon_in x ≡ a.horizon = first_at (λ j. horizon_behind x.ended a.horizon (behind (placed_of (plans_of x.plans) a.numbers) j)) x.last a.delay a.strata x inv.some a.at ∙ at_first x.ended e a.horizon in
            let n : horizon_in x ≡ s.log.horizon = first_horizon ∙ at_first s.log.ended (b.ended ∙ e) s.log.horizon in
            let l = a.within in
            omega (arith, d, n, l)) in
            record {
              numbers = b.numbers;
              of = b.of;
              horizon = s.log.horizon;
              delay = s.log.delay;
              strata = b.strata;
              at = at_same (horizon_of c s.log) (λ j. horizon_behind x.ended s.log.horizon (behind (placed_of (plans_of x.plans) b.numbers) j)) x.last s.log.delay 0 b.strata x.layers
                  (λ j i. horizon_behind (b.ended i) s.log.horizon (same_behind j i)) at_now;
              each = b.known;
              within = low;
              closed = λ q. absurd (true≢false (sym q ∙ e));
            }
