-- What is read of the layers of a session is what the run has.
use Rattle.std.proofs.Common.{◌≡◌, ◌<◌, ℕ, Bool, true, false, List, [], ◌∷◌, length, map, refl, sym, ap, subst, ◌∙◌, arith}
use Rattle.std.specs.List.{AllByRecursion}
use Rattle.std.proofs.lemmas.List.{length-map}
use Rattle.crs_base.specs.declared.symbols.Sym.{Sym}
use Rattle.crs_model.specs.Renaming.{IsEntryOf}
use Rattle.crs_engine.specs.Engines.{plans_of}
use Rattle.crs_log.specs.Run as run
use Rattle.crs_layers.specs.Strata.{Placed, Stratum, behind, horizon_behind}
use Rattle.crs_layers.specs.Runs.{State, horizon_of}
use Rattle.crs_layers.specs.declared.layer.Layer.{Layer}
use Rattle.crs_layers.specs.LayerPlans.{placed_of}
use Rattle.crs_layers.specs.LayerStates.{first_of, horizon_in}
use Rattle.crs_layers.specs.Standing.{HasText, AreLayersAt, AreStanding, KnowSymbols, stratum_in}
use Rattle.crs_layers.proofs.AtStart.{some_strata}
use Rattle.crs_layers.proofs.TextSide.{behind_seen}
use Rattle.crs_session.specs.declared.session.Session.{Session}
use Rattle.crs_session.specs.Session.{Represents}
use Rattle.crs_frames.specs.Frames.{Frame}
use Rattle.crs_session.specs.Texts.{setting_of}

-- ---- the horizon

first_horizon : (h : ℕ → ℕ) (last delay : ℕ) (ss : List (Stratum Sym)) (ls : List Layer) → 0 < length ss → AreLayersAt h last delay 0 ss ls
    → first_of (λ e. e.horizon) ls ≡ h 0
first_horizon h last delay [] ls some k = absurd (omega (arith, some))
first_horizon h last delay (s ∷ ss) [] some k = absurd k
first_horizon h last delay (s ∷ ss) (l ∷ ls) some k = k.0.horizon

first_at : (ended : Bool) (h : ℕ) → (ended ≡ true → h ≡ run.end_date) → horizon_behind ended h 0 ≡ h
first_at true h closed = sym (closed refl)
first_at false h closed = omega arith

module _ (f : Frame) (x : Session) (s : State) (r : Represents f x s) where
  pub strata_some : 0 < length r.stand.strata
  strata_some =
      let some = some_strata (map (λ p. p.stratum) f.placed) in
      let long = r.strata in
      let e = ap length r.stand.seen in
      omega (arith, some, long, e, length-map r.stand.strata (stratum_in s.log.texts))

  pub horizon_read : horizon_in x.layers ≡ s.log.horizon
  horizon_read =
      first_horizon (horizon_of (setting_of f) s.log) s.log.last s.log.delay r.stand.strata x.layers.layers strata_some r.stand.at
      ∙ first_at s.log.ended s.log.horizon (λ e. (r.closed e).0)

  behind_read : (j : ℕ) → behind f.placed j ≡ behind (placed_of (plans_of x.layers.plans) r.stand.numbers) j
  behind_read j = ap (λ (ps : List (Placed (List ℕ))). behind ps j) r.stand.run.placed ∙ sym (behind_seen s.log.texts (placed_of (plans_of x.layers.plans) r.stand.numbers) j)

  horizons_read : horizon_of (setting_of f) s.log ≡ (λ j. horizon_behind x.layers.ended s.log.horizon (behind (placed_of (plans_of x.layers.plans) r.stand.numbers) j))
  horizons_read = λ i j. horizon_behind (r.stand.ended i) s.log.horizon (behind_read j i)

  standing : AreStanding (IsEntryOf (HasText x.symbols.texts)) x.layers
  standing = record {
    numbers = r.stand.numbers;
    of = r.stand.of;
    horizon = s.log.horizon;
    delay = s.log.delay;
    strata = r.stand.strata;
    at =
        subst (λ (n : ℕ). AreLayersAt (λ j. horizon_behind x.layers.ended s.log.horizon (behind (placed_of (plans_of x.layers.plans) r.stand.numbers) j)) n s.log.delay 0 r.stand.strata x.layers.layers) r.stand.last
        (subst (λ (h : ℕ → ℕ). AreLayersAt h s.log.last s.log.delay 0 r.stand.strata x.layers.layers) horizons_read r.stand.at);
    each = subst (λ (texts : List (List ℕ)). AllByRecursion (λ t. AllByRecursion (IsEntryOf (HasText texts)) t.accepted) r.stand.strata) r.texts r.stand.known;
    within = r.reached;
    closed = λ e. let k = r.closed (r.stand.ended ∙ e) in (k.0, sym r.stand.last ∙ k.1);
  }

  -- all symbols are in the table
  pub symbols_known : KnowSymbols x.symbols.texts x.layers
  symbols_known = record { distinct = r.models.distinct; plans = r.models.chronicles_in; entries = λ _. standing }
