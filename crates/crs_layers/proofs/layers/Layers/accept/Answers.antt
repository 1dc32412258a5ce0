use Rattle.std.proofs.Common.{◌≡◌, ◌≤◌, ◌∙◌, List, refl, sym, subst, true, false}
use Rattle.std.specs.List.{AllZip, AllByRecursion}
use Rattle.crs_base.specs.Seen.{entry_of}
use Rattle.crs_layers.specs.declared.layer.Layer.{Layer}
use Rattle.crs_layers.specs.Accepting.{IsSameLayer, IsReady, HasLogged}
use Rattle.crs_layers.specs.LayerStates.{LayersState, horizon_in, is_full_in}
use Rattle.crs_layers.specs.Standing.{AreLayers}
use Rattle.crs_layers.specs.Takes.{GoOnBy, TakeEntry}
use Rattle.crs_layers.proofs.Logging.{written_back, date_fine, standing_ready, layers_logged, layers_stopped, first_logged}
use Rattle.crs_layers.proofs.Following.{entry_taken}
use Rattle.crs_layers.proofs.layers.Layers.accept.Goals as goal

pub log_all-requires-clause-ready : goal.log_all-requires-clause-ready
log_all-requires-clause-ready c =
    let x : LayersState = record { plans = c.self.inside.plans; layers = c.self.inside.layers.items; focus = c.self.inside.focus; limit = c.self.inside.limit; last = c.self.inside.last; ended = c.self.inside.ended; stopped = c.self.inside.stopped } in
    let fine : (x.stopped ≡ false) × (horizon_in x ≤ c.args.entry.date) =
    subst (λ (s : LayersState). (s.stopped ≡ false) × (horizon_in s ≤ c.args.entry.date)) (sym c.self.view_is) (date_fine c.args.self.now c.args.entry.date _ c.in_ok-test_date.ensures) in
    let full : is_full_in x ≡ false = subst (λ (s : LayersState). is_full_in s ≡ false) (sym c.self.view_is) (sym c.is_full.ensures ∙ c.if-is_full.false) in
    subst (AllByRecursion (IsReady c.args.entry.date)) (sym c.deref_mut.ensures.value)
    (standing_ready x c.self.invariant.some (c.self.invariant.standing fine.0) c.args.entry.date fine.1 full)

pub invariant_of-self : goal.invariant_of-self
invariant_of-self c =
    let x : LayersState = record { plans = c.self.inside.plans; layers = c.self.inside.layers.items; focus = c.self.inside.focus; limit = c.self.inside.limit; last = c.self.inside.last; ended = c.self.inside.ended; stopped = c.self.inside.stopped } in
    let ms : List Layer = c.log_all.new.layers in
    let fine : (x.stopped ≡ false) × (horizon_in x ≤ c.args.entry.date) =
    subst (λ (s : LayersState). (s.stopped ≡ false) × (horizon_in s ≤ c.args.entry.date)) (sym c.self.view_is) (date_fine c.args.self.now c.args.entry.date _ c.in_ok-test_date.ensures) in
    let full : is_full_in x ≡ false = subst (λ (s : LayersState). is_full_in s ≡ false) (sym c.self.view_is) (sym c.is_full.ensures ∙ c.if-is_full.false) in
    let same = subst (λ (ls : List Layer). AllZip IsSameLayer ls ms) c.deref_mut.ensures.value c.log_all.ensures.same in
    let logged = subst (λ (ls : List Layer). AllZip (HasLogged (entry_of c.args.entry)) ls ms) c.deref_mut.ensures.value ((c.in-Ok.ensures {u = tt}).logged) in
    subst (λ (ls : List Layer). AreLayers (record x { layers = ls })) (sym (written_back c.self.inside.layers ms same))
    (layers_logged x (entry_of c.args.entry) fine.0 fine.1 c.requires.date full ms same logged c.self.invariant)

pub invariant_of-self-in-Err : goal.invariant_of-self-in-Err
invariant_of-self-in-Err c =
    let x : LayersState = record { plans = c.self.inside.plans; layers = c.self.inside.layers.items; focus = c.self.inside.focus; limit = c.self.inside.limit; last = c.self.inside.last; ended = c.self.inside.ended; stopped = c.self.inside.stopped } in
    let ms : List Layer = c.log_all.new.layers in
    let same = subst (λ (ls : List Layer). AllZip IsSameLayer ls ms) c.deref_mut.ensures.value c.log_all.ensures.same in
    subst (λ (ls : List Layer). AreLayers (record x { layers = ls; stopped = true })) (sym (written_back c.self.inside.layers ms same))
    (layers_stopped x ms same c.self.invariant)

pub returns-in-Ok-clause-stands : goal.returns-in-Ok-clause-stands
returns-in-Ok-clause-stands c =
    let x : LayersState = record { plans = c.self.inside.plans; layers = c.self.inside.layers.items; focus = c.self.inside.focus; limit = c.self.inside.limit; last = c.self.inside.last; ended = c.self.inside.ended; stopped = c.self.inside.stopped } in
    let ms : List Layer = c.log_all.new.layers in
    let fine : (x.stopped ≡ false) × (horizon_in x ≤ c.args.entry.date) =
    subst (λ (s : LayersState). (s.stopped ≡ false) × (horizon_in s ≤ c.args.entry.date)) (sym c.self.view_is) (date_fine c.args.self.now c.args.entry.date _ c.in_ok-test_date.ensures) in
    let full : is_full_in x ≡ false = subst (λ (s : LayersState). is_full_in s ≡ false) (sym c.self.view_is) (sym c.is_full.ensures ∙ c.if-is_full.false) in
    let same = subst (λ (ls : List Layer). AllZip IsSameLayer ls ms) c.deref_mut.ensures.value c.log_all.ensures.same in
    let logged = subst (λ (ls : List Layer). AllZip (HasLogged (entry_of c.args.entry)) ls ms) c.deref_mut.ensures.value ((c.in-Ok.ensures {u = tt}).logged) in
    subst (λ (ls : List Layer). TakeEntry c.args.self.now (record x { layers = ls }) (entry_of c.args.entry)) (sym (written_back c.self.inside.layers ms same))
    (subst (λ (old : LayersState). TakeEntry old (record x { layers = ms }) (entry_of c.args.entry)) c.self.view_is
    (entry_taken x (entry_of c.args.entry) ms c.requires.date
    (standing_ready x c.self.invariant.some (c.self.invariant.standing fine.0) c.args.entry.date fine.1 full) same logged))

pub returns-in-Ok-clause-goes_on : goal.returns-in-Ok-clause-goes_on
returns-in-Ok-clause-goes_on c =
    let x : LayersState = record { plans = c.self.inside.plans; layers = c.self.inside.layers.items; focus = c.self.inside.focus; limit = c.self.inside.limit; last = c.self.inside.last; ended = c.self.inside.ended; stopped = c.self.inside.stopped } in
    let ms : List Layer = c.log_all.new.layers in
    let same = subst (λ (ls : List Layer). AllZip IsSameLayer ls ms) c.deref_mut.ensures.value c.log_all.ensures.same in
    let logged = subst (λ (ls : List Layer). AllZip (HasLogged (entry_of c.args.entry)) ls ms) c.deref_mut.ensures.value ((c.in-Ok.ensures {u = tt}).logged) in
    subst (λ (ls : List Layer). GoOnBy 1 c.args.self.now (record x { layers = ls })) (sym (written_back c.self.inside.layers ms same))
    (subst (λ (old : LayersState). GoOnBy 1 old (record x { layers = ms })) c.self.view_is
    (record { same_plans = refl; same_focus = refl; same_limit = refl; accepted = first_logged (entry_of c.args.entry) x.layers ms c.self.invariant.some logged }))
