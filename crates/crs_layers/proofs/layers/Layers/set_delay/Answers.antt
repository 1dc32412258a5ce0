use Rattle.std.proofs.Common.{List, refl, sym, subst}
use Rattle.std.specs.List.{AllZip}
use Rattle.crs_layers.specs.declared.layer.Layer.{Layer}
use Rattle.crs_layers.specs.Accepting.{IsDelayed}
use Rattle.crs_layers.specs.LayerStates.{LayersState}
use Rattle.crs_layers.specs.Standing.{AreLayers}
use Rattle.crs_layers.specs.Takes.{GoOnBy, TakeDelay}
use Rattle.crs_layers.proofs.Logging.{delayed_same, written_back, layers_delayed, first_delayed}
use Rattle.crs_layers.proofs.Following.{delay_taken}
use Rattle.crs_layers.proofs.layers.Layers.set_delay.Goals as goal

pub invariant_of-self : goal.invariant_of-self
invariant_of-self c =
    let x : LayersState = record { plans = c.self.inside.plans; layers = c.self.inside.layers.items; focus = c.self.inside.focus; limit = c.self.inside.limit; last = c.self.inside.last; ended = c.self.inside.ended; stopped = c.self.inside.stopped } in
    let ms : List Layer = c.set_delays.new.layers in
    let z = subst (λ (ls : List Layer). AllZip (IsDelayed c.args.d) ls ms) c.deref_mut.ensures.value c.set_delays.ensures in
    subst (λ (ls : List Layer). AreLayers (record x { layers = ls })) (sym (written_back c.self.inside.layers ms (delayed_same c.args.d x.layers ms z)))
    (layers_delayed x c.args.d ms z c.self.invariant)

pub returns : goal.returns
returns c =
    let x : LayersState = record { plans = c.self.inside.plans; layers = c.self.inside.layers.items; focus = c.self.inside.focus; limit = c.self.inside.limit; last = c.self.inside.last; ended = c.self.inside.ended; stopped = c.self.inside.stopped } in
    let ms : List Layer = c.set_delays.new.layers in
    let z = subst (λ (ls : List Layer). AllZip (IsDelayed c.args.d) ls ms) c.deref_mut.ensures.value c.set_delays.ensures in
    let back = written_back c.self.inside.layers ms (delayed_same c.args.d x.layers ms z) in
    record {
      goes_on =
          subst (λ (ls : List Layer). GoOnBy 0 c.args.self.now (record x { layers = ls })) (sym back)
          (subst (λ (old : LayersState). GoOnBy 0 old (record x { layers = ms })) c.self.view_is (record { same_plans = refl; same_focus = refl; same_limit = refl; accepted = first_delayed c.args.d x.layers ms z }));
      stands =
          subst (λ (ls : List Layer). TakeDelay c.args.self.now (record x { layers = ls }) c.args.d) (sym back)
          (subst (λ (old : LayersState). TakeDelay old (record x { layers = ms }) c.args.d) c.self.view_is (delay_taken x c.args.d ms z));
    }
