use Rattle.std.proofs.Common.{rules, ◌≡◌, ◌≤◌, subst, false, arith}
use Rattle.crs_layers.specs.LayerStates.{LayersState}
use Rattle.crs_layers.proofs.Ending.{open_at}
use Rattle.crs_layers.proofs.layers.Layers.clock.Goals as goal

pub mark-requires-clause-not_ended : goal.mark-requires-clause-not_ended
mark-requires-clause-not_ended g c =
    let x : LayersState = record { plans = c.self.inside.plans; layers = c.self.inside.layers.items; focus = c.self.inside.focus; limit = c.self.inside.limit; last = c.self.inside.last; ended = c.self.inside.ended; stopped = c.self.inside.stopped } in
    let running : x.stopped ≡ false = search rules in
    let late : x.last ≤ c.args.t = omega arith in
    subst (λ (s : LayersState). s.ended ≡ false) c.self.view_is (open_at x c.self.invariant running c.args.t c.requires.date late)

pub mark-requires-clause-timely : goal.mark-requires-clause-timely
mark-requires-clause-timely g c =
    let x : LayersState = record { plans = c.self.inside.plans; layers = c.self.inside.layers.items; focus = c.self.inside.focus; limit = c.self.inside.limit; last = c.self.inside.last; ended = c.self.inside.ended; stopped = c.self.inside.stopped } in
    let late : x.last ≤ c.args.t = omega arith in
    (c.requires.date, subst (λ (s : LayersState). s.last ≤ c.args.t) c.self.view_is late)
