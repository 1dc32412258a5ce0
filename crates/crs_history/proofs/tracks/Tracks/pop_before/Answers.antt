use Rattle.std.proofs.Common.{◌≡◌, drop, Some, sym, ap, subst, ◌∙◌}
use Rattle.std.specs.Prelude.{option_map}
use Rattle.crs_base.specs.declared.symbols.Sym.{Sym}
use Rattle.crs_base.specs.Seen.{entry_of}
use Rattle.crs_base.specs.Values.{Attribute}
use Rattle.crs_history.specs.Lanes.{lane_of}
use Rattle.crs_history.specs.Tracks.{TracksState, number_of, track_at, TakesFirst}
use Rattle.crs_history.proofs.Trying.{if_some}
use Rattle.crs_history.proofs.TrackEdits.{track_put, first_is}
use Rattle.crs_history.proofs.tracks.Tracks.pop_before.Goals as goal

pub returns-clause-first : goal.returns-clause-first
returns-clause-first c =
    let a : Attribute Sym = record { name = c.args.name; args = c.args.args.now } in
    let steps = c.self.inside.steps.entries in
    let lanes = c.self.inside.lanes in
    let k = c.in_ok-number.number in
    let numbered : number_of steps a ≡ Some k = ap (λ (w : TracksState). number_of w.steps a) c.self.view_is ∙ sym c.number_of.ensures ∙ c.in_ok-number.was in
    if_some c.pop_first.result (λ r. TakesFirst c.args.self.now a (entry_of r.value) (record { steps = steps; lanes = c.pop_first.new.self }))
    (λ r e.
    let first = first_is (lane_of lanes k) (entry_of r.value) (sym c.pop_first.ensures.first ∙ ap (option_map (λ r. entry_of r.value)) e) in
    subst (λ (w : TracksState). TakesFirst w a (entry_of r.value) (record { steps = steps; lanes = c.pop_first.new.self })) c.self.view_is (record {
      rest = drop 1 (lane_of lanes k);
      first = ap (track_at lanes) numbered ∙ first;
      taken = track_put steps lanes c.pop_first.new.self c.self.invariant.0 a k numbered (drop 1 (lane_of lanes k)) c.pop_first.ensures.rest;
    }))
