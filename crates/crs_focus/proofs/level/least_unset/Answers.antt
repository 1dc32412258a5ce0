use Rattle.std.proofs.Common.{◌≡◌, ◌≤◌, ◌+◌, map, subst, sym, ◌∙◌, true≢false}
use Rattle.std.specs.Prelude.{◌⊎◌, Some}
use Rattle.crs_model.specs.Levels.{level_in}
use Rattle.crs_model.specs.SeenModels.{event_of}
use Rattle.crs_focus.specs.Current.{IsLeastUnset}
use Rattle.crs_focus.proofs.Unset.{least_bound, least_unbound}
use Rattle.crs_focus.proofs.level.least_unset.Goals as goal
use Rattle.crs_focus.proofs.level.least_unset.Goals.{then-is_unset, else-is_unset}

pub loop-place-preserved : goal.loop-place-preserved
loop-place-preserved c =
    let level = level_in (map event_of c.args.events.now) c.args.focus in
    let bits = c.args.bits in
    let n = c.loop-place.place in
    let so_far = c.loop-place.least in
    elim c.if-is_unset.branch [
      | then-is_unset w ↦
          let m = w.lesser.result in
          subst (IsLeastUnset level bits (n + 1)) (sym w.least-is)
          (least_unbound level bits n so_far m (c.is_unset.ensures.0 w.if-is_unset.true)
          (subst (λ k. m ≤ k) w.level_at.ensures w.lesser.ensures.not_above.0)
          w.lesser.ensures.not_above.1
          (subst (λ k. (m ≡ k) ⊎ (so_far ≡ Some m)) w.level_at.ensures w.lesser.ensures.one_of)
          c.loop-place.invariant)
      | else-is_unset w ↦
          subst (IsLeastUnset level bits (n + 1)) (sym w.least-is)
          (least_bound level bits n so_far (λ b. true≢false (sym (c.is_unset.ensures.1 b) ∙ w.if-is_unset.false)) c.loop-place.invariant)
    ]
