use Rattle.std.proofs.Common.{◌≡◌, ◌∷◌, ◌++◌, [], List, Some, refl, sym, ap, subst, ◌∙◌}
use Rattle.std.proofs.lemmas.Result.{on_ok_weaker, on_err_weaker}
use Rattle.crs_base.specs.declared.symbols.Sym.{Sym}
use Rattle.crs_base.specs.Entry.{Entry}
use Rattle.crs_base.specs.Seen.{entry_of}
use Rattle.crs_history.specs.Histories.{attribute_of}
use Rattle.crs_history.specs.Lanes.{lane_of, AreAlike, IsSetTo}
use Rattle.crs_history.specs.Tracks.{TracksState, number_of, track_at, track_of, AreSame, IsTrackSetTo}
use Rattle.crs_history.proofs.Trying.{on_err, by_result}
use Rattle.crs_history.proofs.TrackEdits.{tracks_same, tracks_more, track_put, tracks_put, of_pushed, set_after}
use Rattle.crs_history.proofs.tracks.Tracks.push.Goals as goal

pub returns-in_err-number-clause-err : goal.returns-in_err-number-clause-err
returns-in_err-number-clause-err c =
    let old = c.self.inside.steps.entries in
    let new = c.number_for.new.steps.entries in
    let lanes = c.self.inside.lanes in
    on_err c.from_residual.result
    (subst (λ (w : TracksState). AreSame w (record { steps = new; lanes = lanes })) c.self.view_is
    (tracks_same old new lanes lanes c.self.invariant.0 c.number_for.ensures.grows c.number_for.ensures.numbering (λ n. refl)))

pub invariant_of-self-2 : goal.invariant_of-self-2
invariant_of-self-2 c =
    let e = entry_of c.args.entry.value in
    let a = attribute_of e in
    let old = c.self.inside.steps.entries in
    let new = c.number_for.new.steps.entries in
    let lanes = c.self.inside.lanes in
    let k = c.in_ok-number.number in
    let named : number_of new (record { name = e.name; args = c.as_slice.result.now }) ≡ Some k =
    subst (λ w. number_of new (record { name = w.name; args = c.as_slice.result.now }) ≡ Some k) c.deref.ensures c.in_ok-number.ensures.ok in
    let numbered : number_of new a ≡ Some k =
    subst (λ (w : List Sym). number_of new (record { name = e.name; args = w }) ≡ Some k) (c.as_slice.ensures ∙ ap (λ w. w.args) c.deref-2.ensures) named in
    let kept = tracks_more old new lanes lanes c.self.invariant.0 c.number_for.ensures.grows c.number_for.ensures.numbering (λ n. refl) in (
      by_result c.push.result c.push.ensures.ok c.push.ensures.err
          (λ put. tracks_put new lanes c.push.new.self kept a k numbered (lane_of lanes k ++ e ∷ []) put (of_pushed (record { steps = new; lanes = lanes }) kept e k numbered))
          (λ alike. tracks_more old new lanes c.push.new.self c.self.invariant.0 c.number_for.ensures.grows c.number_for.ensures.numbering alike),
      c.number_for.ensures.right,
    )

pub returns-clause-ok : goal.returns-clause-ok
returns-clause-ok c =
    let e = entry_of c.args.entry.value in
    let a = attribute_of e in
    let old = c.self.inside.steps.entries in
    let new = c.number_for.new.steps.entries in
    let lanes = c.self.inside.lanes in
    let k = c.in_ok-number.number in
    let named : number_of new (record { name = e.name; args = c.as_slice.result.now }) ≡ Some k =
    subst (λ w. number_of new (record { name = w.name; args = c.as_slice.result.now }) ≡ Some k) c.deref.ensures c.in_ok-number.ensures.ok in
    let numbered : number_of new a ≡ Some k =
    subst (λ (w : List Sym). number_of new (record { name = e.name; args = w }) ≡ Some k) (c.as_slice.ensures ∙ ap (λ w. w.args) c.deref-2.ensures) named in
    let kept = tracks_more old new lanes lanes c.self.invariant.0 c.number_for.ensures.grows c.number_for.ensures.numbering (λ n. refl) in
    let same : AreSame (record { steps = old; lanes = lanes }) (record { steps = new; lanes = lanes }) =
    tracks_same old new lanes lanes c.self.invariant.0 c.number_for.ensures.grows c.number_for.ensures.numbering (λ n. refl) in
    let track : lane_of lanes k ≡ track_of c.args.self.now a = sym (ap (track_at lanes) numbered) ∙ same a ∙ ap (λ (w : TracksState). track_of w a) c.self.view_is in
    on_ok_weaker c.push.result
    (λ (put : IsSetTo lanes k (lane_of lanes k ++ e ∷ []) c.push.new.self).
    subst (λ (w : List (Entry Sym)). IsTrackSetTo c.args.self.now a (w ++ e ∷ []) (record { steps = new; lanes = c.push.new.self })) track
    (subst (λ (w : TracksState). IsTrackSetTo w a (lane_of lanes k ++ e ∷ []) (record { steps = new; lanes = c.push.new.self })) c.self.view_is
    (set_after (record { steps = old; lanes = lanes }) (record { steps = new; lanes = lanes }) (record { steps = new; lanes = c.push.new.self }) a (lane_of lanes k ++ e ∷ []) same
    (track_put new lanes c.push.new.self kept a k numbered (lane_of lanes k ++ e ∷ []) put)))) c.push.ensures.ok

pub returns-clause-err : goal.returns-clause-err
returns-clause-err c =
    let old = c.self.inside.steps.entries in
    let new = c.number_for.new.steps.entries in
    let lanes = c.self.inside.lanes in
    on_err_weaker c.push.result
    (λ (alike : AreAlike lanes c.push.new.self). subst (λ (w : TracksState). AreSame w (record { steps = new; lanes = c.push.new.self })) c.self.view_is
    (tracks_same old new lanes c.push.new.self c.self.invariant.0 c.number_for.ensures.grows c.number_for.ensures.numbering alike)) c.push.ensures.err

pub invariant_of-self : goal.invariant_of-self
invariant_of-self c =
    let lanes = c.self.inside.lanes in
    (tracks_more c.self.inside.steps.entries c.number_for.new.steps.entries lanes lanes c.self.invariant.0 c.number_for.ensures.grows c.number_for.ensures.numbering (λ n. refl), c.number_for.ensures.right)

pub returns-in_err-number-clause-owned : goal.returns-in_err-number-clause-owned
returns-in_err-number-clause-owned c = (invariant_of-self c).0.owned

pub returns-clause-owned : goal.returns-clause-owned
returns-clause-owned c = (invariant_of-self-2 c).0.owned
