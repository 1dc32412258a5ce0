use Rattle.std.proofs.Common.{◌≡◌, ◌-◌, ◌<◌, ◌∷◌, ◌++◌, [], List, length, refl, sym, subst, true≢false, arith}
use Rattle.crs_base.specs.Seen.{entry_of}
use Rattle.crs_history.specs.declared.track.Change.{Change}
use Rattle.crs_history.specs.Runs.{told_of, Follows, AreRuns}
use Rattle.crs_history.proofs.Runs.{runs_push, runs_begin}
use Rattle.crs_history.proofs.track.Track.push.Goals as goal
use Rattle.crs_history.proofs.track.Track.push.Goals.{in-Some, in-None}

pub invariant_of-self-2 : goal.invariant_of-self-2
invariant_of-self-2 c =
    let items = c.self.inside.changes.items in
    let e = c.args.entry in
    let long : c.self.inside.changes.len ≡ length items = c.self.inside.changes.ok.0 in
    subst (λ (w : List Change). AreRuns w) (sym c.in_ok-push_back.ensures.items) (
    subst (λ (w : List Change). AreRuns (w ++ record { entry = c.args.entry; repeats = c.match-back.repeats } ∷ [])) (sym c.reserve_first.ensures) (elim c.match-back.branch [
      | in-Some w ↦ (
          let n : Change = record { entry = e; repeats = w.repeats_after-repeats.result } in
          let some : 0 < c.self.inside.changes.len = w.in-Some.ensures.variant.0 refl in
          let f : Follows (told_of w.in-Some.last.now) (told_of n) =
          subst (λ r. Follows (told_of w.in-Some.last.now) (record { entry = entry_of r; repeats = w.repeats_after-repeats.result })) w.deref.ensures w.repeats_after-repeats.ensures in
          let p : AreRuns (items ++ n ∷ []) = runs_push items w.in-Some.last.now n (c.self.inside.changes.len - 1) c.self.invariant (omega arith) w.in-Some.ensures.lookup f in
          subst (λ k. AreRuns (c.match-back.self-inside.changes.items ++ record { entry = e; repeats = k } ∷ [])) (sym w.repeats-is)
          (subst (λ k. AreRuns (k.changes.items ++ n ∷ [])) (sym w.self-inside-is) p))
      | in-None w ↦ (
          let n : Change = record { entry = e; repeats = 0 } in
          let p : AreRuns (items ++ n ∷ []) = runs_begin items n (λ h. true≢false (sym (w.in-None.ensures.variant.1 (omega (arith, h))))) in
          subst (λ k. AreRuns (c.match-back.self-inside.changes.items ++ record { entry = e; repeats = k } ∷ [])) (sym w.repeats-is)
          (subst (λ k. AreRuns (k.changes.items ++ n ∷ [])) (sym w.self-inside-is) p))
    ]))
