use Rattle.std.proofs.Common.{◌≡◌, [], ◌∷◌, ◌++◌, sym, ap, subst, ◌∙◌}
use Rattle.std.specs.Prelude.{pos, ◌≤ℤ◌}
use Rattle.std.proofs.lemmas.List.{append_assoc}
use Rattle.std.proofs.lemmas.Result.{on_ok_weaker}
use Rattle.crs_base.specs.Seen.{entry_of}
use Rattle.crs_base.specs.Sifted.{Sifts}
use Rattle.crs_history.specs.Histories.{HistoryState, IsKept, StandsFor}
use Rattle.crs_history.specs.Holdings.{HoldingsState, held_of, IsSplitAt}
use Rattle.crs_history.proofs.Kept.{kept_push}
use Rattle.crs_history.proofs.Trying.{by_result}
use Rattle.crs_history.proofs.Holding.{split_pushed}
use Rattle.crs_history.proofs.history.History.push.Goals as goal

pub invariant_of-self : goal.invariant_of-self
invariant_of-self c =
    let h = c.self.inside.held in
    let e = entry_of c.args.entry.value in
    let floor = c.self.inside.floor in
    let late : floor ≤ℤ pos e.date = subst (λ (w : HistoryState). w.floor ≤ℤ pos e.date) (sym c.self.view_is) c.requires.from_floor in
    by_result c.push.result c.push.ensures.ok c.push.ensures.err
    (λ ok. subst (IsSplitAt floor) (sym ok) (split_pushed floor h.older h.ring e c.self.invariant late))
    (λ err. subst (IsSplitAt floor) (sym err) c.self.invariant)

pub returns-clause-stands : goal.returns-clause-stands
returns-clause-stands c =
    let h = c.self.inside.held in
    let e = entry_of c.args.entry.value in
    let floor = c.self.inside.floor in
    let late : floor ≤ℤ pos e.date = subst (λ (w : HistoryState). w.floor ≤ℤ pos e.date) (sym c.self.view_is) c.requires.from_floor in
    on_ok_weaker c.push.result
    (λ (ok : c.push.new.self ≡ (let w : HoldingsState = record { older = h.older; ring = h.ring ++ e ∷ [] } in w)) s stands.
    let new : held_of c.push.new.self ≡ held_of h ++ e ∷ [] = ap held_of ok ∙ sym (append_assoc h.older h.ring (e ∷ [])) in
    subst (Sifts (IsKept (s ++ e ∷ []) floor) (s ++ e ∷ [])) (sym new) (kept_push s e floor late (held_of h) (subst (StandsFor s) (sym c.self.view_is) stands))) c.push.ensures.ok
