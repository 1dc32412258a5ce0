use Rattle.std.proofs.Common.{[], ◌∷◌, ◌++◌, refl, sym, subst, ◌∙◌, inl, inr}
use Rattle.std.specs.Prelude.{IsSome, OnOk}
use Rattle.std.proofs.lemmas.Result.{on_ok_weaker}
use Rattle.std.proofs.lemmas.List.{append-nil}
use Rattle.crs_base.specs.declared.symbols.Sym.{Sym}
use Rattle.crs_base.specs.Seen.{entry_of}
use Rattle.crs_base.specs.Values.{Attribute, IsChange}
use Rattle.crs_history.specs.Histories.{attribute_of}
use Rattle.crs_history.specs.Holdings.{Extends}
use Rattle.crs_history.specs.Tracks.{track_of, IsTrackSetTo}
use Rattle.crs_history.proofs.Telling.{attribute_told}
use Rattle.crs_history.proofs.holdings.push_change.Goals as goal

pub returns-clause-tracks : goal.returns-clause-tracks
returns-clause-tracks c =
    let old = c.args.tracks.now in
    let new = c.push.new.self in
    let e = entry_of c.args.entry.now.value in
    let a : Attribute Sym = attribute_of e in
    let some : IsSome e.change = subst (λ w. IsSome w.change) c.deref.ensures c.if-is_none.ensures in
    on_ok_weaker c.push.result
    (λ (put : IsTrackSetTo old a (track_of old a ++ e ∷ []) new). λ b. elim (attribute_told b a) [
      | inl q ↦ subst (λ (w : Attribute Sym). Extends (IsChange w) e (track_of old w) (track_of new w)) (sym q)
          (e ∷ [], put.set, inl (record { named = refl; of = refl; change = some }, [], refl, refl))
      | inr ne ↦ ([], put.others b ne ∙ sym (append-nil (track_of old b)), inr ((λ ch. ne (λ i. record { name = (sym ch.named) i; args = (sym ch.of) i })), refl))
    ])
    (subst (λ w. OnOk c.push.result (IsTrackSetTo old (attribute_of (entry_of w)) (track_of old (attribute_of (entry_of w)) ++ entry_of w ∷ []) new)) c.in_ok-clone.ensures.cases c.push.ensures.ok)
