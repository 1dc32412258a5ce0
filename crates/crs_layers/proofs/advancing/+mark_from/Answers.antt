use Rattle.std.proofs.Common.{rules, ◌≡◌, ◌∙◌, ◌++◌, [], ◌∷◌, false, List, refl, sym, ap, subst, append-nil, append_assoc}
use Rattle.std.specs.List.{AllByRecursion, AllZip, flat_map}
use Rattle.crs_model.specs.declared.plan.Plans.{Plans}
use Rattle.crs_model.specs.declared.recognition.Recognition.{Recognition}
use Rattle.crs_model.specs.Plans.{chronicle}
use Rattle.crs_model.specs.Renaming.{text_in, IsPatternOf}
use Rattle.crs_engine.specs.Engines.{plans_of}
use Rattle.crs_layers.specs.Accepting.{IsSameLayer}
use Rattle.crs_layers.specs.Giving.{AreDue, HaveTaken, given_of, IsWhole}
use Rattle.crs_layers.specs.Passing.{AreReadyFor, HavePassed}
use Rattle.crs_layers.specs.Standing.{HasText}
use Rattle.crs_layers.specs.declared.layer.Layer.{Layer}
use Rattle.crs_layers.proofs.Logging.{same_then, same_first}
use Rattle.crs_layers.proofs.PassedOn.{goes_on, passed_none, first_ready}
use Rattle.crs_layers.proofs.Taking.{empty_is}
use Rattle.crs_layers.proofs.advancing.+mark_from.Goals as goal

pub mark_one-requires-clause-running : goal.mark_one-requires-clause-running
mark_one-requires-clause-running g t c =
    let T = c.args.symbols.now.texts in
    let l : Layer = c.in-Some.first.now in
    let ls : List Layer = c.in-Some.above.now in
    let e : c.args.layers.now ≡ l ∷ ls = search rules in
    (first_ready T c.args.mark c.requires.ready.0 l ls (subst (AreReadyFor T c.args.mark c.requires.ready.0) e c.requires.ready.1)).0

pub mark_one-requires-clause-in_time : goal.mark_one-requires-clause-in_time
mark_one-requires-clause-in_time g t c =
    let T = c.args.symbols.now.texts in
    let l : Layer = c.in-Some.first.now in
    let ls : List Layer = c.in-Some.above.now in
    let e : c.args.layers.now ≡ l ∷ ls = search rules in
    (first_ready T c.args.mark c.requires.ready.0 l ls (subst (AreReadyFor T c.args.mark c.requires.ready.0) e c.requires.ready.1)).1

pub returns-in_default-clause-same : goal.returns-in_default-clause-same
returns-in_default-clause-same g t c =
    let m : Layer = record c.in-Some.first.now { engine = c.mark_one.new.engine } in
    same_first c.args.layers.now c.in-Some.first.now m c.in-Some.above.now (search rules) (record { numbers = refl; behind = refl })

pub give_found-requires-clause-going : goal.give_found-requires-clause-going
give_found-requires-clause-going g t c =
    let T = c.args.symbols.now.texts in
    let l : Layer = c.in-Some.first.now in
    let ls : List Layer = c.in-Some.above.now in
    let e : c.args.layers.now ≡ l ∷ ls = search rules in
    let m : Layer = record c.in-Some.first.now { engine = c.mark_one.new.engine } in
    let on = goes_on T c.args.mark c.requires.ready.0 l m ls c.in-Ok.answer (subst (AreReadyFor T c.args.mark c.requires.ready.0) e c.requires.ready.1) (record { numbers = refl; behind = refl }) c.in-Ok.ensures.marked in
    on.going

pub give_found-requires-clause-due : goal.give_found-requires-clause-due
give_found-requires-clause-due g t c =
    let T = c.args.symbols.now.texts in
    let l : Layer = c.in-Some.first.now in
    let ls : List Layer = c.in-Some.above.now in
    let e : c.args.layers.now ≡ l ∷ ls = search rules in
    let m : Layer = record c.in-Some.first.now { engine = c.mark_one.new.engine } in
    let on = goes_on T c.args.mark c.requires.ready.0 l m ls c.in-Ok.answer (subst (AreReadyFor T c.args.mark c.requires.ready.0) e c.requires.ready.1) (record { numbers = refl; behind = refl }) c.in-Ok.ensures.marked in
    subst (λ (p : Plans). AreDue ls (flat_map (given_of (text_in T) (plans_of p)) c.as_slice.result.now)) (sym c.plans.ensures)
    (subst (λ (rs : List Recognition). AreDue ls (flat_map (given_of (text_in T) (plans_of c.mark_one.new.engine.plans)) rs)) (sym c.as_slice.ensures) on.due)

pub give_found-requires-clause-whole : goal.give_found-requires-clause-whole
give_found-requires-clause-whole g t c =
    let T = c.args.symbols.now.texts in
    let l : Layer = c.in-Some.first.now in
    let ls : List Layer = c.in-Some.above.now in
    let e : c.args.layers.now ≡ l ∷ ls = search rules in
    let m : Layer = record c.in-Some.first.now { engine = c.mark_one.new.engine } in
    let on = goes_on T c.args.mark c.requires.ready.0 l m ls c.in-Ok.answer (subst (AreReadyFor T c.args.mark c.requires.ready.0) e c.requires.ready.1) (record { numbers = refl; behind = refl }) c.in-Ok.ensures.marked in
    subst (AllByRecursion (IsWhole T)) (sym c.as_slice.ensures) on.whole

pub give_found-requires-clause-patterns : goal.give_found-requires-clause-patterns
give_found-requires-clause-patterns g t c =
    let T = c.args.symbols.now.texts in
    let l : Layer = c.in-Some.first.now in
    let ls : List Layer = c.in-Some.above.now in
    let e : c.args.layers.now ≡ l ∷ ls = search rules in
    let m : Layer = record c.in-Some.first.now { engine = c.mark_one.new.engine } in
    let on = goes_on T c.args.mark c.requires.ready.0 l m ls c.in-Ok.answer (subst (AreReadyFor T c.args.mark c.requires.ready.0) e c.requires.ready.1) (record { numbers = refl; behind = refl }) c.in-Ok.ensures.marked in
    subst (λ (p : Plans). AllByRecursion (λ q. AllByRecursion (λ x. IsPatternOf (HasText T) x.pattern) (chronicle q).emits) (plans_of p)) (sym c.plans.ensures) on.patterns

pub mark_from-requires : goal.mark_from-requires
mark_from-requires g t c κs within =
    let T = c.args.symbols.now.texts in
    let l : Layer = c.in-Some.first.now in
    let ls : List Layer = c.in-Some.above.now in
    let e : c.args.layers.now ≡ l ∷ ls = search rules in
    let m : Layer = record c.in-Some.first.now { engine = c.mark_one.new.engine } in
    let on = goes_on T c.args.mark c.requires.ready.0 l m ls c.in-Ok.answer (subst (AreReadyFor T c.args.mark c.requires.ready.0) e c.requires.ready.1) (record { numbers = refl; behind = refl }) c.in-Ok.ensures.marked in
    let taken = subst (λ (rs : List Recognition). HaveTaken (flat_map (given_of (text_in T) (plans_of c.mark_one.new.engine.plans)) rs) ls c.give_found.new.above c.in_ok-flood-in-Some.flood) c.as_slice.ensures
    (subst (λ (p : Plans). HaveTaken (flat_map (given_of (text_in T) (plans_of p)) c.as_slice.result.now) ls c.give_found.new.above c.in_ok-flood-in-Some.flood) c.plans.ensures c.in_ok-flood-in-Some.ensures.taken) in
    (search rules, (within, on.ready c.in_ok-flood-in-Some.flood c.give_found.new.above taken))

pub returns-in_err-more-in-Some-clause-same : goal.returns-in_err-more-in-Some-clause-same
returns-in_err-more-in-Some-clause-same g t c =
    let T = c.args.symbols.now.texts in
    let l : Layer = c.in-Some.first.now in
    let ls : List Layer = c.in-Some.above.now in
    let e : c.args.layers.now ≡ l ∷ ls = search rules in
    let m : Layer = record c.in-Some.first.now { engine = c.mark_one.new.engine } in
    same_then c.args.layers.now (m ∷ c.give_found.new.above) (m ∷ c.mark_from.new.layers)
    (subst (λ (ks : List Layer). AllZip IsSameLayer ks (m ∷ c.give_found.new.above)) (sym e) (record { numbers = refl; behind = refl }, c.give_found.ensures.same))
    (record { numbers = refl; behind = refl }, c.mark_from.ensures.same)

pub returns-in_ok-more-in-Some-clause-same : goal.returns-in_ok-more-in-Some-clause-same
returns-in_ok-more-in-Some-clause-same g t c =
    let T = c.args.symbols.now.texts in
    let l : Layer = c.in-Some.first.now in
    let ls : List Layer = c.in-Some.above.now in
    let e : c.args.layers.now ≡ l ∷ ls = search rules in
    let m : Layer = record c.in-Some.first.now { engine = c.mark_one.new.engine } in
    same_then c.args.layers.now (m ∷ c.give_found.new.above) (m ∷ c.mark_from.new.layers)
    (subst (λ (ks : List Layer). AllZip IsSameLayer ks (m ∷ c.give_found.new.above)) (sym e) (record { numbers = refl; behind = refl }, c.give_found.ensures.same))
    (record { numbers = refl; behind = refl }, c.mark_from.ensures.same)

pub returns-in-None-clause-passed : goal.returns-in-None-clause-passed
returns-in-None-clause-passed g t c =
    let none : c.args.layers.now ≡ [] = empty_is c.args.layers.now c.in-None.ensures.cases in (
      [],
      sym (append-nil c.args.answers.now.items),
      λ w r. subst (λ (ls : List Layer). HavePassed c.args.symbols.now.texts c.args.mark w ls [] false) (sym none)
          (passed_none c.args.symbols.now.texts c.args.mark w (subst (AreReadyFor c.args.symbols.now.texts c.args.mark w) none r)),
    )

pub returns-in_ok-more-in-Some-clause-passed : goal.returns-in_ok-more-in-Some-clause-passed
returns-in_ok-more-in-Some-clause-passed g t c =
    let T = c.args.symbols.now.texts in
    let l : Layer = c.in-Some.first.now in
    let ls : List Layer = c.in-Some.above.now in
    let e : c.args.layers.now ≡ l ∷ ls = search rules in
    let m : Layer = record c.in-Some.first.now { engine = c.mark_one.new.engine } in
    let taken = subst (λ (rs : List Recognition). HaveTaken (flat_map (given_of (text_in T) (plans_of c.mark_one.new.engine.plans)) rs) ls c.give_found.new.above c.in_ok-flood-in-Some.flood) c.as_slice.ensures
    (subst (λ (p : Plans). HaveTaken (flat_map (given_of (text_in T) (plans_of p)) c.as_slice.result.now) ls c.give_found.new.above c.in_ok-flood-in-Some.flood) c.plans.ensures c.in_ok-flood-in-Some.ensures.taken) in
    let rest = c.in_ok-more-in-Some.ensures.passed in (
      c.in-Ok.answer ∷ rest.0,
      rest.1 ∙ ap (λ (as_ : List (List Recognition)). as_ ++ rest.0) c.in-Ok-push.ensures.items ∙ append_assoc c.args.answers.now.items (c.in-Ok.answer ∷ []) rest.0,
      λ w r. subst (HavePassed T c.args.mark w (m ∷ c.mark_from.new.layers) (c.in-Ok.answer ∷ rest.0)) (sym c.either.ensures)
          ((goes_on T c.args.mark w l m ls c.in-Ok.answer (subst (AreReadyFor T c.args.mark w) e r) (record { numbers = refl; behind = refl }) c.in-Ok.ensures.marked).passed
          c.in_ok-flood-in-Some.flood c.in_ok-more-in-Some.more c.give_found.new.above c.mark_from.new.layers rest.0 taken rest.2),
    )
