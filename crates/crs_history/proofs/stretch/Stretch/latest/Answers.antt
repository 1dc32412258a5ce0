use Rattle.std.proofs.Common.{◌∷◌, [], sym, ap, ◌∙◌}
use Rattle.std.proofs.lemmas.List.{map-append}
use Rattle.crs_base.specs.Seen.{entry_of}
use Rattle.crs_history.specs.Runs.{changes_of}
use Rattle.crs_history.proofs.stretch.Stretch.latest.Goals as goal

pub returns-in-Some-clause-some : goal.returns-in-Some-clause-some
returns-in-Some-clause-some c =
    let front = c.self.inside.front.now in
    let back = c.self.inside.back.now in
    let x = c.in-Some.change.now in
    let p = c.in-Some.ensures.some in (
      changes_of p.0,
      sym c.self.view_is ∙ sym (map-append (λ c. entry_of c.entry.value) front back) ∙ ap changes_of p.1 ∙ map-append (λ c. entry_of c.entry.value) p.0 (x ∷ []),
    )

pub returns-in-None-clause-none : goal.returns-in-None-clause-none
returns-in-None-clause-none c = λ _.
    let front = c.self.inside.front.now in
    let back = c.self.inside.back.now in
    sym c.self.view_is ∙ sym (map-append (λ c. entry_of c.entry.value) front back) ∙ ap changes_of (c.last_of.ensures.none c.in-None.is)
