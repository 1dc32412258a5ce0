use Rattle.std.proofs.Common.{◌≡◌, ◌∙◌, ◌++◌, List, ap, subst}
use Rattle.crs_model.specs.declared.recognition.Recognition.{Recognition}
use Rattle.crs_layers.specs.Gathering.{GathersAll}
use Rattle.crs_layers.proofs.advancing.mark_all.Goals as goal

pub returns-clause-passed : goal.returns-clause-passed
returns-clause-passed g c =
    let q = c.in_ok-flood.ensures.passed in
    let items : c.mark_from.new.answers.items ≡ q.0 = q.1 ∙ ap (λ (xs : List (List Recognition)). xs ++ q.0) c.new-answers.ensures.items in
    (q.0, subst (λ (xs : List (List Recognition)). GathersAll c.mark_from.new.layers xs c.in_ok-list.list) items c.in_ok-list.ensures, q.2)
