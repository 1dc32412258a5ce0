use Rattle.std.proofs.Common.{◌∙◌, map}
use Rattle.crs_parse.specs.Meant as meant
use Rattle.crs_parse.specs.SeenReading as see
use Rattle.crs_parse.proofs.numbering.on_variables.Goals as goal

pub returns-clause-sets : goal.returns-clause-sets
returns-clause-sets c = c.in_ok-sets.ensures ∙ (λ j. map (meant.set_of (map (λ t. t.now) (c.deref.ensures.value j))) (map see.set_of (c.deref-2.ensures.value j)))

pub returns-clause-differs : goal.returns-clause-differs
returns-clause-differs c = c.in_ok-differs.ensures ∙ (λ j. map (meant.differ_of (map (λ t. t.now) (c.deref-3.ensures.value j))) (map (λ d. (d.0.now, d.1.now)) (c.deref-4.ensures.value j)))
