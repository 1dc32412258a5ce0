use Rattle.std.proofs.Common.{◌∙◌, map}
use Rattle.std.specs.List.{list_any}
use Rattle.crs_parse.specs.Faults as faults
use Rattle.crs_grammar.specs.SeenStatements as seen
use Rattle.crs_parse.proofs.Chains.{either_first, either_last}
use Rattle.crs_parse.proofs.builder.Written.lacks_variables.Goals as goal

pub returns-then-windows_lack : goal.returns-then-windows_lack
returns-then-windows_lack c = either_first _ _ _
    (c.windows_lack.ensures ∙ (λ i. list_any (λ w. faults.body_lacks (map (λ t. t.now) (c.deref.ensures.value i)) w.body) (map seen.window_of (c.deref-2.ensures.value i)))) c.if-windows_lack.true

pub returns-else-windows_lack : goal.returns-else-windows_lack
returns-else-windows_lack c = either_last _ _ _ _
    (c.windows_lack.ensures ∙ (λ i. list_any (λ w. faults.body_lacks (map (λ t. t.now) (c.deref.ensures.value i)) w.body) (map seen.window_of (c.deref-2.ensures.value i)))) c.if-windows_lack.false
    (c.emits_lack.ensures ∙ (λ i. list_any (λ e. faults.pattern_lacks (map (λ t. t.now) (c.deref-else-windows_lack.ensures.value i)) e.pattern) (map seen.emission_of (c.deref-else-windows_lack-2.ensures.value i))))
