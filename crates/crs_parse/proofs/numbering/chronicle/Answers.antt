use Rattle.std.proofs.Common.{◌∙◌, map}
use Rattle.crs_parse.specs.Meant as meant
use Rattle.crs_grammar.specs.SeenStatements as seen
use Rattle.crs_parse.proofs.numbering.chronicle.Goals as goal

pub returns : goal.returns
returns c = λ i. record {
  name = c.symbol.ensures i;
  prompt = c.args.closed.now.chronicle.prompt;
  line = c.args.closed.now.line;
  events = (c.in_ok-events.ensures ∙ (λ j. map (meant.event_of (map (λ t. t.now) (c.deref.ensures.value j))) (map seen.event_of (c.deref-2.ensures.value j)))) i;
  free = (c.in_ok-free.ensures ∙ (λ j. map (λ t. t.now) (c.deref-3.ensures.value j))) i;
  bounds = c.in_ok-bounds.ensures.bounds i;
  variables = (c.in_ok-variables.ensures ∙ (λ j. map (λ t. t.now) (c.deref-4.ensures.value j))) i;
  sets = c.in_ok-sets.ensures.sets i;
  differs = c.in_ok-sets.ensures.differs i;
  windows = c.in_ok-bounds.ensures.windows i;
  emits = c.in_ok-bounds.ensures.emits i;
}
