use Rattle.std.proofs.Common.{◌≡◌, ◌++◌, drop, map}
use Rattle.crs_grammar.specs.SeenStatements as seen
use Rattle.crs_parse.proofs.numbering.points.Given as goal

-- those so far and those of what is left
abbrev pub invariant-loop-e : goal.invariant-loop-e
invariant-loop-e l = map (λ t. t.now) l.out.items ++ map (λ e. e.point) (map seen.event_of (drop l.e-index l.c.events.items)) ≡ map (λ e. e.point) (map seen.event_of l.c.events.items)
