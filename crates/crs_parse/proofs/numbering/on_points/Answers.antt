use Rattle.std.proofs.Common.{◌∙◌, map}
use Rattle.std.specs.List.{flat_map}
use Rattle.crs_parse.specs.Meant as meant
use Rattle.crs_parse.specs.SeenReading as see
use Rattle.crs_grammar.specs.SeenStatements as seen
use Rattle.crs_parse.proofs.Points.{points_few}
use Rattle.crs_parse.proofs.numbering.on_points.Goals as goal

pub bounds-requires-clause-few : goal.bounds-requires-clause-few
bounds-requires-clause-few c = points_few (λ t. t.now) c.in_ok-points.points.items c.deref.result.now (see.written_of c.args.c.now) c.deref.ensures.value c.in_ok-points.ensures c.requires.few_points

pub windows-requires-clause-few_points : goal.windows-requires-clause-few_points
windows-requires-clause-few_points c = points_few (λ t. t.now) c.in_ok-points.points.items c.deref-4.result.now (see.written_of c.args.c.now) c.deref-4.ensures.value c.in_ok-points.ensures c.requires.few_points

pub returns-clause-bounds : goal.returns-clause-bounds
returns-clause-bounds c = c.in_ok-bounds.ensures ∙ (λ j. flat_map (meant.bounds_of (map (λ t. t.now) (c.deref.ensures.value j))) (map seen.distance_of (c.deref-2.ensures.value j)))
    ∙ (λ j. flat_map (meant.bounds_of (c.in_ok-points.ensures j)) (map seen.distance_of c.args.c.now.bounds.items))

pub returns-clause-windows : goal.returns-clause-windows
returns-clause-windows c = c.in_ok-windows.ensures ∙ (λ j. map (meant.window_of (map (λ t. t.now) (c.deref-3.ensures.value j)) (map (λ t. t.now) (c.deref-4.ensures.value j))) (map seen.window_of (c.deref-5.ensures.value j)))
    ∙ (λ j. map (meant.window_of (map (λ t. t.now) c.args.c.now.variables.items) (c.in_ok-points.ensures j)) (map seen.window_of c.args.c.now.windows.items))

pub emits-requires-clause-few_points : goal.emits-requires-clause-few_points
emits-requires-clause-few_points c = points_few (λ t. t.now) c.in_ok-points.points.items c.deref-7.result.now (see.written_of c.args.c.now) c.deref-7.ensures.value c.in_ok-points.ensures c.requires.few_points

pub returns-clause-emits : goal.returns-clause-emits
returns-clause-emits c = c.in_ok-emits.ensures ∙ (λ j. map (meant.emit_of (map (λ t. t.now) (c.deref-6.ensures.value j)) (map (λ t. t.now) (c.deref-7.ensures.value j))) (map seen.emission_of (c.deref-8.ensures.value j)))
    ∙ (λ j. map (meant.emit_of (map (λ t. t.now) c.args.c.now.variables.items) (c.in_ok-points.ensures j)) (map seen.emission_of c.args.c.now.emits.items))
