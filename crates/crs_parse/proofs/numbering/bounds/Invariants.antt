use Rattle.std.proofs.Common.{◌≡◌, ◌++◌, drop, map}
use Rattle.std.specs.List.{flat_map, AllByRecursion}
use Rattle.crs_parse.specs.Meant as meant
use Rattle.crs_parse.specs.HeldStatements as held
use Rattle.crs_grammar.specs.SeenStatements as seen
use Rattle.crs_parse.proofs.numbering.bounds.Given as goal

-- those so far and those of what is left
abbrev pub invariant-loop-d : goal.invariant-loop-d
invariant-loop-d l = record {
  told : l.out ++ flat_map (meant.bounds_of (map (λ t. t.now) l.points)) (map seen.distance_of (drop l.d-index l.distances)) ≡ flat_map (meant.bounds_of (map (λ t. t.now) l.points)) (map seen.distance_of l.distances);
  held : AllByRecursion held.AreNear (map seen.distance_of (drop l.d-index l.distances));
}
