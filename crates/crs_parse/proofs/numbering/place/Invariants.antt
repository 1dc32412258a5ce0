use Rattle.std.proofs.Common.{◌≡◌, ◌+◌, drop, map}
use Rattle.crs_parse.specs.Meant as meant
use Rattle.crs_parse.proofs.numbering.place.Given as goal

abbrev pub invariant-loop-i : goal.invariant-loop-i
invariant-loop-i l = l.i + meant.place_in (map (λ t. t.now) (drop l.i l.texts)) l.text ≡ meant.place_in (map (λ t. t.now) l.texts) l.text
