use Rattle.std.proofs.Common.{◌≡◌, ◌++◌, map, drop}
use Rattle.crs_import.specs.Records.{with_comma}
use Rattle.crs_import.proofs.writing.push_args.Given as goal

abbrev pub invariant-loop-b : goal.invariant-loop-b
invariant-loop-b l = l.out.items ++ map with_comma (drop l.b-index l.args) ≡ l.initial.out.items ++ map with_comma l.args
