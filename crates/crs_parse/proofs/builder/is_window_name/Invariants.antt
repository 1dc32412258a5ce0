use Rattle.std.proofs.Common.{◌≡◌, drop, map}
use Rattle.std.specs.List.{list_any}
use Rattle.crs_parse.specs.Faults as faults
use Rattle.crs_grammar.specs.SeenStatements as seen
use Rattle.crs_parse.proofs.builder.is_window_name.Given as goal

-- the answer for what is left is the answer for all
abbrev pub invariant-loop-w : goal.invariant-loop-w
invariant-loop-w l = list_any (λ w. faults.is_of (faults.body_names w.body) l.name) (map seen.window_of (drop l.w-index l.windows)) ≡ list_any (λ w. faults.is_of (faults.body_names w.body) l.name) (map seen.window_of l.windows)
