use Rattle.std.proofs.Common.{rules, List, map, ap}
use Rattle.std.specs.Prelude.{Some, None, cond}
use Rattle.crs_model.specs.declared.pattern.Term.{Term as CodeTerm}
use Rattle.crs_base.specs.Seen.{entry_of}
use Rattle.crs_model.specs.SeenModels.{term_of, pattern_of}
use Rattle.crs_model.proofs.FitSays.{pattern_then}
use Rattle.crs_model.proofs.Matches.{met_yes}
use Rattle.crs_model.proofs.matching.match_pattern.Goals as goal

pub returns : goal.returns
returns c =
    pattern_then (pattern_of c.args.pattern.now) c.args.binding.now c.match_terms.new.binding (entry_of c.args.entry.now) (cond c.match_change.result (Some c.match_change.new.binding) None) (map term_of c.as_slice.result.now) c.as_slice-2.result.now
    (ap (λ (t : List CodeTerm). map term_of t) c.as_slice.ensures) c.as_slice-2.ensures (search rules) (met_yes _ _ _ c.match_terms.result (search rules) c.match_terms.ensures) c.match_change.ensures
