use Rattle.std.proofs.Common.{List, subst, sym}
use Rattle.std.specs.Prelude.{Option}
use Rattle.crs_base.specs.declared.symbols.Sym.{Sym}
use Rattle.crs_base.specs.Seen.{entry_of}
use Rattle.crs_model.specs.Bindings.{look_of, IsMet}
use Rattle.crs_model.specs.Matching.{PatternIs}
use Rattle.crs_model.specs.SeenModels.{pattern_of}
use Rattle.crs_model.specs.Verdicts.{PatternIsBound}
use Rattle.crs_model.proofs.FitSays.{accepts_says, pattern_below}
use Rattle.crs_model.proofs.matching.accepts.Goals as goal

pub match_pattern-requires : goal.match_pattern-requires
match_pattern-requires c =
    pattern_below c.copy-next.result (pattern_of c.args.pattern.now) (subst (λ (b : List (Option Sym)). PatternIsBound (look_of b) (pattern_of c.args.pattern.now)) (sym c.copy-next.ensures) c.requires)

pub returns : goal.returns
returns c =
    accepts_says (pattern_of c.args.pattern.now) c.args.binding.now (entry_of c.args.entry.now) c.match_pattern.new.binding c.match_pattern.result c.requires
    (subst (λ (b : List (Option Sym)). IsMet (λ look. PatternIs look (pattern_of c.args.pattern.now) (entry_of c.args.entry.now)) b c.match_pattern.new.binding c.match_pattern.result) c.copy-next.ensures c.match_pattern.ensures)
