use Rattle.std.proofs.Common.{rules}
use Rattle.crs_base.specs.Seen.{entry_of}
use Rattle.crs_model.specs.Matching.{PatternIs}
use Rattle.crs_model.specs.SeenModels.{chronicle_of, pattern_of}
use Rattle.crs_model.proofs.Matches.{met_yes}
use Rattle.crs_instance.proofs.Pushes.{bound_if}
use Rattle.crs_instance.proofs.instance.matched.Goals as goal

pub returns-clause-bound : goal.returns-clause-bound
returns-clause-bound g c =
    let p = pattern_of c.args.pattern.now in
    let x = entry_of c.args.entry.now in
    let met = met_yes (λ look. PatternIs look p x) c.args.binding.now c.bind_if_fits.new.binding c.bind_if_fits.result (search rules) c.bind_if_fits.ensures.met in
    bound_if (chronicle_of c.args.chronicle.now) p c.args.binding.now c.bind_if_fits.new.binding x c.allowed.result met.0 met.1 c.allowed.ensures
