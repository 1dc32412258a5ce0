use Rattle.std.proofs.Common.{sym, ap, ◌∙◌}
use Rattle.crs_history.specs.Keyed.{digest_of}
use Rattle.crs_history.proofs.Keying.{none_counts}
use Rattle.crs_history.proofs.keyed.+digest_of.Goals as goal

pub returns-then-places-eq0 : goal.returns-then-places-eq0
returns-then-places-eq0 t c = sym (ap (λ n. digest_of n c.args.so_far c.args.known.now) c.if-places-eq0.true ∙ none_counts c.args.so_far c.args.known.now)
