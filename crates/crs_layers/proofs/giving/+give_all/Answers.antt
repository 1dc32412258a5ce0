use Rattle.std.proofs.Common.{rules}
use Rattle.crs_layers.proofs.Logging.{same_first}
use Rattle.crs_layers.proofs.giving.+give_all.Goals as goal

pub returns-in_err-flood-in-Some-clause-same : goal.returns-in_err-flood-in-Some-clause-same
returns-in_err-flood-in-Some-clause-same t c =
    same_first c.args.above.now c.in-Some.first.now c.give_one.new.layer c.in-Some.rest.now (search rules) c.give_one.ensures.same
