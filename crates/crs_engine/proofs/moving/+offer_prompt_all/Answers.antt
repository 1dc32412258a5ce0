use Rattle.std.proofs.Common.{rules}
use Rattle.crs_engine.proofs.Settling.{same_first}
use Rattle.crs_engine.proofs.moving.+offer_prompt_all.Goals as goal

pub returns-in_err-offer_prompt_one-in-Some-clause-same : goal.returns-in_err-offer_prompt_one-in-Some-clause-same
returns-in_err-offer_prompt_one-in-Some-clause-same g t c = same_first c.args.stores.now c.in-Some.first.now c.offer_prompt_one.new.store c.in-Some.rest.now (search rules) c.offer_prompt_one.ensures.same
