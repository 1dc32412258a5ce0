use Rattle.crs_engine.proofs.Settling.{same_on, ranked_on}
use Rattle.crs_engine.proofs.Passed.{told_on}
use Rattle.crs_engine.proofs.moving.mark_all.Goals as goal

pub returns-in_err-settle-clause-same : goal.returns-in_err-settle-clause-same
returns-in_err-settle-clause-same g c = same_on c.args.stores.now c.offer_fresh.new.stores c.settle.new.stores c.offer_fresh.ensures.same c.settle.ensures.same

pub returns-in_err-answer-clause-same : goal.returns-in_err-answer-clause-same
returns-in_err-answer-clause-same g c = same_on c.args.stores.now c.offer_fresh.new.stores c.advance.new.stores c.offer_fresh.ensures.same (same_on c.offer_fresh.new.stores c.settle.new.stores c.advance.new.stores c.settle.ensures.same c.advance.ensures.same)

pub returns-clause-same : goal.returns-clause-same
returns-clause-same g c = same_on c.args.stores.now c.offer_fresh.new.stores c.advance.new.stores c.offer_fresh.ensures.same (same_on c.offer_fresh.new.stores c.settle.new.stores c.advance.new.stores c.settle.ensures.same c.advance.ensures.same)

pub settle-requires-clause-ranks : goal.settle-requires-clause-ranks
settle-requires-clause-ranks g c = ranked_on c.args.names.now.ranks.value.items c.args.stores.now c.offer_fresh.new.stores c.offer_fresh.ensures.same c.requires.ranks

pub settle-requires-clause-told : goal.settle-requires-clause-told
settle-requires-clause-told g c = told_on c.args.names.now.concerned c.args.stores.now c.offer_fresh.new.stores c.offer_fresh.ensures.same c.requires.told
