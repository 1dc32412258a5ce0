use Rattle.std.proofs.Common.{length}
use Rattle.crs_engine.proofs.moving.+offer_prompt_all.Given as goal

abbrev pub decreases-offer_prompt_all : goal.decreases-offer_prompt_all
decreases-offer_prompt_all g l = length l.stores.now
