use Rattle.std.proofs.Common.{length}
use Rattle.crs_engine.proofs.starting.+has_prompt.Given as goal

abbrev pub decreases-has_prompt : goal.decreases-has_prompt
decreases-has_prompt l = length l.plans.now
