use Rattle.std.proofs.Common.{vec_len}
use Rattle.crs_store.proofs.Ripened.{AreTaken, AreAmongRipe}
use Rattle.crs_store.proofs.ripening.take_ripe.Given as goal

abbrev pub invariant-loop-place : goal.invariant-loop-place
invariant-loop-place l = AreTaken l.judging.plan.now l.judging.h l.number l.mark l.fn.slots l.slots l.found.items × AreAmongRipe l.judging.plan.now l.judging.h l.slots l.ripe.items

abbrev pub decreases-loop-place : goal.decreases-loop-place
decreases-loop-place l = vec_len l.ripe
