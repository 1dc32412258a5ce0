use Rattle.crs_engine.proofs.Beginning.{AreStartedBelow}
use Rattle.crs_engine.proofs.starting.stores_of.Given as goal

abbrev pub invariant-loop-number : goal.invariant-loop-number
invariant-loop-number l = AreStartedBelow l.focus l.ranks.value.items l.number l.plans l.stores.items
