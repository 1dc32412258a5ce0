use Rattle.crs_store.proofs.Noting.{sweeps_keep}
use Rattle.crs_store.proofs.holding.sweep_waiting.Goals as goal

pub returns-then-is_crowded : goal.returns-then-is_crowded
returns-then-is_crowded c = sweeps_keep c.args.waiting.now c.sweep.new.self c.args.serials.now c.sweep.ensures
