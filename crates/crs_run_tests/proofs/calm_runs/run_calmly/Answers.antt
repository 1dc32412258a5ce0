use Rattle.std.proofs.Common.{refl}
use Rattle.crs_run_tests.proofs.Calmly.{none_rose, completes_calmly}
use Rattle.crs_run_tests.proofs.calm_runs.run_calmly.Goals as goal

pub returns : goal.returns
returns c = completes_calmly _ _ _ _ _ (c.run_with.ensures.complete refl) none_rose
