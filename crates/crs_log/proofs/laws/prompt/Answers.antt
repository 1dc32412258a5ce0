use Rattle.crs_log.proofs.Prompt.{told_whole}
use Rattle.crs_log.proofs.laws.prompt.Goals as goal

pub returns : goal.returns
returns c = λ limit fed told r h none. told_whole limit fed told r h none.1
