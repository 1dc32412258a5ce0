use Rattle.crs_feeds.proofs.Agreeing.{merged_runs_agree}
use Rattle.crs_feeds.proofs.laws.merged_runs_agree.Goals as goal

pub returns : goal.returns
returns c = merged_runs_agree
