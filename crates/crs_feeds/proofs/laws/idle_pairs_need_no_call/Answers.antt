use Rattle.crs_feeds.proofs.Standing.{idle_pairs_need_no_call}
use Rattle.crs_feeds.proofs.laws.idle_pairs_need_no_call.Goals as goal

pub returns : goal.returns
returns c = idle_pairs_need_no_call
