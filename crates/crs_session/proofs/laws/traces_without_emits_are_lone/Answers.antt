use Rattle.crs_session.proofs.Lone.{traces_without_emits_are_lone}
use Rattle.crs_session.proofs.laws.traces_without_emits_are_lone.Goals as goal

pub returns : goal.returns
returns c = traces_without_emits_are_lone
