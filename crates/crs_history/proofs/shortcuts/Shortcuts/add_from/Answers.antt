use Rattle.crs_history.proofs.ToldEdits.{pairs_more}
use Rattle.crs_history.proofs.shortcuts.Shortcuts.add_from.Goals as goal

pub returns-clause-right : goal.returns-clause-right
returns-clause-right c = (pairs_more c.args.steps.now.entries c.add_from.new.steps.entries c.args.self.now.pairs c.add_from.ensures.grows c.requires.right.0, c.add_from.ensures.told)
