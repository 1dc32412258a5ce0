use Rattle.crs_history.specs.Shortcuts.{pair_of}
use Rattle.crs_history.proofs.shortcuts.Shortcuts.add_and_tell.Goals as goal

pub returns-clause-right : goal.returns-clause-right
returns-clause-right c = (c.note.ensures (pair_of c.add_from.new.steps.entries) c.add_from.ensures.right.0 c.in_ok-number.ensures.ok, c.add_from.ensures.right.1)
