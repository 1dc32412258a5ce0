use Rattle.crs_history.specs.ListNumbers.{step_of}
use Rattle.crs_history.specs.Shortcuts.{pair_of}
use Rattle.crs_history.proofs.shortcuts.Shortcuts.new.Goals as goal

pub returns : goal.returns
returns c = λ steps. (c.new.ensures (pair_of steps), c.new-2.ensures (step_of steps))
