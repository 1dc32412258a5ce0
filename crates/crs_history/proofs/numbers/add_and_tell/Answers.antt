use Rattle.crs_history.specs.ListNumbers.{step_of}
use Rattle.crs_history.proofs.ToldEdits.{steps_more}
use Rattle.crs_history.proofs.numbers.add_and_tell.Goals as goal

pub returns-clause-told : goal.returns-clause-told
returns-clause-told c =
    c.note.ensures (step_of c.add_to_tree.new.steps.entries)
    (steps_more c.args.steps.now.entries c.add_to_tree.new.steps.entries c.args.told.now c.add_to_tree.ensures.grows c.requires.told) c.in_ok-number.ensures.ok
