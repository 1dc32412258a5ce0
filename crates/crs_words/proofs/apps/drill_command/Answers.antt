use Rattle.crs_words.proofs.Adding.{added}
use Rattle.crs_words.proofs.apps.drill_command.Goals as goal

pub returns : goal.returns
returns c =
    added _ _ _ _ _ c.in_ok-command.ensures c.position_of-2.ensures.local c.position_of-2.ensures.rule
    (added _ _ _ _ _ c.in_ok-arg-2.ensures c.position_of.ensures.local c.position_of.ensures.rule
    (added _ _ _ _ _ c.in_ok-arg.ensures c.flag_of.ensures.local c.flag_of.ensures.rule c.plain_command.ensures))
