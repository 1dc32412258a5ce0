use Rattle.crs_commands.proofs.Drilled.{summed}
use Rattle.crs_commands.proofs.drilling.summary_over.Goals as goal

pub returns : goal.returns
returns c =
    summed c.args.log.now c.args.session.now c.take_log.new.session c.summary_of.result c.requires.uncounted (c.in_ok-take_log.ensures {u = tt})
    c.summary_of.ensures
