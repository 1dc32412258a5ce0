use Rattle.crs_base.specs.Seen.{entry_of}
use Rattle.crs_layers.proofs.Taking.{taken_logged, room_left}
use Rattle.crs_layers.proofs.giving.give_one.Goals as goal

pub returns-clause-taken : goal.returns-clause-taken
returns-clause-taken c =
    taken_logged (entry_of c.in_ok-copy.copy) (entry_of c.args.entry.now) c.args.layer.now c.log_one.new.layer c.in_ok-copy.ensures c.requires.going
    (room_left c.is_full.result c.args.layer.now c.is_full.ensures c.if-is_full.false c.requires.going.few) c.requires.due c.requires.date c.log_one.ensures.same ((c.in_ok-log_one.ensures {u = tt}).logged)
