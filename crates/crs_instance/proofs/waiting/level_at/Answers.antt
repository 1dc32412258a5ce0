use Rattle.crs_instance.proofs.Deadline.{level_is}
use Rattle.crs_instance.proofs.waiting.level_at.Goals as goal

pub returns-then-focus : goal.returns-then-focus
returns-then-focus c = level_is c.args.events.now c.args.place c.index-events-place.result c.args.focus c.if-focus.true c.requires
