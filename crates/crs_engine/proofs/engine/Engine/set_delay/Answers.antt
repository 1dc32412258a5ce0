use Rattle.crs_engine.proofs.Marking.{delayed}
use Rattle.crs_engine.proofs.engine.Engine.set_delay.Goals as goal

pub returns-clause-stands : goal.returns-clause-stands
returns-clause-stands c =
    delayed (record { plans = c.self.inside.plans; stores = c.self.inside.stores.items; history = c.self.inside.entries.history; waiting = c.self.inside.entries.buffer; fresh = c.self.inside.fresh; delay = c.self.inside.delay; last = c.self.inside.last; horizon = c.self.inside.horizon; accepted = c.self.inside.accepted; marked = c.self.inside.marked; limit = c.self.inside.limit; focus = c.self.inside.focus; stopped = c.self.inside.stopped })
    c.args.self.now c.args.d c.self.view_is
