use Rattle.crs_model.specs.declared.recognition.Mark.TheVariants.{Finish}
use Rattle.crs_engine.proofs.Marking.{again_by}
use Rattle.crs_engine.proofs.engine.Engine.finish.Goals as goal

pub returns-clause-again : goal.returns-clause-again
returns-clause-again g c =
    again_by c.mark.result
    (record { plans = c.self.inside.plans; stores = c.self.inside.stores.items; history = c.self.inside.entries.history; waiting = c.self.inside.entries.buffer; fresh = c.self.inside.fresh; delay = c.self.inside.delay; last = c.self.inside.last; horizon = c.self.inside.horizon; accepted = c.self.inside.accepted; marked = c.self.inside.marked; limit = c.self.inside.limit; focus = c.self.inside.focus; stopped = c.self.inside.stopped })
    c.args.self.now c.mark.new.self Finish c.self.view_is c.self.invariant.0 c.mark.ensures.moved c.mark.ensures.marked
