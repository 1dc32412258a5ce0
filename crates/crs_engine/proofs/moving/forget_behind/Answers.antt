use Rattle.crs_engine.proofs.Forgetting.{what_is_left, left_in_order, left_before}
use Rattle.crs_engine.proofs.moving.forget_behind.Goals as goal

pub returns-clause-order : goal.returns-clause-order
returns-clause-order c = λ waiting. left_in_order _ c.args.history.now.entries c.forget_into.new.self.entries waiting
    (what_is_left c.args.history.now c.forget_into.new.self _ c.forget_into.ensures.low c.forget_into.ensures.held)

pub returns-clause-dated : goal.returns-clause-dated
returns-clause-dated c = left_before _ c.args.history.now.entries c.forget_into.new.self.entries
    (what_is_left c.args.history.now c.forget_into.new.self _ c.forget_into.ensures.low c.forget_into.ensures.held)
