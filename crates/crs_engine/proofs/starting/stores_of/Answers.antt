use Rattle.std.proofs.Common.{rules}
use Rattle.crs_engine.proofs.Beginning.{started_more}
use Rattle.crs_engine.proofs.starting.stores_of.Goals as goal

pub loop-number-preserved : goal.loop-number-preserved
loop-number-preserved c =
    started_more c.args.focus c.args.ranks.now.value.items c.loop-number.number c.args.plans.now c.loop-number.stores.items c.push.new.self.items c.index-plans-number.result c.in_ok-with_ranks.field-0 (search rules) c.index-plans-number.is (search rules) c.loop-number.invariant (search rules) (search rules) (search rules) c.in_ok-own.own.value c.in_ok-with_ranks.ensures.plan c.in_ok-with_ranks.ensures.focus c.in_ok-with_ranks.ensures.stands
