use Rattle.std.proofs.Common.{rules}
use Rattle.crs_engine.proofs.Beginning.{new_engine, new_stands, plans_proper}
use Rattle.crs_engine.proofs.engine.Engine.with_ranks.Goals as goal

pub returns-clause-stands : goal.returns-clause-stands
returns-clause-stands c = new_stands c.args.plans c.in_ok-stores.stores.items c.args.focus c.args.limit (search rules) (search rules) c.with_look_ups-history.result c.with_look_ups-history.ensures c.new-buffer.result c.new-buffer.ensures c.new-fresh.result c.new-fresh.ensures

pub invariant_of-result : goal.invariant_of-result
invariant_of-result c = (new_engine c.args.plans c.in_ok-stores.stores.items c.args.focus c.args.limit (search rules) (plans_proper c.args.plans.plans c.requires.proper) c.requires.reach c.ranges.limit.fits c.with_look_ups-history.result c.with_look_ups-history.ensures c.new-buffer.result c.new-buffer.ensures c.new-fresh.result c.new-fresh.ensures, record { prompt_is = search rules; tells = search rules }, (c.in_ok-stores.ensures {u = tt}).ranks)
