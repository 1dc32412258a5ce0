use Rattle.crs_base.specs.Seen.{entry_of}
use Rattle.crs_core_tests.proofs.Fixture.{answered_of}
use Rattle.crs_core_tests.proofs.instances.bind_apart.Goals as goal

pub returns : goal.returns
returns g c = answered_of c.args.plan.now c.args.instance.now c.bind.new.self 0 (entry_of c.args.entry.value) c.in_ok-fit.fit c.requires.root.of c.in_ok-fit.ensures.ok
