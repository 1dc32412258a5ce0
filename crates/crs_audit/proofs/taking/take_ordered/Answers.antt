use Rattle.crs_audit.proofs.Reading.{delays}
use Rattle.crs_audit.proofs.taking.take_ordered.Goals as goal

pub returns-in-Clock-clause-taken : goal.returns-in-Clock-clause-taken
returns-in-Clock-clause-taken c = rw c.in-Clock.is c.take_clock.ensures

pub returns-in-Finish-clause-taken : goal.returns-in-Finish-clause-taken
returns-in-Finish-clause-taken c = rw c.in-Finish.is c.take_end.ensures

pub returns-in-Delay-clause-taken : goal.returns-in-Delay-clause-taken
returns-in-Delay-clause-taken c = rw c.in-Delay.is (λ s fits sound. delays s c.args.names.now c.args.limit c.args.symbols.now c.args.run.now c.in-Delay.delay fits sound)
