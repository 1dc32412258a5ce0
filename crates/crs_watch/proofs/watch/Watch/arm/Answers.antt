use Rattle.std.proofs.Common.{subst}
use Rattle.crs_watch.specs.Watching.{Arms}
use Rattle.crs_watch.proofs.Armed.{sized_put}
use Rattle.crs_watch.proofs.watch.Watch.arm.Goals as goal

pub invariant_of-self-2 : goal.invariant_of-self-2
invariant_of-self-2 g c =
    sized_put g.K.Ord.cmp (c.args.name, c.args.id, c.args.window) c.args.stretch c.self.inside.armed.entries c.insert.new.self.entries c.self.invariant
    (c.ranges.id.fits, c.ranges.window.fits) c.in_ok-insert.ensures.entries

pub returns-clause-armed : goal.returns-clause-armed
returns-clause-armed g c =
    subst (λ es. Arms g.K.Ord.cmp (c.args.name, c.args.id, c.args.window) c.args.stretch es c.insert.new.self.entries) c.self.view_is c.in_ok-insert.ensures.updates.0
