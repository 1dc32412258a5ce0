use Rattle.std.proofs.Common.{arith, length, ◌<◌}
use Rattle.crs_index.specs.Rows.{rows}
use Rattle.crs_index.proofs.BucketRows.{length-rows}
use Rattle.crs_index.proofs.States.{puts, put_kept}
use Rattle.crs_index.proofs.index.Index.put.Goals as goal

pub push_at-requires : goal.push_at-requires
push_at-requires c =
    let found = rw (← c.self.view_is) at c.in-Ok.ensures.ok in
    let within : c.in-Ok.number < length (rows c.self.inside.buckets.items) = c.self.invariant.sound.below c.args.key c.in-Ok.number found in
    omega (arith, length-rows c.self.inside.buckets.items)

pub invariant_of-self-2 : goal.invariant_of-self-2
invariant_of-self-2 c =
    let found = rw (← c.self.view_is) at c.in-Ok.ensures.ok in
    put_kept c.self.inside.numbers (rows c.self.inside.buckets.items) _ _ c.args.key c.in-Ok.number _ c.self.invariant found c.in-Ok-push_at.ensures.ok

pub returns-clause-ok : goal.returns-clause-ok
returns-clause-ok c =
    let same = rw (← c.self.view_is) at c.in-Ok.ensures.same in
    let found = rw (← c.self.view_is) at c.in-Ok.ensures.ok in
    puts _ _ _ _ _ _ same c.self.invariant.sound found c.in-Ok-push_at.ensures.ok
