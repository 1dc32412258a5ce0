use Rattle.std.proofs.Common.{◌++◌, subst}
use Rattle.crs_base.specs.Entry.{IsInKeyOrder}
use Rattle.crs_buffer.proofs.Queued.{put_sorted, put_shown}
use Rattle.crs_buffer.proofs.Sorted.{ascends}
use Rattle.crs_buffer.proofs.buffer.Buffer.put.Goals as goal

pub invariant_of-self : goal.invariant_of-self
invariant_of-self c = put_sorted c.put_at.result (record { entry = c.args.entry }) (c.self.inside.set.keys ++ c.self.inside.queue.items)
    (c.put_at.new.set.keys ++ c.put_at.new.queue.items) c.put_at.ensures.ok c.put_at.ensures.err c.self.invariant

pub invariant_of-self-in-Less : goal.invariant_of-self-in-Less
invariant_of-self-in-Less c = put_sorted c.put_before.result (record { entry = c.args.entry }) (c.self.inside.set.keys ++
    c.self.inside.queue.items) (c.put_before.new.set.keys ++ c.put_before.new.queue.items) c.put_before.ensures.ok
    c.put_before.ensures.err c.self.invariant

pub returns-in-Greater-clause-ok : goal.returns-in-Greater-clause-ok
returns-in-Greater-clause-ok c = put_shown c.put_at.result (record { entry = c.args.entry }) (c.self.inside.set.keys ++
    c.self.inside.queue.items) (c.put_at.new.set.keys ++ c.put_at.new.queue.items) c.args.self.now c.put_at.ensures.ok c.self.view_is

pub returns-in-Greater-clause-sorted : goal.returns-in-Greater-clause-sorted
returns-in-Greater-clause-sorted c = ascends (c.put_at.new.set.keys ++ c.put_at.new.queue.items) (put_sorted c.put_at.result
    (record { entry = c.args.entry }) (c.self.inside.set.keys ++ c.self.inside.queue.items) (c.put_at.new.set.keys ++
    c.put_at.new.queue.items) c.put_at.ensures.ok c.put_at.ensures.err c.self.invariant)

pub returns-in-Equal-clause-sorted : goal.returns-in-Equal-clause-sorted
returns-in-Equal-clause-sorted c = subst IsInKeyOrder c.self.view_is (ascends (c.self.inside.set.keys ++ c.self.inside.queue.items)
    c.self.invariant)

pub returns-in-Less-clause-ok : goal.returns-in-Less-clause-ok
returns-in-Less-clause-ok c = put_shown c.put_before.result (record { entry = c.args.entry }) (c.self.inside.set.keys ++
    c.self.inside.queue.items) (c.put_before.new.set.keys ++ c.put_before.new.queue.items) c.args.self.now c.put_before.ensures.ok
    c.self.view_is

pub returns-in-Less-clause-sorted : goal.returns-in-Less-clause-sorted
returns-in-Less-clause-sorted c = ascends (c.put_before.new.set.keys ++ c.put_before.new.queue.items) (put_sorted c.put_before.result
    (record { entry = c.args.entry }) (c.self.inside.set.keys ++ c.self.inside.queue.items) (c.put_before.new.set.keys ++
    c.put_before.new.queue.items) c.put_before.ensures.ok c.put_before.ensures.err c.self.invariant)
