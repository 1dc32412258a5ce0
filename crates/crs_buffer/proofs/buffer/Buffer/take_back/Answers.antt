use Rattle.std.proofs.Common.{◌++◌, ap, ◌∙◌}
use Rattle.crs_buffer.specs.Entries.{without_arrival}
use Rattle.crs_buffer.proofs.Dropped.{sorted_without, entries_without}
use Rattle.crs_buffer.proofs.Sorted.{ascends}
use Rattle.crs_buffer.proofs.buffer.Buffer.take_back.Goals as goal

pub invariant_of-self : goal.invariant_of-self
invariant_of-self c = sorted_without c.args.arrival (c.self.inside.set.keys ++ c.self.inside.queue.items) _ c.drop_arrival.ensures c.self.invariant

pub returns-clause-rest : goal.returns-clause-rest
returns-clause-rest c =
    entries_without c.args.arrival (c.self.inside.set.keys ++ c.self.inside.queue.items) _ c.drop_arrival.ensures
    ∙ ap (without_arrival c.args.arrival) c.self.view_is

pub returns-clause-sorted : goal.returns-clause-sorted
returns-clause-sorted c = ascends _ (sorted_without c.args.arrival (c.self.inside.set.keys ++ c.self.inside.queue.items) _ c.drop_arrival.ensures c.self.invariant)
