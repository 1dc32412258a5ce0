use Rattle.std.proofs.Common.{◌++◌, filter, ap, sym, ◌∙◌}
use Rattle.crs_buffer.proofs.Dropped.{filter_parts}
use Rattle.crs_buffer.specs.Queues.{arrived_otherwise}
use Rattle.crs_buffer.proofs.queue.drop_arrival.Goals as goal

pub returns : goal.returns
returns c =
    ap (λ ks. ks ++ c.drop_from_queue.new.queue.items) c.drop_from_set.ensures
    ∙ ap (λ qs. filter (arrived_otherwise c.args.arrival) c.args.set.now.keys ++ qs) c.drop_from_queue.ensures
    ∙ sym (filter_parts (arrived_otherwise c.args.arrival) c.args.set.now.keys c.args.queue.now.items)
