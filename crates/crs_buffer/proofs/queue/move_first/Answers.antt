use Rattle.crs_buffer.proofs.Queued.{moved_first}
use Rattle.crs_buffer.proofs.queue.move_first.Goals as goal

pub returns-in-Ok-clause-same : goal.returns-in-Ok-clause-same
returns-in-Ok-clause-same c = moved_first c.in-Some.first c.args.set.now.keys c.args.queue.now.items c.pop_front.new.self.items
    c.insert.new.self.keys c.in-Some.ensures.items c.requires.sorted c.in-Ok.ensures.keys
