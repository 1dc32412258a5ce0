use Rattle.std.proofs.Common.{◌++◌, ap, ◌∙◌}
use Rattle.std.specs.BTreeSet.{insert_key}
use Rattle.crs_buffer.specs.HeldOrder.{held_cmp}
use Rattle.crs_buffer.proofs.Queued.{insert_head}
use Rattle.crs_buffer.proofs.queue.put_before.Goals as goal

pub returns-clause-ok : goal.returns-clause-ok
returns-clause-ok c =
    ap (λ zs. zs ++ c.spill_past.new.queue.items) c.in-Ok.ensures.keys
    ∙ insert_head c.args.held c.spill_past.new.set.keys c.spill_past.new.queue.items c.in_ok-spill_past.ensures.before
    ∙ ap (λ zs. insert_key held_cmp zs c.args.held) c.spill_past.ensures.same
