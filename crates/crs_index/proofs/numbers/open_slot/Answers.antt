use Rattle.std.proofs.Common.{◌∙◌}
use Rattle.crs_index.proofs.Tables.{slot_opened, row_grown}
use Rattle.crs_index.proofs.numbers.open_slot.Goals as goal

pub returns-clause-ok : goal.returns-clause-ok
returns-clause-ok c = slot_opened c.open_rows.new.direct.items c.args.class _ _ c.in-Ok.ensures.ok c.in-Ok-open_slots.ensures.ok

pub returns-clause-same : goal.returns-clause-same
returns-clause-same c = λ d f.
    row_grown c.open_rows.new.direct.items c.args.class _ c.index_mut.result.now d f c.in-Ok.ensures.ok c.index_mut.ensures.value (c.open_slots.ensures.same f)
    ∙ c.in-Ok.ensures.same d f

pub returns-in_default-open_slots-clause-same : goal.returns-in_default-open_slots-clause-same
returns-in_default-open_slots-clause-same c = λ d f.
    row_grown c.open_rows.new.direct.items c.args.class _ c.index_mut.result.now d f c.in-Ok.ensures.ok c.index_mut.ensures.value (c.open_slots.ensures.same f)
    ∙ c.in-Ok.ensures.same d f
