use Rattle.std.proofs.Common.{refl, arith, ap, length}
use Rattle.crs_index.proofs.Tables.{slot_here, slot_set, row_at}
use Rattle.crs_index.proofs.numbers.set_slot.Goals as goal

pub returns-clause-here : goal.returns-clause-here
returns-clause-here c =
    let e = row_at c.args.direct.now.items c.args.class c.index_mut.result.now c.requires.class c.index_mut.ensures.value in
    slot_here c.args.direct.now.items c.args.class c.args.first _ c.index_mut.result.now c.args.content c.requires.class (omega (arith, ap length e)) refl

pub returns-clause-others : goal.returns-clause-others
returns-clause-others c = λ d e apart.
    slot_set c.args.direct.now.items c.args.class c.args.first _ c.index_mut.result.now c.args.content c.requires.class c.index_mut.ensures.value refl d e apart
