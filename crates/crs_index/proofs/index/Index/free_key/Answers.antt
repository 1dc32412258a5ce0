use Rattle.std.proofs.Common.{sym}
use Rattle.crs_index.proofs.States.{freed_kept, freed_same}
use Rattle.crs_index.specs.Rows.{rows}
use Rattle.crs_index.proofs.index.Index.free_key.Goals as goal

pub invariant_of-self-2 : goal.invariant_of-self-2
invariant_of-self-2 c = rw c.in-Ok.ensures.items
    (freed_kept c.self.inside.numbers c.forget.new.self (rows c.self.inside.buckets.items) c.self.inside.spare.items c.args.key.now c.in-Some.number c.self.invariant (sym c.in-Some.ensures) (c.is_bare.ensures c.if-not-is_bare.false) c.forget.ensures.here c.forget.ensures.others)

pub returns : goal.returns
returns c = rw (← c.self.view_is)
    (freed_same c.self.inside.numbers c.forget.new.self (rows c.self.inside.buckets.items) c.self.inside.spare.items c.args.key.now c.in-Some.number c.self.invariant (sym c.in-Some.ensures) (c.is_bare.ensures c.if-not-is_bare.false) c.forget.ensures.here c.forget.ensures.others)
