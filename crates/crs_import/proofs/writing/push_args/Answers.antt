use Rattle.std.proofs.Common.{◌≤◌, arith, length}
use Rattle.crs_import.proofs.Parts.{args_behind}
use Rattle.crs_import.proofs.writing.push_args.Goals as goal

pub returns : goal.returns
returns c =
    let some : 1 ≤ length c.args.args.now = grind arith in
    args_behind c.args.out.now.items c.push_bytes.new.out.items c.loop-b.out.items c.push_bytes-2.new.out.items c.args.args.now c.loop-b.b-index some (omega arith)
    (c.in_ok-push_bytes.ensures {u = tt}) c.loop-b.invariant (c.in_ok-push_bytes-2.ensures {u = tt})
