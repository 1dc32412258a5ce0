use Rattle.crs_store.proofs.Assembled.{root_held}
use Rattle.crs_store.proofs.Standing.{root_able}
use Rattle.crs_store.proofs.store.first_holding.Goals as goal

pub hold-requires-clause-able : goal.hold-requires-clause-able
hold-requires-clause-able c =
    let root = c.in_ok-root.ensures {u = tt} in
    root_able c.args.plan.now c.args.focus c.requires.proper c.in_ok-root.root root.of root.none

pub hold-requires-clause-tidy : goal.hold-requires-clause-tidy
hold-requires-clause-tidy c = c.no_holding-holding.ensures.tidy c.args.plan.now c.args.focus c.args.hooks.now

pub returns-clause-root : goal.returns-clause-root
returns-clause-root c =
    let root = c.in_ok-root.ensures {u = tt} in
    (c.in_ok-root.root, root_held c.in_ok-root.root _ _ c.no_holding-holding.ensures.none ((c.in_ok-hold.ensures {u = tt}).comes), root.of, root.none)
