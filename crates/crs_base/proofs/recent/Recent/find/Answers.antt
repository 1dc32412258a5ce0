use Rattle.std.proofs.Common.{sym, subst, arith}
use Rattle.crs_base.specs.Recent.{TellBoth}
use Rattle.crs_base.proofs.recent.Recent.find.Goals as goal

pub returns-then-at-len : goal.returns-then-at-len
returns-then-at-len c = λ texts told.
    let old = told c.pair_of-at.result c.index.result.now (omega arith) in
    c.told_by.ensures texts c.args.text.now (subst (TellBoth texts) (sym c.index.ensures) old) (λ i. (c.type_inv.text i).fits) c.in_ok-tag.ensures
