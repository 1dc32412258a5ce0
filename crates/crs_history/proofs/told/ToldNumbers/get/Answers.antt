use Rattle.std.proofs.Common.{sym, subst, arith}
use Rattle.crs_history.specs.Told.{Tells}
use Rattle.crs_history.proofs.told.ToldNumbers.get.Goals as goal

pub returns-then-at-len : goal.returns-then-at-len
returns-then-at-len c = λ f told.
    let old = told c.place_of-at.result c.index.result.now (omega arith) in
    c.told_by.ensures f (subst (Tells f) (sym c.index.ensures) old)
