use Rattle.std.proofs.Common.{◌≡◌, ◌<◌, ◌^◌, sym, ap, subst, arith}
use Rattle.crs_audit.proofs.Given.{date_there, dated_at}
use Rattle.crs_audit.proofs.windows.date_at.Goals as goal

pub returns-clause-at : goal.returns-clause-at
returns-clause-at c =
    date_there c.args.entries.now c.args.event c.index-entries-event.result c.deref.result.now.date c.requires.event c.index-entries-event.is (ap (λ z. z.date) c.deref.ensures)

pub returns-clause-small : goal.returns-clause-small
returns-clause-small c =
    let r = c.index-entries-event.result in
    let e : c.deref.result.now.date ≡ r.value.date = ap (λ z. z.date) c.deref.ensures in
    let there = dated_at c.args.entries.now c.requires.dated c.args.event r c.requires.event in
    let is : r.value.date < 2 ^ 40 = subst (λ z. z.value.date < 2 ^ 40) (sym c.index-entries-event.is) there in
    omega (arith, e, is)
