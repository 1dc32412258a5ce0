use Rattle.std.proofs.Common.{subst, [], false}
use Rattle.std.specs.Result.{OnOk}
use Rattle.crs_base.specs.Seen.{entry_of}
use Rattle.crs_base.specs.declared.entry.Entry.{Entry as CodeEntry}
use Rattle.crs_store.specs.Stores.{IsOfferedAt}
use Rattle.crs_store.proofs.Standing.{offered_alone}
use Rattle.crs_store.proofs.store.Store.offer.Goals as goal

pub returns-clause-stands : goal.returns-clause-stands
returns-clause-stands g c =
    let old = c.args.self.now in
    let history = c.args.history.now in
    let x = c.args.entry.now.value in
    let new = c.take.new.self in
    offered_alone c.take.result old new history (entry_of x)
    (subst (λ (e : CodeEntry). OnOk c.take.result (IsOfferedAt old history (entry_of x) x.date [] e.date false new)) c.deref-2.ensures
    (subst (λ (e : CodeEntry). OnOk c.take.result (IsOfferedAt old history (entry_of x) e.date [] c.deref-2.result.now.date false new)) c.deref.ensures c.take.ensures.stands))
