use Rattle.std.proofs.Common.{rules, ◌≡◌, ap, subst}
use Rattle.std.specs.Prelude.{OnOk}
use Rattle.crs_base.specs.declared.entry.Entry.{Entry as CodeEntry}
use Rattle.crs_base.specs.Seen.{entry_of}
use Rattle.crs_buffer.specs.Entries.{IsNewKey}
use Rattle.crs_model.specs.Order.{put_in_order}
use Rattle.crs_engine.proofs.TakenBack.{taken_back}
use Rattle.crs_engine.proofs.moving.hold.Goals as goal

pub returns-then-not-wanted-clause-ok : goal.returns-then-not-wanted-clause-ok
returns-then-not-wanted-clause-ok c =
    let same : c.in_ok-shared.shared.value ≡ c.args.entry = c.in_ok-shared.ensures {u = tt} in
    subst (λ (e : CodeEntry). IsNewKey (entry_of e) c.args.buffer.now → OnOk c.put.result (c.put.new.self ≡ put_in_order (entry_of e) c.args.buffer.now)) same c.put.ensures.ok

pub returns-clause-ok : goal.returns-clause-ok
returns-clause-ok c =
    let same : c.in_ok-shared.shared.value ≡ c.args.entry = c.in_ok-shared.ensures {u = tt} in
    subst (λ (e : CodeEntry). IsNewKey (entry_of e) c.args.buffer.now → c.put-3.new.self ≡ put_in_order (entry_of e) c.args.buffer.now) same (c.in-Ok.ensures {u = tt}).ok

pub returns-in_default-clause-fresh_err : goal.returns-in_default-clause-fresh_err
returns-in_default-clause-fresh_err c =
    let same : c.in_ok-clone.field-0.value ≡ c.args.entry = search rules in
    taken_back c.args.entry.arrival (entry_of c.in_ok-clone.field-0.value) c.args.fresh.now c.put-2.new.self c.take_back.new.self (ap (λ (e : CodeEntry). (entry_of e).arrival) same) (c.in_ok-put.ensures {u = tt}).ok c.take_back.ensures.rest
