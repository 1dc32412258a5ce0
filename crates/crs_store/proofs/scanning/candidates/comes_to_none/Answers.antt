use Rattle.std.proofs.Common.{sym, subst, inl, inr}
use Rattle.std.proofs.lemmas.Bool.{not-true}
use Rattle.crs_base.specs.Seen.{entry_of}
use Rattle.crs_base.specs.declared.entry.Entry.{Entry as CodeEntry}
use Rattle.crs_store.specs.Forkings.{NoneWait}
use Rattle.crs_waiting.specs.Hooks.{picked_arguments}
use Rattle.crs_store.proofs.Parting.{none_there}
use Rattle.crs_store.proofs.scanning.candidates.comes_to_none.Goals.{else-not-arrival-via-else-not-arrival, else-not-arrival-via-then-not-arrival+else-is_some}
use Rattle.crs_store.proofs.scanning.candidates.comes_to_none.Goals as goal

pub returns : goal.returns
returns c = λ said. (
  subst (λ (e : CodeEntry). NoneWait c.args.waiting.now (picked_arguments c.args.sought.hook.now (entry_of e).args) c.args.sought.event) c.deref.ensures (c.may_wait.ensures (not-true c.may_wait.result said)),
  elim c.else-not-arrival.branch [
    | else-not-arrival-via-else-not-arrival w ↦ inl w.if-not-arrival.false
    | else-not-arrival-via-then-not-arrival+else-is_some w ↦ inr (none_there c.args.sought.hook.now.before (sym (w.if-is_some.ensures {u = tt})))
  ],
)
