use Rattle.std.proofs.Common.{rules, Bool}
use Rattle.std.specs.Ordering.{is_lt}
use Rattle.std.specs.declared.rc.Rc.{Rc}
use Rattle.std.proofs.Common.{Global}
use Rattle.std.proofs.lemmas.List.Sorted.{ranks_by, answers_always}
use Rattle.crs_base.specs.declared.entry.Entry.{Entry as CodeEntry}
use Rattle.crs_base.specs.declared.symbols.Sym.{Sym}
use Rattle.crs_base.specs.Entry.{entry_cmp}
use Rattle.crs_base.specs.Seen.{entry_of}
use Rattle.crs_base.proofs.KeyOrder.{entry_total}
use Rattle.crs_audit.proofs.run.put_in_order.Goals as goal

abbrev later : Rc CodeEntry Global → Rc CodeEntry Global → Bool
later r s = is_lt (entry_cmp (entry_of r.value) (entry_of s.value))

pub returns-clause-sorted : goal.returns-clause-sorted
returns-clause-sorted c =
    c.sort_unstable_by.ensures.sorted later (ranks_by (entry_total {S = Sym}) (λ (r : Rc CodeEntry Global). entry_of r.value)) (answers_always _ _ _ (λ f a r q k. search rules))
