use Rattle.std.proofs.Common.{rules}
use Rattle.std.proofs.lemmas.List.Sorted.{ranks_by, answers_always}
use Rattle.crs_model.specs.declared.recognition.Recognition.{Recognition}
use Rattle.crs_model.specs.SeenModels.{assignment_of}
use Rattle.crs_store.proofs.Ascending.{entries_total, later}
use Rattle.crs_store.proofs.order.put_in_order.Goals as goal

pub returns-clause-sorted : goal.returns-clause-sorted
returns-clause-sorted c =
    c.sort_unstable_by.ensures.sorted later (ranks_by entries_total (λ (t : Recognition). (assignment_of t).entries)) (answers_always _ _ _ (λ f a r q k. search rules))
