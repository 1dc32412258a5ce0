use Rattle.std.proofs.Common.{rules, ◌≡◌, List, ◌++◌, append-nil, sym, ap, ◌∙◌}
use Rattle.std.proofs.lemmas.List.{nil_from_length}
use Rattle.std.proofs.lemmas.Result.{on_ok_weaker}
use Rattle.crs_model.specs.declared.recognition.Recognition.{Recognition}
use Rattle.crs_engine.proofs.Settling.{same_first, advanced_more}
use Rattle.crs_engine.proofs.moving.+advance_all.Goals.{then-len-ne0+in_ok-append-in-Some, else-len-ne0}
use Rattle.crs_engine.proofs.moving.+advance_all.Goals as goal

pub returns-in_err-more-in-Some-clause-same : goal.returns-in_err-more-in-Some-clause-same
returns-in_err-more-in-Some-clause-same t c = same_first c.args.stores.now c.in-Some.first.now c.advance.new.self c.in-Some.rest.now (search rules) c.advance.ensures.same

pub returns-in_err-append-in-Some-clause-same : goal.returns-in_err-append-in-Some-clause-same
returns-in_err-append-in-Some-clause-same t c = same_first c.args.stores.now c.in-Some.first.now c.advance.new.self c.in-Some.rest.now (search rules) c.advance.ensures.same

pub returns-after-len-ne0-clause-advanced : goal.returns-after-len-ne0-clause-advanced
returns-after-len-ne0-clause-advanced t c =
    let was = c.args.answer.now in
    let more = c.in_ok-more-in-Some.more in
    let joined : c.if-len-ne0.answer ≡ was ++ more = elim c.if-len-ne0.branch [
      | then-len-ne0+in_ok-append-in-Some w ↦ w.answer-is ∙ (w.in_ok-append-in-Some.ensures {u = tt}).ok
      | else-len-ne0 w ↦ w.answer-is ∙ sym (ap (λ (rs : List Recognition). was ++ rs) (nil_from_length more (sym c.len.ensures ∙ w.if-len-ne0.false)) ∙ append-nil was)
    ] in
    on_ok_weaker c.advance_all.result
    (λ k. advanced_more c.args.history.now c.args.h c.args.mark c.args.stores.now c.in-Some.first.now c.advance.new.self c.in-Some.rest.now c.advance_all.new.stores more was c.if-len-ne0.answer c.advance_all.new.answer
    (search rules) joined c.in_ok-more-in-Some.ensures.advanced k)
    c.advance_all.ensures.advanced
