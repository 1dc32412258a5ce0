use Rattle.std.proofs.Common.{◌<◌, ◌+◌, ◌∙◌, length, arith}
use Rattle.std.proofs.lemmas.List.Elements.{All-drop}
use Rattle.crs_report.specs.Listeners.{notice_of}
use Rattle.crs_report.proofs.After.{after_next, after_last}
use Rattle.crs_report.proofs.teller.tell_each.Goals as goal

pub loop-r-preserved : goal.loop-r-preserved
loop-r-preserved g c = record {
  told = after_next notice_of c.args.recognitions.now c.loop-r.r-index c.r-item.result _ _ (omega arith) c.r-item.is c.in_ok-tell_all.ensures.ok ∙ c.loop-r.invariant.told;
  some = All-drop (λ r. 0 < length r.entries) (c.loop-r.r-index + 1) c.args.recognitions.now c.requires;
}

pub returns : goal.returns
returns g c = after_last notice_of c.args.recognitions.now c.loop-r.r-index _ _ c.loop-r-test.false c.loop-r.invariant.told
