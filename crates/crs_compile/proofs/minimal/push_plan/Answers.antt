use Rattle.std.proofs.Common.{◌≡◌, ◌++◌, map, ◌∙◌}
use Rattle.std.proofs.lemmas.Result.{IfOk-weaker}
use Rattle.crs_model.specs.Plans.{chronicle}
use Rattle.crs_model.specs.Renaming.{text_in}
use Rattle.crs_compile.specs.Minimal.{earliest_text, IsChronicleText, Appends}
use Rattle.crs_compile.proofs.Written.{plan_step}
use Rattle.crs_compile.proofs.minimal.push_plan.Goals as goal

pub returns : goal.returns
returns c = IfOk-weaker c.push_earliest.result
    (λ _. c.push_earliest.new.out.items ≡ c.push_pairs.new.out.items ++ earliest_text (map (text_in c.args.symbols.now.texts) c.as_slice-points.result.now) c.earliest.result)
    (λ _. Appends (IsChronicleText (text_in c.args.symbols.now.texts) (chronicle c.args.plan.now)) c.args.out.now.items c.push_earliest.new.out.items)
    (λ _ h. plan_step (text_in c.args.symbols.now.texts) c.args.plan.now c.as_slice-points.result.now c.earliest.result c.args.out.now.items c.push_head.new.out.items c.push_pairs.new.out.items c.push_earliest.new.out.items
    c.requires.plan (c.as_slice-points.ensures.value ∙ c.in_ok-names.ensures {u = tt}) c.earliest.ensures.len c.earliest.ensures.earliest
    (c.in_ok-push_head.ensures {u = tt}) (c.in_ok-push_pairs.ensures {u = tt}) h)
    c.push_earliest.ensures
