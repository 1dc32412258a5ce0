use Rattle.std.proofs.Common.{rules, ◌∙◌}
use Rattle.crs_store.proofs.Finding.{made_from, all_there}
use Rattle.crs_store.proofs.ripening.recognition.Goals as goal

pub returns-in-None : goal.returns-in-None
returns-in-None c = all_there c.args.judging.now.plan.now c.args.judging.now.h c.args.instance.now c.in_ok-all_entries.field-0 c.in-None.is (c.in_ok-all_entries.ensures {u = tt})

pub returns-in-Some : goal.returns-in-Some
returns-in-Some c = (
  c.is_done.ensures.0 (search rules),
  made_from c.args.number c.args.mark c.args.instance.now c.in_ok-all_entries.field-0 c.in-Some.entries c.copy.result c.in-Some.is (c.in_ok-all_entries.ensures {u = tt}) (c.copy.ensures ∙ c.binding.ensures),
)
