use Rattle.std.proofs.Common.{◌∙◌}
use Rattle.crs_model.specs.declared.recognition.Mark.TheVariants.{Finish}
use Rattle.crs_store.proofs.Finding.{made_from}
use Rattle.crs_store.proofs.found.find.Goals as goal

pub returns : goal.returns
returns c =
    record {
      one = record { chronicle = 0; mark = Finish; entries = c.in-Some.entries; binding = c.copy.result };
      is = made_from 0 Finish c.args.instance.now c.in_ok-entries.field-0 c.in-Some.entries c.copy.result c.in-Some.is (c.in_ok-entries.ensures {u = tt}) (c.copy.ensures ∙ c.binding.ensures);
      added = (c.in_ok-push.ensures {u = tt}).items;
    }
