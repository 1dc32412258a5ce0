use Rattle.std.proofs.Common.{rules, refl, inl, inr}
use Rattle.std.specs.Prelude.{Some, None}
use Rattle.crs_base.specs.Seen.{entry_of}
use Rattle.crs_instance.specs.Completing.{IsCompleted}
use Rattle.crs_model.specs.declared.recognition.Mark.TheVariants.{Finish}
use Rattle.crs_store.proofs.Finding.{made_from}
use Rattle.crs_store.proofs.scanning.candidates.push_done.Goals as goal

pub returns-in_default-clause-found : goal.returns-in_default-clause-found
returns-in_default-clause-found g c =
    let none : IsCompleted c.args.arrival.now.plan.now c.args.instance.now c.args.event (entry_of c.args.arrival.now.entry.now.value) None = search rules in
    inl (refl, none)

pub returns-clause-found : goal.returns-clause-found
returns-clause-found g c =
    let told : IsCompleted c.args.arrival.now.plan.now c.args.instance.now c.args.event (entry_of c.args.arrival.now.entry.now.value) (Some c.in-Some.completed) = search rules in
    inr (
      told.0,
      told.1,
      record {
        one = record { chronicle = 0; mark = Finish; entries = c.in-Some.completed.entries; binding = c.in-Some.completed.binding };
        is = made_from 0 Finish told.0 (Some c.in-Some.completed.entries) c.in-Some.completed.entries c.in-Some.completed.binding refl told.2 told.3;
        added = (c.in_ok-push.ensures {u = tt}).items;
      },
    )
