use Rattle.std.proofs.Common.{rules, subst}
use Rattle.crs_base.specs.Words.{IsIn}
use Rattle.crs_living.proofs.Choosing.{awaited_last}
use Rattle.crs_living.proofs.deciding.put_fewest_last.Goals as goal

pub fewest-requires-clause-todo : goal.fewest-requires-clause-todo
fewest-requires-clause-todo c = λ f i. c.requires.todo f (subst (IsIn f) c.as_slice.ensures.value i)

pub returns : goal.returns
returns c = awaited_last c.args.todo.now.items c.remove-event.new.self.items c.in-Some.place c.remove-event.result c.push.new.self.items (search rules) c.remove-event.ensures.value c.remove-event.ensures.items (search rules)
