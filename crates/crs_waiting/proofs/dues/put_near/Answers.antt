use Rattle.std.proofs.Common.{rules}
use Rattle.std.proofs.lemmas.Result.{on_ok_weaker}
use Rattle.crs_waiting.proofs.dues.put_near.Goals as goal

pub returns-clause-put : goal.returns-clause-put
returns-clause-put c = on_ok_weaker c.put_due.result (λ p t e l m. p t (search (rules, e)) l m) c.put_due.ensures.put
