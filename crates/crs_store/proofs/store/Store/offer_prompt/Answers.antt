use Rattle.crs_base.specs.Seen.{entry_of}
use Rattle.crs_store.proofs.Prompting.{offered_exact}
use Rattle.crs_store.proofs.store.Store.offer_prompt.Goals as goal

pub returns-clause-stands : goal.returns-clause-stands
returns-clause-stands g c = offered_exact c.take_early.result c.args.self.now c.take_early.new.self c.args.history.now (entry_of c.args.entry.now.value) c.take_early.ensures.stands
