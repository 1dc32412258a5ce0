use Rattle.std.proofs.Common.{map}
use Rattle.crs_base.specs.Seen.{entry_of}
use Rattle.crs_store.proofs.Passing.{offered_so}
use Rattle.crs_store.proofs.store.Store.offer_until.Goals as goal

pub returns-clause-stands : goal.returns-clause-stands
returns-clause-stands g c = offered_so c.take.result c.args.self.now c.take.new.self c.args.history.now (entry_of c.args.entry.now.value) c.args.coming.now.until (map (λ r. entry_of r.value) c.args.coming.now.ahead.now) c.args.coming.now.beyond c.args.coming.now.behind c.requires.coming.later c.take.ensures.stands
