use Rattle.std.proofs.Common.{◌∙◌, ◌++◌, ap}
use Rattle.std.proofs.lemmas.Result.{on_ok_weaker}
use Rattle.crs_buffer.proofs.Queued.{insert_between}
use Rattle.crs_buffer.proofs.queue.put_at.Goals as goal

pub returns-clause-ok : goal.returns-clause-ok
returns-clause-ok c =
    on_ok_weaker c.insert_at.result (λ q. ap (λ zs. c.args.set.now.keys ++ zs) q ∙ insert_between c.args.held c.args.set.now.keys c.args.queue.now.items c.args.place c.requires.behind c.requires.before) c.insert_at.ensures.ok
