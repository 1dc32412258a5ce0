use Rattle.std.proofs.lemmas.Result.{on_ok_weaker}
use Rattle.crs_history.proofs.Trying.{by_result}
use Rattle.crs_waiting.proofs.Linked.{put_grows, put_waits, same_grows}
use Rattle.crs_waiting.proofs.linking.wait.Goals as goal

pub returns-clause-grown : goal.returns-clause-grown
returns-clause-grown c = by_result c.put.result c.put.ensures.ok c.put.ensures.err (put_grows c.args.waiting.now c.put.new.self c.args.key c.args.handle) (same_grows c.args.waiting.now c.put.new.self)

pub returns-clause-waits : goal.returns-clause-waits
returns-clause-waits c = on_ok_weaker c.put.result (put_waits c.args.waiting.now c.put.new.self c.args.key c.args.handle) c.put.ensures.ok
