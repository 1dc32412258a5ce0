use Rattle.std.proofs.Common.{map}
use Rattle.crs_engine.proofs.Noted.{tells_all}
use Rattle.crs_engine.proofs.concerned.concerned_of.Goals as goal

pub returns : goal.returns
returns c = tells_all c.add_all.new.concerned (map (λ r. r.value) c.args.plans.now) ((c.in_ok-add_all.ensures {u = tt}).known)
