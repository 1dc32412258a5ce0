use Rattle.std.proofs.Common.{arith}
use Rattle.crs_index.proofs.BucketRows.{pushed, unpushed}
use Rattle.crs_index.proofs.buckets.push_at.Goals as goal

pub returns-in-Ok-clause-ok : goal.returns-in-Ok-clause-ok
returns-in-Ok-clause-ok c = pushed c.args.buckets.now.items c.args.number _ _ _ (omega arith) c.index_mut.ensures.value c.in-Ok.ensures.items

pub returns-in-Err-clause-err : goal.returns-in-Err-clause-err
returns-in-Err-clause-err c = unpushed c.args.buckets.now.items c.args.number _ _ (omega arith) c.index_mut.ensures.value c.in-Err.ensures.items
