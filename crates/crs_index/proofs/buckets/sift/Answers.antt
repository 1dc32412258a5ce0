use Rattle.std.proofs.Common.{arith}
use Rattle.crs_index.proofs.BucketRows.{sifted_more}
use Rattle.crs_index.proofs.buckets.sift.Goals as goal

pub loop-bucket-preserved : goal.loop-bucket-preserved
loop-bucket-preserved c =
    sifted_more _ c.deref_mut-bucket-items.result.now _ _ _ _ (omega arith) (omega arith) c.loop-bucket.invariant c.sift_bucket.ensures
