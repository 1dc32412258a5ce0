use Rattle.std.proofs.Common.{arith}
use Rattle.crs_agenda.specs.Freshness.{is_fresh}
use Rattle.crs_index.proofs.BucketRows.{sifted_at}
use Rattle.crs_index.proofs.buckets.sift_at.Goals as goal

pub returns : goal.returns
returns c = sifted_at (is_fresh c.args.serials.now) c.args.buckets.now.items c.args.number _ _ (omega arith) c.index_mut-bucket.ensures.value c.sift_bucket.ensures
