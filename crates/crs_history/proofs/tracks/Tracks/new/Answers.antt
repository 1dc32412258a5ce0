use Rattle.std.proofs.Common.{rules}
use Rattle.crs_history.specs.Tracks.{AreTracks}
use Rattle.crs_history.proofs.tracks.Tracks.new.Goals as goal

pub invariant_of-result : goal.invariant_of-result
invariant_of-result c =
    let first : AreTracks (record { steps = c.new.result.entries; lanes = c.new-3.result }) = search rules in
    (first, c.new-2.ensures c.new.result.entries)
