use Rattle.std.proofs.Common.{◌≡◌, replicate}
use Rattle.crs_feeds.specs.Merged.{new_feed}
use Rattle.crs_feeds.proofs.clocks.new_clocks.Given as goal

abbrev pub invariant-loop : goal.invariant-loop
invariant-loop l = l.clocks.items ≡ replicate l.counter new_feed
