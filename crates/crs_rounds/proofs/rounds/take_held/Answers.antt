use Rattle.crs_log.specs.Given.{seen}
use Rattle.crs_frames.proofs.ShortLines.{given_short}
use Rattle.crs_rounds.proofs.rounds.take_held.Goals as goal

pub take_feed_line-requires-clause-short : goal.take_feed_line-requires-clause-short
take_feed_line-requires-clause-short c =
    given_short c.args.source.now.lines c.next_line.follows.lender-at-none (seen c.in-Some.line) c.requires.limit
    (rw c.in-Some.is at c.next_line.follows.holds-at-none)
