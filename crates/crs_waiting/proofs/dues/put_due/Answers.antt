use Rattle.std.proofs.Common.{ap, sym, ◌∙◌}
use Rattle.std.proofs.lemmas.Int.{to_z-of_z}
use lib.IntN.{nat_abs}
use mir.Syntax.{w64}
use Rattle.crs_waiting.proofs.DuePairs.{put_in, put_keeps}
use Rattle.crs_waiting.proofs.dues.put_due.Goals as goal

pub returns-clause-put : goal.returns-clause-put
returns-clause-put c =
    put_in c.put.result c.args.date _ c.args.handle c.args.calendar.now.pairs c.put.new.self.pairs (λ t e. ap nat_abs (to_z-of_z w64 c.args.date c.ranges.date ∙ sym e)) c.args.since c.put.ensures.pairs

pub returns-clause-kept : goal.returns-clause-kept
returns-clause-kept c = put_keeps c.put.result _ c.args.calendar.now c.put.new.self c.put.ensures.pairs c.put.ensures.err
