use Rattle.std.proofs.Common.{subst, IfSome}
use Rattle.crs_log.specs.Places.{tokens_from, AreArgumentsAt}
use Rattle.crs_log.proofs.Places.{event_whole}
use Rattle.crs_log.proofs.items.walk.read_event.Goals as goal

pub returns-clause-value : goal.returns-clause-value
returns-clause-value c = λ _.
    let line = c.args.line.now in
    let d = c.in-Some.ensures.date in
    event_whole line (record { date = c.in-Some.dated.date; name = c.in-Some-symbol.name; args = c.arguments_at.new.args; change = c.in-Some-change_at.change }) c.in-Some.dated.end c.end_of.result c.in-Some-2.at
    d.word d.within d.dated c.in-Some-symbol.ensures c.end_of.ensures
    (subst (λ o. IfSome o (AreArgumentsAt line (tokens_from line c.end_of.result) c.arguments_at.new.args)) c.in-Some-2.is c.in_ok-at.ensures) c.in-Some-change_at.ensures
