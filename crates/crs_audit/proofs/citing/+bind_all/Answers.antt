use Rattle.std.proofs.Common.{rules}
use Rattle.std.specs.Prelude.{Some, None, cond}
use Rattle.crs_model.proofs.Matches.{met_yes}
use Rattle.crs_audit.proofs.Fitting.{events_then}
use Rattle.crs_audit.proofs.citing.+bind_all.Goals as goal

pub returns-else-not-bind_one : goal.returns-else-not-bind_one
returns-else-not-bind_one t c =
    events_then c.args.events.now c.args.entries.now c.in-Some.event.now c.in-Some.others.now c.in-Some-split_first.entry.now c.in-Some-split_first.rest.now c.args.binding.now c.bind_one.new.binding
    (cond c.bind_all.result (Some c.bind_all.new.binding) None) (search rules) (search rules) (met_yes _ _ _ c.bind_one.result (search rules) c.bind_one.ensures) c.bind_all.ensures
