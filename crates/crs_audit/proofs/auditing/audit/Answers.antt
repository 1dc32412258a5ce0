use Rattle.std.proofs.Common.{rules, ◌<◌, ◌^◌}
use Rattle.crs_audit.proofs.Whole.{is_setting, has_setting, setting, can_judge, all_audited, all_refused}
use Rattle.crs_audit.proofs.auditing.audit.Goals as goal

pub read_log-requires : goal.read_log-requires
read_log-requires c = has_setting c.args.plans.now c.args.entries c.args.symbols.now c.args.log.now c.requires

pub judge_all-requires : goal.judge_all-requires
judge_all-requires c =
    let small : c.args.entries < 2 ^ 32 = search rules in
    can_judge c.args.plans.now c.args.entries c.args.symbols.now c.args.log.now c.requires c.read_log.new.symbols c.in_ok-log.log
    (c.in_ok-log.ensures.read (setting c.args.plans.now c.args.entries c.args.symbols.now c.args.log.now c.requires)
    (is_setting c.args.plans.now c.args.entries c.args.symbols.now c.args.log.now c.requires)) small

pub returns-clause-ok : goal.returns-clause-ok
returns-clause-ok c =
    let small : c.args.entries < 2 ^ 32 = search rules in
    all_audited c.args.plans.now c.args.entries c.args.symbols.now c.args.log.now c.requires c.read_log.new.symbols c.in_ok-log.log
    (c.in_ok-log.ensures.read (setting c.args.plans.now c.args.entries c.args.symbols.now c.args.log.now c.requires)
    (is_setting c.args.plans.now c.args.entries c.args.symbols.now c.args.log.now c.requires)) small c.args.output.now c.judge_all.result c.judge_all.ensures.ok

pub returns-clause-refused : goal.returns-clause-refused
returns-clause-refused c =
    let small : c.args.entries < 2 ^ 32 = search rules in
    all_refused c.args.plans.now c.args.entries c.args.symbols.now c.args.log.now c.requires c.read_log.new.symbols c.in_ok-log.log
    (c.in_ok-log.ensures.read (setting c.args.plans.now c.args.entries c.args.symbols.now c.args.log.now c.requires)
    (is_setting c.args.plans.now c.args.entries c.args.symbols.now c.args.log.now c.requires)) small c.args.output.now c.judge_all.result c.judge_all.ensures.refused
