use Rattle.std.proofs.Common.{◌∙◌, sym}
use Rattle.std.proofs.lemmas.Result.{on_ok_weaker}
use Rattle.crs_focus.specs.PlanLevels.{levels_in}
use Rattle.crs_focus.proofs.Awaiting.{whole_awaits_none}
use Rattle.crs_waiting.proofs.DuePairs.{still_in}
use Rattle.crs_waiting.proofs.dues.put_event_dues.Goals as goal

pub returns-then-is_whole-clause-deadline : goal.returns-then-is_whole-clause-deadline
returns-then-is_whole-clause-deadline c = λ t last since small. absurd (whole_awaits_none (levels_in c.args.chart.now.plan c.args.chart.now.focus) c.args.instance.now.partial (sym c.is_whole.ensures ∙ c.if-is_whole.true) last.1.0 last.1.1)

pub returns-then-is_whole-clause-firsts : goal.returns-then-is_whole-clause-firsts
returns-then-is_whole-clause-firsts c = λ e t first since small. absurd (whole_awaits_none (levels_in c.args.chart.now.plan c.args.chart.now.focus) c.args.instance.now.partial (sym c.is_whole.ensures ∙ c.if-is_whole.true) e first.1)

pub returns-clause-deadline : goal.returns-clause-deadline
returns-clause-deadline c =
    on_ok_weaker c.put_firsts.result
    (λ p. still_in c.args.chart.now.plan c.args.instance.now c.args.handle c.args.since _ c.put_deadline.new.calendar.pairs c.put_firsts.new.calendar.pairs c.put_firsts.ensures.kept ((c.in_ok-put_deadline.ensures {u = tt}).put))
    c.put_firsts.ensures.put

pub returns-clause-kept : goal.returns-clause-kept
returns-clause-kept c = λ t i. c.put_firsts.ensures.kept t (c.put_deadline.ensures.kept t i)
