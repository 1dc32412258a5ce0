use Rattle.std.proofs.Common.{map, inl}
use Rattle.std.proofs.lemmas.Result.{on_ok_weaker}
use Rattle.crs_base.specs.Seen.{entry_of}
use Rattle.crs_living.specs.Ahead.{MayGo}
use Rattle.crs_store.proofs.Born.{comes_or_goes, find_all, find_comes}
use Rattle.crs_store.proofs.holding.hold_born.Goals as goal

pub returns-then-is_whole-clause-kept : goal.returns-then-is_whole-clause-kept
returns-then-is_whole-clause-kept c = on_ok_weaker c.find.result (λ f. find_all c.args.chart.now.plan c.is_windowless.ensures.is.proper c.args.instance c.requires.of (c.is_windowless.ensures.none c.if-is_windowless.true) c.args.found.now.items c.find.new.found.items f c.requires.kept) c.find.ensures

pub returns-then-is_whole-clause-comes : goal.returns-then-is_whole-clause-comes
returns-then-is_whole-clause-comes c = on_ok_weaker c.find.result (λ f. inl (find_comes c.args.chart.now.plan c.is_windowless.ensures.is.proper c.args.holding.now.slots c.args.instance c.requires.of (c.is_windowless.ensures.none c.if-is_windowless.true) c.args.found.now.items c.find.new.found.items f)) c.find.ensures

pub returns-clause-comes : goal.returns-clause-comes
returns-clause-comes c = on_ok_weaker c.hold_hopeful.result (λ k. comes_or_goes c.args.chart.now.plan (MayGo c.args.chart.now.plan c.args.chart.now.focus (map (λ r. entry_of r.value) c.args.birth.now.ahead.now) c.args.birth.now.beyond) c.args.instance c.args.holding.now.slots c.hold_hopeful.new.holding.slots c.args.found.now.items k) c.hold_hopeful.ensures.comes
