use Rattle.std.proofs.Common.{arith}
use Rattle.crs_base.specs.Seen.{entry_of}
use Rattle.crs_store.proofs.Noting.{touched_none, touched_more}
use Rattle.crs_store.proofs.links.note_touched.Goals as goal

pub loop-k-init : goal.loop-k-init
loop-k-init c = touched_none c.args.chart.now.plan c.args.chart.now.hooks.windows.items c.args.slots.now (entry_of c.args.entry.now) c.args.waiting.now c.args.places.now.items

pub returns-in_err-note_window-clause-fresh : goal.returns-in_err-note_window-clause-fresh
returns-in_err-note_window-clause-fresh c = λ k h f i. c.note_window.ensures.fresh k h f (c.loop-k.invariant.fresh k h f i)

pub returns-in_err-note_window-clause-kept : goal.returns-in_err-note_window-clause-kept
returns-in_err-note_window-clause-kept c = λ p i. c.note_window.ensures.kept p (c.loop-k.invariant.kept p i)

pub loop-k-preserved : goal.loop-k-preserved
loop-k-preserved c = touched_more c.args.chart.now.plan c.args.chart.now.hooks.windows.items c.args.slots.now (entry_of c.args.entry.now) c.loop-k.k c.args.waiting.now c.loop-k.waiting c.note_window.new.waiting c.args.places.now.items c.loop-k.places.items c.note_window.new.places.items c.loop-k.invariant c.note_window.ensures.fresh c.note_window.ensures.kept ((c.in_ok-note_window.ensures {u = tt}).noted)

pub returns-clause-noted : goal.returns-clause-noted
returns-clause-noted c = λ k l. c.loop-k.invariant.noted k (let t = c.loop-k-test.false in omega arith)
