use Rattle.std.proofs.Common.{rules, List, ℕ, subst}
use Rattle.crs_index.specs.Indexes.{Cleans}
use Rattle.crs_store.proofs.Gathered.{tried_more, tried_whole, keeps_standing}
use Rattle.crs_store.proofs.Noting.{cleans_keep}
use Rattle.crs_store.proofs.scanning.candidates.note_able_bucket.Goals as goal

pub returns-in_err-note_able-clause-fresh : goal.returns-in_err-note_able-clause-fresh
returns-in_err-note_able-clause-fresh c = cleans_keep c.args.waiting.now c.clean.new.self c.in-Some.number c.args.slots.now.serials (subst (λ (t : List ℕ). Cleans c.args.waiting.now c.clean.new.self c.in-Some.number t) c.serials.ensures.all c.clean.ensures)

pub returns-in_err-note_able-clause-standing : goal.returns-in_err-note_able-clause-standing
returns-in_err-note_able-clause-standing c =
    keeps_standing c.args.slots.now c.serials.ensures.len c.args.waiting.now c.clean.new.self
    (cleans_keep c.args.waiting.now c.clean.new.self c.in-Some.number c.args.slots.now.serials (subst (λ (t : List ℕ). Cleans c.args.waiting.now c.clean.new.self c.in-Some.number t) c.serials.ensures.all c.clean.ensures))

pub returns-in_err-note_able-clause-kept : goal.returns-in_err-note_able-clause-kept
returns-in_err-note_able-clause-kept c = λ p i. c.note_able.ensures.kept p (c.loop-handle.invariant.kept p i)

pub loop-handle-preserved : goal.loop-handle-preserved
loop-handle-preserved c = tried_more c.args.slots.now c.args.wanted.now.event c.args.wanted.now.date c.args.wanted.now.symbols c.bucket-handle-items.result.now c.loop-handle.handle-index (record { place = 0; serial = 0 }) c.args.places.now.items c.loop-handle.places.items c.note_able.new.places.items (search rules) c.loop-handle.invariant ((c.in_ok-note_able.ensures {u = tt}).noted) c.note_able.ensures.kept

pub returns-clause-fresh : goal.returns-clause-fresh
returns-clause-fresh c = cleans_keep c.args.waiting.now c.clean.new.self c.in-Some.number c.args.slots.now.serials (subst (λ (t : List ℕ). Cleans c.args.waiting.now c.clean.new.self c.in-Some.number t) c.serials.ensures.all c.clean.ensures)

pub returns-clause-standing : goal.returns-clause-standing
returns-clause-standing c =
    keeps_standing c.args.slots.now c.serials.ensures.len c.args.waiting.now c.clean.new.self
    (cleans_keep c.args.waiting.now c.clean.new.self c.in-Some.number c.args.slots.now.serials (subst (λ (t : List ℕ). Cleans c.args.waiting.now c.clean.new.self c.in-Some.number t) c.serials.ensures.all c.clean.ensures))

pub returns-clause-noted : goal.returns-clause-noted
returns-clause-noted c =
    tried_whole c.args.slots.now c.serials.ensures.len c.args.wanted.now.event c.args.wanted.now.date c.args.wanted.now.symbols c.args.waiting.now c.clean.new.self c.in-Some.number c.args.key (search rules)
    (subst (λ (t : List ℕ). Cleans c.args.waiting.now c.clean.new.self c.in-Some.number t) c.serials.ensures.all c.clean.ensures) c.bucket-handle-items.result.now c.loop-handle.handle-index (search rules) c.bucket-handle-items.ensures c.args.places.now.items c.loop-handle.places.items c.loop-handle.invariant
