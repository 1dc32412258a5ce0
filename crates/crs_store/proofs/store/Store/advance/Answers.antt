use Rattle.std.proofs.Common.{List, length, refl, sym, subst}
use Rattle.crs_model.specs.declared.plan.Plan.{Plan}
use Rattle.crs_model.specs.declared.recognition.Recognition.{Recognition}
use Rattle.crs_store.specs.Answers.{MovesOn}
use Rattle.crs_store.specs.Found.{founds, held_in}
use Rattle.crs_living.specs.Slots.{members}
use Rattle.crs_living.specs.Parts.{AllOf}
use Rattle.crs_store.specs.Tidy.{IsTidyHolding}
use Rattle.crs_store.proofs.Assembled.{all_placed, founds_of, tidy_at_mark}
use Rattle.crs_store.proofs.Advancing.{advanced_from}
use Rattle.crs_store.proofs.Quiet.{quiet_moves, quiet_tidy}
use Rattle.crs_store.proofs.store.Store.advance.Goals as goal

pub move_on-requires-clause-kept : goal.move_on-requires-clause-kept
move_on-requires-clause-kept c = subst (λ (p : Plan). AllOf p (founds p c.self.inside.born.found.items)) (sym c.deref.ensures) (founds_of c.self.inside.plan.value c.self.inside.holding.slots c.self.inside.born.found.items c.self.invariant.0.instances)

pub invariant_of-self : goal.invariant_of-self
invariant_of-self c =
    let quiet = c.if-is_quiet.ensures {u = tt} in
    let held = c.self.inside.holding in
    tidy_at_mark c.self.inside.plan.value c.self.inside.hooks c.self.inside.number c.self.inside.focus c.self.inside.stopped (held_in c.self.inside.plan.value held.slots c.self.inside.born.found.items) (length (members held.slots.slots)) c.self.inside.date c.self.invariant.0 c.self.invariant.1 c.self.invariant.2 held c.self.inside.born.found.items c.args.h c.requires
    (quiet_tidy c.self.inside.plan.value c.self.inside.focus c.self.invariant.0.proper c.self.inside.hooks c.self.inside.date c.args.h c.if-h-self.false c.requires held quiet.len (c.self.invariant.3 c.if-self.false) (quiet.due refl))
    (founds_of c.self.inside.plan.value held.slots c.self.inside.born.found.items c.self.invariant.0.instances)

pub returns-then-is_quiet-clause-advanced : goal.returns-then-is_quiet-clause-advanced
returns-then-is_quiet-clause-advanced c =
    let quiet = c.if-is_quiet.ensures {u = tt} in
    let held = c.self.inside.holding in
    let plan = c.self.inside.plan.value in
    let rs = c.self.inside.born.found.items in
    let moves = quiet_moves plan c.self.inside.focus c.self.invariant.0.proper c.self.inside.hooks c.self.inside.date c.args.h c.if-h-self.false c.requires held quiet.len (c.self.invariant.3 c.if-self.false) (quiet.due refl) c.args.history.now c.self.inside.number c.args.mark (quiet.ripe refl) rs (quiet.found refl) in
    advanced_from (record { plan = plan; number = c.self.inside.number; focus = c.self.inside.focus; ranks = c.self.inside.hooks.ranks.value.items; held = held_in plan held.slots rs; placed = length (members held.slots.slots); date = c.self.inside.date; stopped = c.self.inside.stopped }) c.args.self.now
    (record { plan = plan; number = c.self.inside.number; focus = c.self.inside.focus; ranks = c.self.inside.hooks.ranks.value.items; held = held_in plan held.slots rs; placed = length (members held.slots.slots); date = c.args.h; stopped = c.self.inside.stopped }) c.args.history.now plan c.args.mark c.new-then-is_quiet.result c.args.h
    c.self.view_is c.self.invariant.0 refl (record { plan = refl; number = refl; focus = refl; ranks = refl }) refl
    (subst (λ (a : List Recognition). MovesOn plan c.self.inside.focus c.args.history.now c.self.inside.date c.args.h c.self.inside.number c.args.mark (held_in plan held.slots rs) (held_in plan held.slots rs) a) (sym c.new-then-is_quiet.ensures) moves)

pub invariant_of-self-in-Ok : goal.invariant_of-self-in-Ok
invariant_of-self-in-Ok c =
    tidy_at_mark c.self.inside.plan.value c.self.inside.hooks c.self.inside.number c.self.inside.focus c.self.inside.stopped (held_in c.self.inside.plan.value c.self.inside.holding.slots c.self.inside.born.found.items) (length (members c.self.inside.holding.slots.slots)) c.self.inside.date c.self.invariant.0 c.self.invariant.1 c.self.invariant.2 c.move_on.new.holding c.move_on.new.found.items c.args.h c.requires
    (subst (λ (p : Plan). IsTidyHolding p c.self.inside.focus c.self.inside.hooks c.move_on.new.holding c.args.h) c.deref.ensures ((c.in-Ok.ensures {u = tt}).tidy))
    (subst (λ (rs : List Recognition). AllOf c.self.inside.plan.value (founds c.self.inside.plan.value rs)) (sym (c.in-Ok.ensures {u = tt}).none) tt)

pub returns-in-Ok-clause-placed : goal.returns-in-Ok-clause-placed
returns-in-Ok-clause-placed c = λ later. all_placed c.self.inside.plan.value c.move_on.new.holding.slots c.move_on.new.found.items ((c.in-Ok.ensures {u = tt}).none)

pub returns-in-Ok-clause-advanced : goal.returns-in-Ok-clause-advanced
returns-in-Ok-clause-advanced c =
    let p = c.deref.result.now in
    let moves = subst (λ (q : Plan). MovesOn p c.self.inside.focus c.args.history.now c.self.inside.date c.args.h c.self.inside.number c.args.mark (held_in q c.self.inside.holding.slots c.self.inside.born.found.items) (held_in q c.move_on.new.holding.slots c.move_on.new.found.items) c.in-Ok.found) c.deref.ensures ((c.in-Ok.ensures {u = tt}).moved) in
    advanced_from (record { plan = c.self.inside.plan.value; number = c.self.inside.number; focus = c.self.inside.focus; ranks = c.self.inside.hooks.ranks.value.items; held = held_in c.self.inside.plan.value c.self.inside.holding.slots c.self.inside.born.found.items; placed = length (members c.self.inside.holding.slots.slots); date = c.self.inside.date; stopped = c.self.inside.stopped }) c.args.self.now
    (record { plan = c.self.inside.plan.value; number = c.self.inside.number; focus = c.self.inside.focus; ranks = c.self.inside.hooks.ranks.value.items; held = held_in c.self.inside.plan.value c.move_on.new.holding.slots c.move_on.new.found.items; placed = length (members c.move_on.new.holding.slots.slots); date = c.args.h; stopped = c.self.inside.stopped }) c.args.history.now c.deref.result.now c.args.mark c.in-Ok.found c.args.h
    c.self.view_is c.self.invariant.0 c.deref.ensures (record { plan = refl; number = refl; focus = refl; ranks = refl }) refl moves
