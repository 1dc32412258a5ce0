use Rattle.std.proofs.Common.{sym, ◌∙◌, ◌≡◌, ℕ, subst, arith}
use Rattle.std.specs.Prelude.{Some}
use Rattle.crs_base.specs.Seen.{entry_of}
use Rattle.crs_model.specs.Partial.{at, put}
use Rattle.crs_model.proofs.Parts.{put_same, put_other}
use Rattle.crs_instance.specs.EntryLinks.{partial_of}
use Rattle.crs_instance.proofs.Linked.{linked_len}
use Rattle.crs_instance.proofs.links.entry_with.Goals as goal

pub returns-then-here-event : goal.returns-then-here-event
returns-then-here-event c = λ n inside linked.
    let l = linked_len n c.args.links.now in
    let x = entry_of c.args.entry.now.value in
    sym (subst (λ (e : ℕ). at (put (partial_of n c.args.links.now) e x) c.args.here ≡ Some x) c.if-here-event.true (put_same (partial_of n c.args.links.now) c.args.here x (omega arith)))

pub returns-else-here-event : goal.returns-else-here-event
returns-else-here-event c = λ n inside linked.
    c.entry_at.ensures.entry n linked ∙ sym (put_other (partial_of n c.args.links.now) c.args.event c.args.here (entry_of c.args.entry.now.value) c.if-here-event.false)
