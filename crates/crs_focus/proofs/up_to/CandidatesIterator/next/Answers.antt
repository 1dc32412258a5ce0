use Rattle.std.proofs.Common.{◌≡◌, true, ◌∷◌, filter, sym, ap, subst, ◌∙◌}
use Rattle.std.specs.Ordering.{is_gt}
use Rattle.crs_base.specs.Entry.{entry_cmp, IsInKeyOrder}
use Rattle.crs_base.specs.Seen.{entry_of}
use Rattle.crs_focus.specs.Candidacy.{is_up_to}
use Rattle.crs_focus.proofs.UpTo.{none_after, first_after}
use Rattle.crs_focus.proofs.up_to.CandidatesIterator.next.Goals as goal

pub returns-then-is_after-clause-steps : goal.returns-then-is_after-clause-steps
returns-then-is_after-clause-steps c =
    let x = entry_of c.in_ok-entry.entry.now.value in
    let rest = c.next.new.self in
    let until = entry_of c.self.inside.until.now in
    let split : c.self.inside.range ≡ x ∷ rest = c.in_ok-entry.ensures.steps in
    let beyond : is_gt (entry_cmp x until) ≡ true = ap (λ v. is_gt (entry_cmp (entry_of v) until)) (sym c.deref.ensures) ∙ sym c.is_after.ensures ∙ c.if-is_after.true in
    let order : IsInKeyOrder (x ∷ rest) = subst IsInKeyOrder split c.self.invariant in
    (sym c.self.view_is ∙ ap (filter (is_up_to until)) split ∙ first_after until x rest beyond order.0, none_after until x rest beyond order.0)
