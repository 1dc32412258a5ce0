use Rattle.std.proofs.Common.{[], ◌∷◌, List, ℕ, refl, sym, subst, inl}
use Rattle.crs_base.specs.Words.{IsIn}
use Rattle.crs_base.proofs.Words.{in_append_left, in_append_right}
use Rattle.crs_waiting.proofs.places.note_place.Goals as goal

pub returns-clause-noted : goal.returns-clause-noted
returns-clause-noted c = subst (λ (t : List ℕ). IsIn c.args.place t) (sym c.in_ok-push.ensures.items) (in_append_right c.args.places.now.items (c.args.place ∷ []) c.args.place (inl refl))

pub returns-clause-kept : goal.returns-clause-kept
returns-clause-kept c = λ p i. subst (λ (t : List ℕ). IsIn p t) (sym c.in_ok-push.ensures.items) (in_append_left c.args.places.now.items (c.args.place ∷ []) p i)
