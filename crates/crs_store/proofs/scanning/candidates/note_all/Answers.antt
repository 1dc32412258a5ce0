use Rattle.std.proofs.Common.{rules, ◌≡◌, ◌≤◌, ℕ, length, inl, inr, subst, ◌∙◌, arith}
use Rattle.std.proofs.lemmas.Bool.{cases_lt}
use Rattle.crs_base.specs.Words.{IsIn}
use Rattle.crs_living.proofs.Members.{at_within}
use Rattle.crs_store.proofs.scanning.candidates.note_all.Goals as goal

pub loop-place-preserved : goal.loop-place-preserved
loop-place-preserved c = λ p l. elim (cases_lt p c.loop-place.place) [
  | inl m ↦ (c.in_ok-note_place.ensures {u = tt}).kept p (c.loop-place.invariant p m)
  | inr g ↦
      let same : c.in-Ok.place ≡ c.loop-place.place = search rules in
      let last : c.loop-place.place ≡ p = omega arith in
      subst (λ (n : ℕ). IsIn n c.note_place.new.places.items) (same ∙ last) ((c.in_ok-note_place.ensures {u = tt}).noted)
]

pub returns : goal.returns
returns c = λ p i is.
    let l = at_within c.args.slots.now.slots p i is in
    let all : length c.args.slots.now.slots ≤ c.loop-place.place = search rules in
    c.loop-place.invariant p (omega arith)
