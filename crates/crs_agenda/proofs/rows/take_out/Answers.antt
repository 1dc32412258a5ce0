use Rattle.std.proofs.Common.{get_or, ◌∷◌, [], sym, subst, List}
use Rattle.std.specs.List.Sorted.{IsPermutation}
use Rattle.crs_agenda.specs.declared.timed.Timed.{Timed}
use Rattle.crs_agenda.specs.Places.{Stands, InPlace, pairs_of}
use Rattle.crs_agenda.proofs.Buckets.{set_in_place}
use Rattle.crs_agenda.proofs.Turns.{of_rest, put_back}
use Rattle.crs_agenda.proofs.rows.take_out.Goals as goal

pub returns-clause-rest : goal.returns-clause-rest
returns-clause-rest c =
    let bs = c.args.buckets.now in
    let t = c.take_at-timed.result in
    subst (λ (xs : List (List Timed)). IsPermutation (pairs_of bs) (t ∷ pairs_of xs)) (sym c.take_at-timed.ensures.others)
    (put_back bs c.args.at t (get_or c.take_at-timed.new.buckets c.args.at []) c.requires.within c.take_at-timed.ensures.rest)

pub returns-clause-in_place : goal.returns-clause-in_place
returns-clause-in_place c =
    let bs = c.args.buckets.now in
    let at = c.args.at in
    let rest = get_or c.take_at-timed.new.buckets at [] in
    subst (λ (xs : List (List Timed)). InPlace c.args.base xs) (sym c.take_at-timed.ensures.others)
    (set_in_place c.args.base bs at rest c.requires.within c.requires.in_place
    (of_rest (λ u. Stands c.args.base at u.date) (get_or bs at []) c.take_at-timed.result rest c.take_at-timed.ensures.rest (c.requires.in_place at)))
