use Rattle.std.proofs.Common.{◌≡◌, ◌≤◌, get_or, ◌∷◌, [], sym, subst, List, All}
use Rattle.std.specs.List.Sorted.{IsPermutation}
use Rattle.crs_agenda.specs.declared.timed.Timed.{Timed}
use Rattle.crs_agenda.specs.Places.{Stands, InPlace, AreIn, pairs_of}
use Rattle.crs_agenda.proofs.Buckets.{set_in_place}
use Rattle.crs_agenda.proofs.Turns.{of_taken, of_rest, earliest-all, turned_in_place, go_before, handed_on, put_back, undone}
use Rattle.crs_agenda.proofs.rows.turn.Goals as goal

pub spread-requires-clause-in_place : goal.spread-requires-clause-in_place
spread-requires-clause-in_place c =
    let bs = c.args.buckets.now in
    let t = c.take-timed.result in
    let at = c.args.at in
    let p = rw c.take_bucket-source.ensures.pairs at c.take-timed.ensures.rest in
    let s : Stands c.args.base at t.date = of_taken (λ u. Stands c.args.base at u.date) (get_or bs at []) t c.take-timed.new.self p (c.requires.in_place at) in
    subst (λ (xs : List (List Timed)). InPlace t.date xs) (sym c.take_bucket-source.ensures.rest) (turned_in_place c.args.base at bs t c.requires.within c.requires.in_place c.requires.before s)

pub spread-requires-clause-before : goal.spread-requires-clause-before
spread-requires-clause-before c =
    let bs = c.args.buckets.now in
    let t = c.take-timed.result in
    let at = c.args.at in
    let p = rw c.take_bucket-source.ensures.pairs at c.take-timed.ensures.rest in
    let is : t ≡ get_or (get_or bs at []) c.args.pick t = rw c.take_bucket-source.ensures.pairs at c.take-timed.ensures.item in
    let rest = c.take-timed.new.self in
    let s : Stands c.args.base at t.date = of_taken (λ u. Stands c.args.base at u.date) (get_or bs at []) t rest p (c.requires.in_place at) in
    let all : AreIn c.args.base at rest = of_rest (λ u. Stands c.args.base at u.date) (get_or bs at []) t rest p (c.requires.in_place at) in
    let least : All (λ u. t.date ≤ u.date) rest = of_rest (λ u. t.date ≤ u.date) (get_or bs at []) t rest p (earliest-all c.args.pick (get_or bs at []) t c.requires.earliest is) in
    go_before c.args.base at t rest c.requires.past s all least

pub returns-then-spread-clause-rest : goal.returns-then-spread-clause-rest
returns-then-spread-clause-rest c =
    let bs = c.args.buckets.now in
    let p = rw c.take_bucket-source.ensures.pairs at c.take-timed.ensures.rest in
    let q = rw c.take_bucket-source.ensures.rest at c.if-spread.ensures.all in
    subst (λ (xs : List (List Timed)). IsPermutation (pairs_of bs) (c.take-timed.result ∷ pairs_of xs)) (sym c.put_memory_back.ensures) (handed_on bs c.args.at c.take-timed.result c.take-timed.new.self c.spread.new.buckets c.requires.within p q)

pub returns-clause-rest : goal.returns-clause-rest
returns-clause-rest c =
    let bs = c.args.buckets.now in
    let p = rw c.take_bucket-source.ensures.pairs at c.take-timed.ensures.rest in
    let l = rw c.take_bucket-source.ensures.rest at c.spread.ensures.len in
    let d = rw c.take_bucket-source.ensures.rest at c.spread.ensures.rest in
    rw (undone bs c.spread.new.buckets c.clear_before.new.buckets c.args.at c.take-timed.new.self c.requires.before l d c.clear_before.ensures.len c.clear_before.ensures.rest c.clear_before.ensures.empty)
    (put_back bs c.args.at c.take-timed.result c.take-timed.new.self c.requires.within p)

pub returns-clause-in_place : goal.returns-clause-in_place
returns-clause-in_place c =
    let bs = c.args.buckets.now in
    let at = c.args.at in
    let t = c.take-timed.result in
    let rest = c.take-timed.new.self in
    let p = rw c.take_bucket-source.ensures.pairs at c.take-timed.ensures.rest in
    let l = rw c.take_bucket-source.ensures.rest at c.spread.ensures.len in
    let d = rw c.take_bucket-source.ensures.rest at c.spread.ensures.rest in
    let all : AreIn c.args.base at rest = of_rest (λ u. Stands c.args.base at u.date) (get_or bs at []) t rest p (c.requires.in_place at) in
    subst (λ (xs : List (List Timed)). InPlace c.args.base xs)
    (sym (undone bs c.spread.new.buckets c.clear_before.new.buckets at rest c.requires.before l d c.clear_before.ensures.len c.clear_before.ensures.rest c.clear_before.ensures.empty))
    (set_in_place c.args.base bs at rest c.requires.within c.requires.in_place all)
