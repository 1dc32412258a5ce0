use Rattle.std.proofs.Common.{◌≡◌, ◌-◌, ◌≤◌, length, get_or, ◌∷◌, [], ◌∙◌, sym, ap, arith, subst, List, All}
use Rattle.std.specs.List.Sorted.{IsPermutation}
use Rattle.std.proofs.lemmas.List.{with_items_is}
use Rattle.std.proofs.lemmas.List.Sorted.{length_permutation}
use Rattle.crs_agenda.specs.declared.timed.Timed.{Timed}
use Rattle.crs_agenda.specs.Places.{pairs_of, AreEmptyBefore, IsEarliest}
use Rattle.crs_agenda.specs.Schedule.{Schedule}
use Rattle.crs_agenda.specs.Calendars.{IsCalendar}
use Rattle.crs_agenda.proofs.Least.{none_read, least_read, floor_read, in_place_read, earliest_read, least_of_all, empty_before}
use Rattle.crs_agenda.proofs.Changes.{waited, taken, lower}
use Rattle.crs_agenda.proofs.calendar.Calendar.take_due.Goals as goal

pub first_full-at-requires : goal.first_full-at-requires
first_full-at-requires c =
    let s = c.self.inside in
    let a = c.self.invariant.start in
    let b = c.self.invariant.later in
    subst (λ (xs : List (List Timed)). AreEmptyBefore c.start_of-from.result xs) (sym c.as_slice.ensures.value)
    (empty_before s.base s.wait c.start_of-from.result s.buckets.items c.self.invariant.in_place c.self.invariant.waits (omega arith) c.start_of-from.ensures.row c.start_of-from.ensures.here)

pub invariant_of-self : goal.invariant_of-self
invariant_of-self c =
    let s = c.self.inside in
    let bs = s.buckets.items in
    let l : s.buckets.len ≡ length bs = s.buckets.ok.0 in
    let d : s.stands ≡ c.args.self.now.date = ap (λ (x : Schedule). x.date) c.self.view_is in
    waited s.base s.stands s.wait s.size c.args.h c.max-self-inside.result bs c.self.invariant (omega arith) (let m = c.max-self-inside.ensures in omega (arith, m))
    (none_read (λ t. c.max-self-inside.result ≤ t.date) c.first_full-at.result bs c.as_slice.result.now c.as_slice.ensures.value c.first_full-at.ensures.before (omega arith))

pub returns-then-at-len-clause-none : goal.returns-then-at-len-clause-none
returns-then-at-len-clause-none c =
    let s = c.self.inside in
    let bs = s.buckets.items in
    let l : s.buckets.len ≡ length bs = s.buckets.ok.0 in
    subst (λ (x : Schedule). All (λ t. c.args.h ≤ t.date) x.pairs) c.self.view_is
    (none_read (λ t. c.args.h ≤ t.date) c.first_full-at.result bs c.as_slice.result.now c.as_slice.ensures.value c.first_full-at.ensures.before (omega arith))

pub invariant_of-self-then-h-floor : goal.invariant_of-self-then-h-floor
invariant_of-self-then-h-floor c =
    let s = c.self.inside in
    let bs = s.buckets.items in
    let l : s.buckets.len ≡ length bs = s.buckets.ok.0 in
    let a : length c.as_slice.result.now ≡ length bs = ap length c.as_slice.ensures.value in
    let d : s.stands ≡ c.args.self.now.date = ap (λ (x : Schedule). x.date) c.self.view_is in
    waited s.base s.stands s.wait s.size c.args.h c.floor-floor.result bs c.self.invariant (omega arith) (omega arith)
    (floor_read s.base c.first_full-at.result c.floor-floor.result bs c.as_slice.result.now c.index-bucket.result.now c.self.invariant.in_place c.as_slice.ensures.value c.first_full-at.ensures.before (omega arith) c.first_full-at.ensures.full c.index-bucket.ensures c.floor-floor.ensures)

pub returns-then-h-floor-clause-none : goal.returns-then-h-floor-clause-none
returns-then-h-floor-clause-none c =
    let s = c.self.inside in
    let bs = s.buckets.items in
    let l : s.buckets.len ≡ length bs = s.buckets.ok.0 in
    let a : length c.as_slice.result.now ≡ length bs = ap length c.as_slice.ensures.value in
    subst (λ (x : Schedule). All (λ t. c.args.h ≤ t.date) x.pairs) c.self.view_is
    (lower c.args.h c.floor-floor.result (pairs_of bs) (omega arith)
    (floor_read s.base c.first_full-at.result c.floor-floor.result bs c.as_slice.result.now c.index-bucket.result.now c.self.invariant.in_place c.as_slice.ensures.value c.first_full-at.ensures.before (omega arith) c.first_full-at.ensures.full c.index-bucket.ensures c.floor-floor.ensures))

pub earliest-pick-requires-clause-in_place : goal.earliest-pick-requires-clause-in_place
earliest-pick-requires-clause-in_place c =
    let s = c.self.inside in
    let bs = s.buckets.items in
    let l : s.buckets.len ≡ length bs = s.buckets.ok.0 in
    let a : length c.as_slice.result.now ≡ length bs = ap length c.as_slice.ensures.value in
    (s.base, in_place_read s.base c.first_full-at.result bs c.index-bucket.result.now c.self.invariant.in_place (omega arith) c.index-bucket.ensures)

pub invariant_of-self-then-h-least : goal.invariant_of-self-then-h-least
invariant_of-self-then-h-least c =
    let s = c.self.inside in
    let bs = s.buckets.items in
    let l : s.buckets.len ≡ length bs = s.buckets.ok.0 in
    let a : length c.as_slice.result.now ≡ length bs = ap length c.as_slice.ensures.value in
    let d : s.stands ≡ c.args.self.now.date = ap (λ (x : Schedule). x.date) c.self.view_is in
    waited s.base s.stands s.wait s.size c.args.h c.get-least.result.date bs c.self.invariant (omega arith) (omega arith)
    (least_read s.base c.first_full-at.result c.earliest-pick.result bs c.as_slice.result.now c.index-bucket.result.now c.get-least.result c.self.invariant.in_place c.as_slice.ensures.value c.first_full-at.ensures.before (omega arith) c.index-bucket.ensures c.earliest-pick.ensures c.get-least.ensures)

pub returns-then-h-least-clause-none : goal.returns-then-h-least-clause-none
returns-then-h-least-clause-none c =
    let s = c.self.inside in
    let bs = s.buckets.items in
    let l : s.buckets.len ≡ length bs = s.buckets.ok.0 in
    let a : length c.as_slice.result.now ≡ length bs = ap length c.as_slice.ensures.value in
    subst (λ (x : Schedule). All (λ t. c.args.h ≤ t.date) x.pairs) c.self.view_is
    (lower c.args.h c.get-least.result.date (pairs_of bs) (omega arith)
    (least_read s.base c.first_full-at.result c.earliest-pick.result bs c.as_slice.result.now c.index-bucket.result.now c.get-least.result c.self.invariant.in_place c.as_slice.ensures.value c.first_full-at.ensures.before (omega arith) c.index-bucket.ensures c.earliest-pick.ensures c.get-least.ensures))

pub overflow_sub-self : goal.overflow_sub-self
overflow_sub-self c =
    let t = c.take_out-taken.result.timed in
    let e : length (t ∷ pairs_of c.take_out-taken.new.buckets) ≡ length (pairs_of c.as_mut_slice.result.now) = length_permutation (pairs_of c.as_mut_slice.result.now) (t ∷ pairs_of c.take_out-taken.new.buckets) c.take_out-taken.ensures.rest in
    let f : length (pairs_of c.as_mut_slice.result.now) ≡ length (pairs_of c.self.inside.buckets.items) = ap (λ (xs : List (List Timed)). length (pairs_of xs)) c.as_mut_slice.ensures.value in
    let g = c.self.invariant.counted in
    omega arith

pub invariant_of-self-2 : goal.invariant_of-self-2
invariant_of-self-2 c =
    let s = c.self.inside in
    let bs = s.buckets.items in
    let new = c.take_out-taken.new.buckets in
    let t = c.take_out-taken.result.timed in
    let l : s.buckets.len ≡ length bs = s.buckets.ok.0 in
    let a : length c.as_slice.result.now ≡ length bs = ap length c.as_slice.ensures.value in
    let n : length new ≡ s.buckets.len = c.take_out-taken.auto.buckets ∙ c.as_mut_slice.ensures.len in
    let same : c.as_mut_slice.result.now ≡ bs = c.as_mut_slice.ensures.value in
    let first : IsEarliest c.earliest-pick.result (get_or bs c.first_full-at.result []) = earliest_read c.first_full-at.result c.earliest-pick.result bs c.index-bucket.result.now (omega arith) c.index-bucket.ensures c.earliest-pick.ensures in
    let e : AreEmptyBefore c.first_full-at.result bs = subst (λ (xs : List (List Timed)). AreEmptyBefore c.first_full-at.result xs) c.as_slice.ensures.value c.first_full-at.ensures.before in
    let it : t ≡ get_or (get_or bs c.first_full-at.result []) c.earliest-pick.result t = subst (λ (xs : List (List Timed)). t ≡ get_or (get_or xs c.first_full-at.result []) c.earliest-pick.result t) same c.take_out-taken.ensures.item in
    let p : IsPermutation (pairs_of bs) (t ∷ pairs_of new) = subst (λ (xs : List (List Timed)). IsPermutation (pairs_of xs) (t ∷ pairs_of new)) same c.take_out-taken.ensures.rest in
    subst (λ (xs : List (List Timed)). IsCalendar c.take_out-taken.result.base t.date t.date (s.size - 1) xs) (sym (with_items_is s.buckets new n))
    (taken s.base s.stands s.wait s.size c.take_out-taken.result.base bs new t c.self.invariant p c.take_out-taken.ensures.in_place c.take_out-taken.ensures.base
    (least_of_all s.base c.first_full-at.result c.earliest-pick.result bs t c.self.invariant.in_place e first it))

pub returns-clause-least : goal.returns-clause-least
returns-clause-least c =
    let s = c.self.inside in
    let bs = s.buckets.items in
    let t = c.take_out-taken.result.timed in
    let l : s.buckets.len ≡ length bs = s.buckets.ok.0 in
    let a : length c.as_slice.result.now ≡ length bs = ap length c.as_slice.ensures.value in
    let same : c.as_mut_slice.result.now ≡ bs = c.as_mut_slice.ensures.value in
    let first : IsEarliest c.earliest-pick.result (get_or bs c.first_full-at.result []) = earliest_read c.first_full-at.result c.earliest-pick.result bs c.index-bucket.result.now (omega arith) c.index-bucket.ensures c.earliest-pick.ensures in
    let e : AreEmptyBefore c.first_full-at.result bs = subst (λ (xs : List (List Timed)). AreEmptyBefore c.first_full-at.result xs) c.as_slice.ensures.value c.first_full-at.ensures.before in
    let it : t ≡ get_or (get_or bs c.first_full-at.result []) c.earliest-pick.result t = subst (λ (xs : List (List Timed)). t ≡ get_or (get_or xs c.first_full-at.result []) c.earliest-pick.result t) same c.take_out-taken.ensures.item in
    subst (λ (x : Schedule). All (λ u. t.date ≤ u.date) x.pairs) c.self.view_is
    (least_of_all s.base c.first_full-at.result c.earliest-pick.result bs t c.self.invariant.in_place e first it)
