-- What a sweep keeps.
use Rattle.std.proofs.Common.{◌≡◌, ℕ, zero, suc, ◌+◌, ◌<◌, ◌≤◌, refl, sym, ap, ◌∙◌, arith, List, [], ◌∷◌, ◌++◌, length, get_or, set, map, Bool, length-append}
use Rattle.std.specs.List.{filter}
use Rattle.std.proofs.lemmas.List.Sorted.{length_permutation}
use Rattle.std.proofs.lemmas.List.Elements.{filter-append, All-filter}
use Rattle.crs_agenda.specs.declared.timed.Timed.{Timed}
use Rattle.crs_agenda.specs.Places.{Stands, pairs_of}
use Rattle.crs_agenda.specs.Calendars.{IsCalendar}
use Rattle.crs_agenda.proofs.Buckets.{get_out, set_out}

-- the pairs of the kept are the kept pairs
pub pairs-filter : (p : Timed → Bool) (bs : List (List Timed)) → pairs_of (map (filter p) bs) ≡ filter p (pairs_of bs)
pairs-filter p [] = refl
pairs-filter p (b ∷ bs) = ap (λ (ts : List Timed). filter p b ++ ts) (pairs-filter p bs) ∙ sym (filter-append p b (pairs_of bs))

get-filter : (p : Timed → Bool) (bs : List (List Timed)) (at : ℕ) → get_or (map (filter p) bs) at [] ≡ filter p (get_or bs at [])
get-filter p [] at = refl
get-filter p (b ∷ bs) zero = refl
get-filter p (b ∷ bs) (suc at) = get-filter p bs at

-- how many pairs there are once a bucket has others
pub counted-set : (bs : List (List Timed)) (at : ℕ) (xs : List Timed) → at < length bs → length (pairs_of (set bs at xs)) + length (get_or bs at []) ≡ length (pairs_of bs) + length xs
counted-set bs at xs h =
    let a : length (xs ++ pairs_of (set bs at [])) ≡ length (pairs_of (set bs at xs)) = length_permutation _ _ (set_out bs at xs h) in
    let b : length (get_or bs at [] ++ pairs_of (set bs at [])) ≡ length (pairs_of bs) = length_permutation _ _ (get_out bs at h) in
    omega (arith, length-append xs (pairs_of (set bs at [])), length-append (get_or bs at []) (pairs_of (set bs at [])))

-- a calendar of which some are kept
pub swept : (base now wait size new_size : ℕ) (bs new : List (List Timed)) (p : Timed → Bool) → IsCalendar base now wait size bs → new ≡ map (filter p) bs → new_size ≡ length (pairs_of new) → IsCalendar base now wait new_size new
swept base now wait size new_size bs new p is e n = record {
  in_place = λ c. rw (e, get-filter p bs c) (All-filter p (λ t. Stands base c t.date) (get_or bs c []) (is.in_place c));
  counted = n;
  start = is.start;
  later = is.later;
  waits = rw (e, pairs-filter p bs) (All-filter p (λ t. wait ≤ t.date) (pairs_of bs) is.waits);
}
