-- What each call leaves true of a calendar.
use Rattle.std.proofs.Common.{◌≡◌, ℕ, ◌+◌, ◌-◌, ◌<◌, ◌≤◌, arith, List, [], ◌∷◌, ◌++◌, length, get_or, set, All}
use Rattle.std.specs.List.Sorted.{IsPermutation}
use Rattle.std.proofs.lemmas.List.Sorted.{length_permutation, All-permutation}
use Rattle.std.proofs.lemmas.List.Elements.{All-cons}
use Rattle.crs_agenda.specs.declared.timed.Timed.{Timed}
use Rattle.crs_agenda.specs.Places.{Stands, InPlace, pairs_of}
use Rattle.crs_agenda.specs.Calendars.{IsCalendar}
use Rattle.crs_agenda.proofs.Buckets.{put_one, put_in_place}
use Rattle.crs_agenda.proofs.Turns.{of_rest}

-- bounds that only go down
pub lower : (w v : ℕ) (ts : List Timed) → w ≤ v → All (λ t. v ≤ t.date) ts → All (λ t. w ≤ t.date) ts
lower w v ts h all = λ k d i. let there : v ≤ (get_or ts k d).date = all k d i in omega arith

pub opened : (base now wait size : ℕ) (bs new : List (List Timed)) → IsCalendar base now wait size bs → pairs_of new ≡ pairs_of bs → ((c : ℕ) → get_or new c [] ≡ get_or bs c []) → IsCalendar base now wait size new
opened base now wait size bs new is same at = record {
  in_place = λ c. rw (at c) (is.in_place c);
  counted = rw same is.counted;
  start = is.start;
  later = is.later;
  waits = rw same is.waits;
}

pub put : (base now wait size at w : ℕ) (bs : List (List Timed)) (t : Timed) → IsCalendar base now wait size bs → at < length bs → Stands base at t.date → now ≤ w → w ≤ wait → w ≤ t.date → IsCalendar base now w (size + 1) (set bs at (get_or bs at [] ++ t ∷ []))
put base now wait size at w bs t is h s later low below =
    let p : IsPermutation (t ∷ pairs_of bs) (pairs_of (set bs at (get_or bs at [] ++ t ∷ []))) = put_one bs at t h in
    let n : length (pairs_of (set bs at (get_or bs at [] ++ t ∷ []))) ≡ length (t ∷ pairs_of bs) = length_permutation _ _ p in
    let m = is.counted in
    record {
      in_place = put_in_place base bs at t h is.in_place s;
      counted = omega arith;
      start = is.start;
      later = later;
      waits = All-permutation (λ u. w ≤ u.date) _ _ p (All-cons (λ u. w ≤ u.date) t (pairs_of bs) below (lower w wait (pairs_of bs) low is.waits));
    }

pub waited : (base now wait size h w : ℕ) (bs : List (List Timed)) → IsCalendar base now wait size bs → now ≤ h → h ≤ w → All (λ t. w ≤ t.date) (pairs_of bs) → IsCalendar base h w size bs
waited base now wait size h w bs is from to all = record {
  in_place = is.in_place;
  counted = is.counted;
  start = (let s : base ≤ now = is.start in omega arith);
  later = to;
  waits = all;
}

pub taken : (base now wait size new_base : ℕ) (bs new : List (List Timed)) (t : Timed) → IsCalendar base now wait size bs → IsPermutation (pairs_of bs) (t ∷ pairs_of new) → InPlace new_base new → new_base ≤ t.date → All (λ u. t.date ≤ u.date) (pairs_of bs) → IsCalendar new_base t.date t.date (size - 1) new
taken base now wait size new_base bs new t is p in_place start all =
    let n : length (t ∷ pairs_of new) ≡ length (pairs_of bs) = length_permutation _ _ p in
    let m = is.counted in
    record {
      in_place = in_place;
      counted = omega arith;
      start = start;
      later = omega arith;
      waits = of_rest (λ u. t.date ≤ u.date) (pairs_of bs) t (pairs_of new) p all;
    }
