-- The inputs of a desk in memory, as streams.
use Rattle.std.proofs.Common.{◌≡◌, ◌∙◌, ap, sym, ℕ, ◌+◌, ◌<◌, ◌≤◌, List, [], ◌++◌, length, take, drop, set, get_or, map, length-take-le, refl}
use Rattle.std.proofs.lemmas.List.{get_or-map, map-set}
use Rattle.std.proofs.lemmas.List.{drop-drop, take_at, nil_from_length, set-get_or}
use Rattle.crs_desk.specs.Desk.{Told, Stream, stream_at, Comes}
use Rattle.crs_desk.specs.Memory.{stream_of, reads_so_far}
use Rattle.crs_desk.specs.FailingCalls.{raised}
use Rattle.crs_desk.specs.declared.memory.Input.{Input}

pub stream_is : {A : Type 0} (f : A → Stream) (xs : List A) (i : ℕ) (x : A) → i < length xs → x ≡ get_or xs i x
    → stream_at (map f xs) i ≡ f x
stream_is f xs i x lt is = get_or-map f xs i x _ lt ∙ ap f (sym is)

-- n bytes more of an input were read
pub read_on : (at n : ℕ) (bytes : List ℕ)
    → ◌≡◌ {A = Stream} (record { taken = at + n; rest = drop (at + n) bytes }) (record { taken = at + n; rest = drop n (drop at bytes) })
read_on at n bytes = rw drop-drop refl

-- n bytes were copied from an input's place on to the front of a buffer
pub comes : {A : Type 0} (f : A → Stream) (old : Told) (xs : List A) (i n : ℕ) (x y : A) (buf front back : List ℕ) (new : Told)
    → new.left ≡ map f (set xs i y) → old.left ≡ map f xs → stream_at (map f xs) i ≡ f x
    → f y ≡ record { taken = (f x).taken + n; rest = drop n (f x).rest }
    → front ≡ take n (f x).rest → buf ≡ front ++ back
    → n ≤ length (f x).rest → (n ≡ 0 → length (f x).rest ≡ 0)
    → Comes old i n buf new
comes f old xs i n x y buf front back new nl ol at same fe be le end =
    let st : stream_at old.left i ≡ f x = rw (ol) at in
    record {
      bytes = rw (be, st, ← fe) (take_at front back n (rw fe (length-take-le n _ le)));
      enough = rw st le;
      end = λ z. rw st (nil_from_length _ (end z));
      left = nl ∙ map-set f xs i y ∙ sym (rw (ol, at) (ap (λ s. set (map f xs) i s) (sym same)));
    }

-- the count of reads of an input
pub reads_is : (xs : List Input) (i : ℕ) (x : Input) → i < length xs → x ≡ get_or xs i x → get_or (map reads_so_far xs) i ([], 0) ≡ reads_so_far x
reads_is xs i x lt is = get_or-map reads_so_far xs i x _ lt ∙ ap reads_so_far (sym is)

-- an input that gave no bytes leaves the streams as they were
pub streams_kept : (xs : List Input) (i : ℕ) (x y : Input) → i < length xs → x ≡ get_or xs i x → stream_of y ≡ stream_of x → map stream_of (set xs i y) ≡ map stream_of xs
streams_kept xs i x y lt is e = map-set stream_of xs i y
    ∙ ap (λ s. set (map stream_of xs) i s) (e ∙ sym (stream_is stream_of xs i x lt is))
    ∙ set-get_or (map stream_of xs) i (record { taken = 0; rest = [] })

-- one more read of an input
pub reads_once : (xs : List Input) (i : ℕ) (x y : Input) → i < length xs → x ≡ get_or xs i x → reads_so_far y ≡ (x.name.items, raised x.reads) → map reads_so_far (set xs i y) ≡ (let r = get_or (map reads_so_far xs) i ([], 0) in set (map reads_so_far xs) i (r.0, raised r.1))
reads_once xs i x y lt is e = map-set reads_so_far xs i y ∙ rw (reads_is xs i x lt is, e) refl
