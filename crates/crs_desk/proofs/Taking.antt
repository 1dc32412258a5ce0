-- What was taken of an input so far, in rising turns.
use Rattle.std.proofs.Common.{◌≡◌, ◌∙◌, ap, sym, refl, ℕ, ◌+◌, ◌-◌, ◌<◌, ◌≤◌, List, [], ◌∷◌, ◌++◌, length, take, drop, arith, add-zero, length-append, length-take-le, min, Ok, Err, Vec}
use Rattle.std.proofs.lemmas.List.{length-drop}
use Rattle.std.proofs.Math.Seq.{take-add, take-length}
use Rattle.std.specs.List.{AllByRecursion}
use Rattle.std.specs.declared.alloc.Global.{Global}
use Rattle.crs_desk.specs.Desk.{Told, Stream, stream_at, turn_of, Reads, Took, Rises, HasRoom}
use Rattle.crs_desk.specs.ReadAll.{ReadsAll}
use Rattle.crs_desk.specs.declared.turn.Turn.{Turn}
use Rattle.crs_desk.specs.declared.desk.DeskError.TheVariants as errors
use Rattle.crs_desk.specs.declared.whole.ReadAllError.TheVariants as refusals
use Rattle.crs_desk.proofs.Calls.{took_none, took_more, took_failed, took_refused, rises_push, rises_weaker, stream_after}

pub record Taken (old : Told) (input limit : ℕ) (bytes : List ℕ) (now : Told) : Type 0 where
  pub more : List Turn
  pub took : Took old input (length bytes) more now
  pub rises : Rises input (stream_at old.left input).taken ((stream_at old.left input).taken + length bytes) more
  pub bytes_are : bytes ≡ take (length bytes) (stream_at old.left input).rest
  pub rooms : AllByRecursion (HasRoom ((stream_at old.left input).taken + (limit + 1))) more

pub taken_none : (t : Told) (i limit : ℕ) → Taken t i limit [] t
taken_none t i limit = record { more = []; took = took_none t i; rises = omega arith; bytes_are = refl; rooms = tt }

all_put : {A : Type 0} (P : A → Type 0) (xs : List A) (x : A) → AllByRecursion P xs → P x → AllByRecursion P (xs ++ x ∷ [])
all_put P [] x h p = (p, tt)
all_put P (y ∷ xs) x h p = (h.0, all_put P xs x h.1 p)

-- the stream that is left
stream_now : (old now : Told) (i limit : ℕ) (bytes : List ℕ) → i < length old.left → Taken old i limit bytes now → stream_at now.left i ≡ (let s = stream_at old.left i in record { taken = s.taken + length bytes; rest = drop (length bytes) s.rest })
stream_now old now i limit bytes lt h = ap (λ (l : List Stream). stream_at l i) h.took.left ∙ stream_after old.left i (length bytes) lt

turn_taken : (old now : Told) (i limit room : ℕ) (bytes : List ℕ) → i < length old.left → Taken old i limit bytes now → (turn_of now i room).taken ≡ (stream_at old.left i).taken + length bytes
turn_taken old now i limit room bytes lt h = ap (λ (s : Stream). s.taken) (stream_now old now i limit bytes lt h)

rises_on : (old now : Told) (i limit room : ℕ) (bytes : List ℕ) → i < length old.left → (h : Taken old i limit bytes now) → Rises i (stream_at old.left i).taken ((stream_at old.left i).taken + length bytes + 1) (h.more ++ turn_of now i room ∷ [])
rises_on old now i limit room bytes lt h =
    let e = turn_taken old now i limit room bytes lt h in
    rises_weaker _ _ _ _ _ (rises_push i _ _ h.more (turn_of now i room) h.rises refl (omega (arith, e))) (omega (arith, e))

rooms_on : (old now : Told) (i limit room : ℕ) (bytes : List ℕ) → i < length old.left → (h : Taken old i limit bytes now) → room ≡ min 4096 (limit + 1 - length bytes)
    → AllByRecursion (HasRoom ((stream_at old.left i).taken + (limit + 1))) (h.more ++ turn_of now i room ∷ [])
rooms_on old now i limit room bytes lt h e =
    let taken = turn_taken old now i limit room bytes lt h in
    let rest : (stream_at old.left i).taken + (limit + 1) - (turn_of now i room).taken ≡ limit + 1 - length bytes = rw taken (omega arith) in
    all_put (HasRoom ((stream_at old.left i).taken + (limit + 1))) h.more (turn_of now i room) h.rooms (e ∙ ap (λ (n : ℕ). min 4096 n) (sym rest))

pub taken_more : (old mid new : Told) (i limit n : ℕ) (bytes buf front : List ℕ) → i < length old.left → Taken old i limit bytes mid → Reads mid i (Ok n) buf new → 0 < n → front ≡ take n buf → n ≤ length buf
    → length buf ≡ min 4096 (limit + 1 - length bytes) → Taken old i limit (bytes ++ front) new
taken_more old mid new i limit n bytes buf front lt h r pos fe nb room =
    let rest_is = ap (λ (s : Stream). s.rest) (stream_now old mid i limit bytes lt h) in
    let fl : length front ≡ n = rw fe (length-take-le n buf nb) in
    let len : length (bytes ++ front) ≡ length bytes + n = rw (length-append, fl) refl in
    record {
      more = h.more ++ turn_of mid i (length buf) ∷ [];
      took = rw len (took_more old mid new i (length bytes) n h.more buf lt h.took r);
      rises = rw len (rises_weaker _ _ _ _ _ (rises_on old mid i limit (length buf) bytes lt h) (omega arith));
      rooms = rooms_on old mid i limit (length buf) bytes lt h room;
      bytes_are = rw (len, take-add, ← h.bytes_are, ← rest_is, ← r.bytes.bytes, ← fe) refl;
    }

pub after_failed : (old mid new : Told) (i limit : ℕ) (bytes buf : List ℕ) → i < length old.left → Taken old i limit bytes mid → Reads mid i (Err errors.Failed) buf new → length bytes ≤ limit → length buf ≡ min 4096 (limit + 1 - length bytes) → ReadsAll old i limit (Err refusals.Failed) new
after_failed old mid new i limit bytes buf lt h r le room = record {
  k = length bytes;
  more = h.more ++ turn_of mid i (length buf) ∷ [];
  took = took_failed old mid new i _ h.more buf h.took r;
  rises = rises_on old mid i limit (length buf) bytes lt h;
  rooms = rooms_on old mid i limit (length buf) bytes lt h room;
  answered = le;
}

pub after_refused : (old mid new : Told) (i limit : ℕ) (bytes buf : List ℕ) → Taken old i limit bytes mid → Reads mid i (Err errors.Memory) buf new → length bytes ≤ limit + 1 → ReadsAll old i limit (Err refusals.Memory) new
after_refused old mid new i limit bytes buf h r le = record {
  k = length bytes;
  more = h.more;
  took = took_refused old mid new i _ h.more buf h.took r;
  rises = rises_weaker _ _ _ _ _ h.rises (omega arith);
  rooms = h.rooms;
  answered = le;
}

pub stopped : (old now : Told) (i limit : ℕ) (bytes : List ℕ) → Taken old i limit bytes now → length bytes ≤ limit + 1 → ReadsAll old i limit (Err refusals.Memory) now
stopped old now i limit bytes h le = record { k = length bytes; more = h.more; took = h.took; rises = rises_weaker _ _ _ _ _ h.rises (omega arith); rooms = h.rooms; answered = le }

pub too_long : (old now : Told) (i limit : ℕ) (bytes : List ℕ) → Taken old i limit bytes now → length bytes ≡ limit + 1 → ReadsAll old i limit (Err refusals.Long) now
too_long old now i limit bytes h e = record { k = length bytes; more = h.more; took = h.took; rises = rises_weaker _ _ _ _ _ h.rises (omega arith); rooms = h.rooms; answered = e }

pub at_end : (old mid new : Told) (i limit n : ℕ) (v : Vec ℕ Global) (buf : List ℕ) → i < length old.left → Taken old i limit v.items mid → Reads mid i (Ok n) buf new → n ≡ 0 → length v.items ≤ limit → length buf ≡ min 4096 (limit + 1 - length v.items) → ReadsAll old i limit (Ok v) new
at_end old mid new i limit n v buf lt h r z le room =
    let rest_is = ap (λ (s : Stream). s.rest) (stream_now old mid i limit v.items lt h) in
    let none : drop (length v.items) (stream_at old.left i).rest ≡ [] = sym rest_is ∙ r.bytes.end z in
    let long : length v.items ≡ length (stream_at old.left i).rest = omega (arith, ap length none, length-drop (length v.items) (stream_at old.left i).rest, h.took.within) in
    record {
      k = length v.items;
      more = h.more ++ turn_of mid i (length buf) ∷ [];
      took = rw (z, add-zero) at (took_more old mid new i (length v.items) n h.more buf lt h.took r);
      rises = rises_on old mid i limit (length buf) v.items lt h;
      rooms = rooms_on old mid i limit (length buf) v.items lt h room;
      answered = (h.bytes_are ∙ rw long (take-length _), long, le);
    }
