-- One call after another.
use Rattle.std.proofs.Common.{◌≡◌, ◌∙◌, ap, sym, refl, ℕ, ◌+◌, ◌<◌, ◌≤◌, List, [], ◌∷◌, ◌++◌, length, take, drop, arith, add-zero, add_assoc, append_assoc, append-nil, Ok, Err}
use Rattle.std.proofs.lemmas.List.{drop-drop, set-get_or, get_or-set_same}
use Rattle.std.proofs.Math.Seq.{take-add, set-set}
use Rattle.std.proofs.lemmas.List.{length-drop}
use Rattle.crs_desk.specs.Desk.{Told, Stream, stream_at, advanced, turn_of, Reads, Writes, Wrote, Took, Rises}
use Rattle.crs_desk.specs.declared.turn.Turn.{Turn}
use Rattle.crs_desk.specs.declared.desk.DeskError.TheVariants.{Failed, Memory}

pub take_on : (k n : ℕ) (xs : List ℕ) → take k xs ++ take n (drop k xs) ≡ take (k + n) xs
take_on k n xs = sym (take-add k n xs)

pub wrote_more : (old mid new : Told) (bytes : List ℕ) (k n : ℕ) → Wrote old bytes k mid → n ≤ length (drop k bytes) → Writes mid (drop k bytes) (Ok n) new → Wrote old bytes (k + n) new
wrote_more old mid new bytes k n w le h = record {
  files = h.files ∙ w.files;
  opened = h.opened ∙ w.opened;
  left = h.left ∙ w.left;
  turns = h.turns ∙ w.turns;
  within = grind (arith, length-drop {A = ℕ}, w.within);
  written = h.written ∙ rw (w.written, append_assoc, take_on) refl;
}

pub rises_push : (i low high : ℕ) (ts : List Turn) (t : Turn) → Rises i low high ts → t.input ≡ i → high ≤ t.taken → Rises i low (t.taken + 1) (ts ++ t ∷ [])
rises_push i low high [] t r same le = (same, omega arith, omega arith)
rises_push i low high (u ∷ ts) t r same le = (r.0, r.1, rises_push i (u.taken + 1) high ts t r.2 same le)

pub rises_weaker : (i low high higher : ℕ) (ts : List Turn) → Rises i low high ts → high ≤ higher → Rises i low higher ts
rises_weaker i low high higher [] r le = omega arith
rises_weaker i low high higher (u ∷ ts) r le = (r.0, r.1, rises_weaker i (u.taken + 1) high higher ts r.2 le)

pub took_none : (t : Told) (i : ℕ) → Took t i 0 [] t
took_none t i = record {
  files = refl;
  opened = refl;
  written = refl;
  within = omega arith;
  left = rw add-zero (sym (set-get_or t.left i (record { taken = 0; rest = [] })));
  turns = sym (append-nil t.turns);
}

-- the input after k bytes
pub stream_after : (left : List Stream) (i k : ℕ) → i < length left → stream_at (advanced left i k) i ≡ (let s = stream_at left i in record { taken = s.taken + k; rest = drop k s.rest })
stream_after left i k lt = get_or-set_same left i _ _ lt

pub advanced_twice : (left : List Stream) (i k n : ℕ) → i < length left → advanced (advanced left i k) i n ≡ advanced left i (k + n)
advanced_twice left i k n lt = rw (stream_after left i k lt, set-set, drop-drop, add_assoc) refl

enough_on : (old mid : Told) (i k n : ℕ) → i < length old.left → mid.left ≡ advanced old.left i k → n ≤ length (stream_at mid.left i).rest → n ≤ length (drop k (stream_at old.left i).rest)
enough_on old mid i k n lt e le =
    let at = ap (λ (l : List Stream). stream_at l i) e ∙ stream_after old.left i k lt in
    rw at at le

pub took_more : (old mid new : Told) (i k n : ℕ) (more : List Turn) (buf : List ℕ) → i < length old.left → Took old i k more mid → Reads mid i (Ok n) buf new → Took old i (k + n) (more ++ turn_of mid i (length buf) ∷ []) new
took_more old mid new i k n more buf lt t r = record {
  files = r.files ∙ t.files;
  opened = r.opened ∙ t.opened;
  written = r.written ∙ t.written;
  within = grind (arith, length-drop {A = ℕ}, t.within, enough_on old mid i k n lt t.left r.bytes.enough);
  left = r.bytes.left ∙ rw (t.left) (advanced_twice old.left i k n lt);
  turns = r.turns ∙ rw (t.turns, append_assoc) refl;
}

pub took_failed : (old mid new : Told) (i k : ℕ) (more : List Turn) (buf : List ℕ) → Took old i k more mid → Reads mid i (Err Failed) buf new → Took old i k (more ++ turn_of mid i (length buf) ∷ []) new
took_failed old mid new i k more buf t r = record {
  files = r.files ∙ t.files;
  opened = r.opened ∙ t.opened;
  written = r.written ∙ t.written;
  within = t.within;
  left = r.bytes ∙ t.left;
  turns = r.turns ∙ rw (t.turns, append_assoc) refl;
}

pub took_refused : (old mid new : Told) (i k : ℕ) (more : List Turn) (buf : List ℕ) → Took old i k more mid → Reads mid i (Err Memory) buf new → Took old i k more new
took_refused old mid new i k more buf t r = record {
  files = r.files ∙ t.files;
  opened = r.opened ∙ t.opened;
  written = r.written ∙ t.written;
  within = t.within;
  left = r.bytes ∙ t.left;
  turns = r.turns ∙ t.turns;
}
