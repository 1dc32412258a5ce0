-- Several logs, read by read.
use Rattle.std.proofs.Common.{◌≡◌, ◌∙◌, ap, sym, refl, subst, inl, inr, ℕ, zero, suc, ◌+◌, ◌-◌, ◌<◌, ◌≤◌, min, Bool, true, false, cond, ◌==◌, List, [], ◌∷◌, ◌++◌, length, take, drop, get_or, set, map}
use Rattle.std.proofs.Common.{arith, append-nil, append_assoc, add-zero, length-append, Ok, Err}
use Rattle.std.proofs.lemmas.Bool.{cases_eq, eq-eqb, ne_eqb}
use Rattle.std.proofs.lemmas.List.{length-set, get_or-set_same, get_or-set_other, set-get_or, get_or-append-add, drop-drop, length-drop, take-append-le}
use Rattle.std.proofs.lemmas.List.Elements.{filter-append}
use Rattle.std.proofs.Math.Seq.{take-length}
use Rattle.std.specs.List.{AllByRecursion}
use Rattle.crs_base.proofs.Alls.{all_put}
use Rattle.crs_desk.specs.Desk.{Told, Stream, stream_at, advanced, turn_of, Reads, Wrote, Rises, HasRoom}
use Rattle.crs_desk.specs.declared.turn.Turn.{Turn}
use Rattle.crs_desk.specs.declared.desk.DeskError.TheVariants as errors
use Rattle.crs_desk.proofs.Calls.{rises_push, rises_weaker}
use Rattle.crs_rounds.specs.FeedOutcomes.{AreRead, ArePrompt, IsPromptTurn, left_of, turns_of}
use Rattle.crs_outcomes.specs.Inputs.{bytes_of, after, IsRead}
use Rattle.crs_rounds.specs.PairTexts.{IsTextAtRead}
use Rattle.crs_rounds.specs.Sources.{HaveRead}
use Rattle.crs_frames.specs.Frames.{Frame}

eqb_same : (n : ℕ) → (n == n) ≡ true
eqb_same n = eq-eqb n n refl

eqb_other : (m n : ℕ) → (m ≡ n → ⊥) → (m == n) ≡ false
eqb_other m n d = ne_eqb m n d

-- ---- what is left of the logs

left_at : (logs : List (List ℕ)) (ts : List ℕ) (n : ℕ) (d : Stream) → length ts ≡ length logs → n < length logs
    → get_or (left_of logs ts) n d ≡ after (get_or logs n []) (get_or ts n 0)
left_at [] ts n d e l = absurd (omega (arith, l))
left_at (log ∷ logs) [] n d e l = absurd (omega (arith, e))
left_at (log ∷ logs) (t ∷ ts) zero d e l = refl
left_at (log ∷ logs) (t ∷ ts) (suc n) d e l = left_at logs ts n d (omega (arith, e)) (omega (arith, l))

left_set : (logs : List (List ℕ)) (ts : List ℕ) (n v : ℕ) → length ts ≡ length logs → n < length logs
    → set (left_of logs ts) n (after (get_or logs n []) v) ≡ left_of logs (set ts n v)
left_set [] ts n v e l = absurd (omega (arith, l))
left_set (log ∷ logs) [] n v e l = absurd (omega (arith, e))
left_set (log ∷ logs) (t ∷ ts) zero v e l = refl
left_set (log ∷ logs) (t ∷ ts) (suc n) v e l = ap (λ (ss : List Stream). after log t ∷ ss) (left_set logs ts n v (omega (arith, e)) (omega (arith, l)))

set_behind : (xs ys : List Stream) (n : ℕ) (v : Stream) → set (xs ++ ys) (length xs + n) v ≡ xs ++ set ys n v
set_behind [] ys n v = let e : 0 + n ≡ n = omega arith in ap (λ k. set ys k v) e
set_behind (x ∷ xs) ys n v =
    let e : suc (length xs) + n ≡ suc (length xs + n) = omega arith in
    ap (λ k. set (x ∷ (xs ++ ys)) k v) e ∙ ap (λ (ss : List Stream). x ∷ ss) (set_behind xs ys n v)

-- ---- turns

turns_by : (b : Bool) (t : Turn) → b ≡ true → cond b (t ∷ []) [] ≡ t ∷ []
turns_by true t e = refl
turns_by false t e = cc

none_by : (b : Bool) (t : Turn) → b ≡ false → cond b (t ∷ []) [] ≡ []
none_by true t e = cc
none_by false t e = refl

own_turn : (i : ℕ) (ts : List Turn) (t : Turn) → (t.input == i) ≡ true → turns_of i (ts ++ t ∷ []) ≡ turns_of i ts ++ t ∷ []
own_turn i ts t e = filter-append (λ (u : Turn). u.input == i) ts (t ∷ []) ∙ ap (λ (us : List Turn). turns_of i ts ++ us) (turns_by (t.input == i) t e)

other_turn : (i : ℕ) (ts : List Turn) (t : Turn) → (t.input == i) ≡ false → turns_of i (ts ++ t ∷ []) ≡ turns_of i ts
other_turn i ts t e =
    filter-append (λ (u : Turn). u.input == i) ts (t ∷ []) ∙ ap (λ (us : List Turn). turns_of i ts ++ us) (none_by (t.input == i) t e) ∙ append-nil (turns_of i ts)

module _ (f : Frame) (base limit : ℕ) (old : Told) (names : List (List ℕ)) where
  abbrev logs : List (List ℕ)
  logs = map (bytes_of old) names

  -- what stood before a turn still stands when more is written
  prompt_on : (w x : List ℕ) (ts : List Turn) → ArePrompt f logs base old.written w ts → ArePrompt f logs base old.written (w ++ x) ts
  prompt_on w x [] p = tt
  prompt_on w x (t ∷ ts) p = (
    (
      p.0.0,
      p.0.1,
      p.0.2,
      omega (arith, p.0.3, length-append w x),
      (p.0.4.0, p.0.4.1, take-append-le t.written w x p.0.3 ∙ p.0.4.2),
    ),
    prompt_on w x ts p.1,
  )

  -- more was written
  pub have_written : (ts : List ℕ) (turns : List Turn) (now new : Told) (out : List ℕ) (k : ℕ) → HaveRead f base limit old names ts turns now → Wrote now out k new
      → HaveRead f base limit old names ts turns new
  have_written ts turns now new out k h w = record {
    base_is = h.base_is;
    files = w.files ∙ h.files;
    opened = w.opened ∙ h.opened;
    left = w.left ∙ h.left;
    turns_are = w.turns ∙ h.turns_are;
    read = h.read;
    prompt = subst (λ (x : List ℕ). ArePrompt f logs base old.written x turns) (sym w.written) (prompt_on now.written (take k out) turns h.prompt);
  }

  -- ---- a read of the log of feed n
  module _ (ts : List ℕ) (turns : List Turn) (now : Told) (h : HaveRead f base limit old names ts turns now) (n : ℕ) (l : n < length logs) where
    abbrev log : List ℕ
    log = get_or logs n []

    abbrev t : ℕ
    t = get_or ts n 0

    stream_is : stream_at now.left (base + n) ≡ after log t
    stream_is =
        ap (λ (ss : List Stream). stream_at ss (base + n)) h.left
        ∙ ap (λ k. stream_at (old.left ++ left_of logs ts) (k + n)) (sym h.base_is)
        ∙ get_or-append-add old.left (left_of logs ts) n (record { taken = 0; rest = [] })
        ∙ left_at logs ts n (record { taken = 0; rest = [] }) h.read.count l

    -- so many bytes more are taken
    advanced_is : (c : ℕ) → advanced now.left (base + n) c ≡ old.left ++ left_of logs (set ts n (t + c))
    advanced_is c =
        let then : Stream = record { taken = t + c; rest = drop c (drop t log) } in
        let is : then ≡ after log (t + c) = (λ i. record { taken = t + c; rest = drop-drop c t log i }) in
        ap (λ (s : Stream). set now.left (base + n) (record { taken = s.taken + c; rest = drop c s.rest })) stream_is
        ∙ ap (λ (ss : List Stream). set ss (base + n) then) h.left
        ∙ ap (λ k. set (old.left ++ left_of logs ts) (k + n) then) (sym h.base_is)
        ∙ set_behind old.left (left_of logs ts) n then
        ∙ ap (λ (s : Stream). old.left ++ set (left_of logs ts) n s) is
        ∙ ap (λ (ss : List Stream). old.left ++ ss) (left_set logs ts n (t + c) h.read.count l)

    -- the turn of the read
    module _ (room : ℕ) (rises : Rises (base + n) 0 t (turns_of (base + n) turns)) (room_is : room ≡ min 4096 (limit - t)) where
      abbrev turn : Turn
      turn = turn_of now (base + n) room

      abbrev more : List Turn
      more = turns ++ turn ∷ []

      taken_is : turn.taken ≡ t
      taken_is = ap (λ (s : Stream). s.taken) stream_is

      own_turns : turns_of (base + n) more ≡ turns_of (base + n) turns ++ turn ∷ []
      own_turns = own_turn (base + n) turns turn (eqb_same (base + n))

      pub rises_now : Rises (base + n) 0 (t + 1) (turns_of (base + n) more)
      rises_now = subst (Rises (base + n) 0 (t + 1)) (sym own_turns)
          (subst (λ k. Rises (base + n) 0 (k + 1) (turns_of (base + n) turns ++ turn ∷ [])) taken_is
          (rises_push (base + n) 0 t (turns_of (base + n) turns) turn rises refl (omega (arith, taken_is))))

      rooms_now : AllByRecursion (HasRoom limit) (turns_of (base + n) more)
      rooms_now = subst (AllByRecursion (HasRoom limit)) (sym own_turns)
          (all_put (HasRoom limit) (turns_of (base + n) turns) turn (h.read.each n l).rooms (room_is ∙ ap (λ k. min 4096 (limit - k)) (sym taken_is)))

      pub other_turns : (j : ℕ) → (j ≡ n → ⊥) → turns_of (base + j) more ≡ turns_of (base + j) turns
      other_turns j d = other_turn (base + j) turns turn (eqb_other (base + n) (base + j) (λ e. d (omega (arith, e))))

      -- c bytes more of it were taken
      read_more : (c : ℕ) → t + c ≤ limit → c ≤ length (drop t log) → AreRead base limit ⊥ logs (set ts n (t + c)) more
      read_more c low enough =
          let here = h.read.each n l in
          record {
            count = length-set ts n (t + c) ∙ h.read.count;
            unread = λ z. absurd z;
            each = λ j m. elim (cases_eq j n) [
              | inl e ↦ subst (λ k. IsRead (base + k) limit ⊥ (get_or logs k []) (get_or (set ts n (t + c)) k 0) (turns_of (base + k) more)) (sym e)
                  (subst (λ k. IsRead (base + n) limit ⊥ log k (turns_of (base + n) more)) (sym (get_or-set_same ts n (t + c) 0 (omega (arith, l, h.read.count))))
                  (record {
                    unread = λ z. absurd z;
                    within = omega (arith, enough, length-drop t log, here.within);
                    most = low;
                    rises = rises_weaker (base + n) 0 (t + 1) (t + c + 1) (turns_of (base + n) more) rises_now (omega arith);
                    rooms = rooms_now;
                  }))
              | inr d ↦ subst (λ k. IsRead (base + j) limit ⊥ (get_or logs j []) k (turns_of (base + j) more)) (sym (get_or-set_other ts n j (t + c) 0 d))
                  (subst (IsRead (base + j) limit ⊥ (get_or logs j []) (get_or ts j 0)) (sym (other_turns j d)) (h.read.each j m))
            ];
          }

      -- the turn is prompt
      prompt_now : (text : List ℕ) → now.written ≡ old.written ++ text → IsTextAtRead f logs n t text → ArePrompt f logs base old.written now.written more
      prompt_now text written is =
          all_put (IsPromptTurn f logs base old.written now.written) turns turn h.prompt
          (n, l, refl, omega arith, (text, subst (λ k. IsTextAtRead f logs n k text) (sym taken_is) is, take-length now.written ∙ written))

      -- after a read
      pub have_read : (new : Told) (buf text : List ℕ) (c : ℕ) → room ≡ length buf → Reads now (base + n) (Ok c) buf new → t + c ≤ limit → now.written ≡ old.written ++ text
          → IsTextAtRead f logs n t text → HaveRead f base limit old names (set ts n (t + c)) more new
      have_read new buf text c long r low written is = record {
        base_is = h.base_is;
        files = r.files ∙ h.files;
        opened = r.opened ∙ h.opened;
        left = r.bytes.left ∙ advanced_is c;
        turns_are = r.turns ∙ ap (λ (us : List Turn). us ++ turn_of now (base + n) (length buf) ∷ []) h.turns_are
            ∙ append_assoc old.turns turns (turn_of now (base + n) (length buf) ∷ [])
            ∙ ap (λ k. old.turns ++ (turns ++ turn_of now (base + n) k ∷ [])) (sym long);
        read = read_more c low (subst (λ (s : Stream). c ≤ length s.rest) stream_is r.bytes.enough);
        prompt = subst (λ (w : List ℕ). ArePrompt f logs base old.written w more) (sym r.written) (prompt_now text written is);
      }

      -- the bytes that came are the next of the log, and none only at its end
      pub piece_is : (new : Told) (buf : List ℕ) (c : ℕ) → Reads now (base + n) (Ok c) buf new → take c buf ≡ take c (drop t log)
      piece_is new buf c r = r.bytes.bytes ∙ ap (λ (s : Stream). take c s.rest) stream_is

      pub end_is : (new : Told) (buf : List ℕ) → Reads now (base + n) (Ok 0) buf new → t ≡ length log
      end_is new buf r =
          let none : drop t log ≡ [] = sym (ap (λ (s : Stream). s.rest) stream_is) ∙ r.bytes.end refl in
          let z = ap length none in
          omega (arith, z, length-drop t log, (h.read.each n l).within)

      pub failed_read : (new : Told) (buf text : List ℕ) → room ≡ length buf → Reads now (base + n) (Err errors.Failed) buf new → t ≤ limit → now.written ≡ old.written ++ text
          → IsTextAtRead f logs n t text → HaveRead f base limit old names ts more new
      failed_read new buf text long r low written is = record {
        base_is = h.base_is;
        files = r.files ∙ h.files;
        opened = r.opened ∙ h.opened;
        left = r.bytes ∙ h.left;
        turns_are = r.turns ∙ ap (λ (us : List Turn). us ++ turn_of now (base + n) (length buf) ∷ []) h.turns_are
            ∙ append_assoc old.turns turns (turn_of now (base + n) (length buf) ∷ [])
            ∙ ap (λ k. old.turns ++ (turns ++ turn_of now (base + n) k ∷ [])) (sym long);
        read = subst (λ (us : List ℕ). AreRead base limit ⊥ logs us more) (ap (λ k. set ts n k) (add-zero t) ∙ set-get_or ts n 0)
            (read_more 0 (omega (arith, low)) (omega arith));
        prompt = subst (λ (w : List ℕ). ArePrompt f logs base old.written w more) (sym r.written) (prompt_now text written is);
      }

    pub refused_read : (new : Told) (buf : List ℕ) → Reads now (base + n) (Err errors.Memory) buf new → HaveRead f base limit old names ts turns new
    refused_read new buf r = record {
      base_is = h.base_is;
      files = r.files ∙ h.files;
      opened = r.opened ∙ h.opened;
      left = r.bytes ∙ h.left;
      turns_are = r.turns ∙ h.turns_are;
      read = h.read;
      prompt = subst (λ (w : List ℕ). ArePrompt f logs base old.written w turns) (sym r.written) h.prompt;
    }
