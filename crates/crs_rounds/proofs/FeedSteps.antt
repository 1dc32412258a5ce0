-- A turn of a feed, step by step.
use Rattle.std.proofs.Common.{◌≡◌, ◌∙◌, ap, sym, refl, subst, inl, inr, ℕ, ◌+◌, ◌-◌, ◌<◌, ◌≤◌, min, true, false, List, [], ◌∷◌, ◌++◌, length, take, drop, get_or, set, map}
use Rattle.std.proofs.Common.{arith, append-nil, true≢false, length-take-le, Ok, Err}
use Rattle.std.proofs.lemmas.Bool.{cases_eq}
use Rattle.std.proofs.lemmas.List.{length-set, get_or-set_same, get_or-set_other, set-get_or, map-set}
use Rattle.std.proofs.Math.ListN as listn
use Rattle.std.proofs.Math.Seq.{take-length, take-add, set-set}
use Rattle.crs_desk.specs.Desk.{Told, Reads, Rises, turn_of}
use Rattle.crs_desk.specs.declared.turn.Turn.{Turn}
use Rattle.crs_desk.specs.declared.desk.DeskError.TheVariants as errors
use Rattle.crs_desk.proofs.Calls.{rises_weaker}
use Rattle.crs_log.specs.Reading.{HasNoLine, whole_lines}
use Rattle.crs_rounds.specs.declared.merged.MergedSession.{MergedSession}
use Rattle.crs_rounds.specs.declared.source.Source.{Source}
use Rattle.crs_outcomes.specs.declared.status.Status.{Status}
use Rattle.crs_outcomes.specs.declared.status.Status.TheVariants as stops
use Rattle.crs_rounds.specs.FeedOutcomes.{FeedsOutcome, IsFront, turns_of}
use Rattle.crs_outcomes.specs.Inputs.{bytes_of}
use Rattle.crs_rounds.specs.PairTexts.{IsTextBefore, IsTextAtRead}
use Rattle.crs_rounds.specs.Sources.{StandsAt, IsFilled, IsSourceOf, AreAt, HaveRead, HaveStopped, ReadsSource, IsSpent, TakesHeld, source_at, taken_of, turns_before, new_source}
use Rattle.crs_frames.specs.Frames.{Frame}
use Rattle.crs_rounds.proofs.FeedReading.{have_read, failed_read, refused_read, rises_now, other_turns, piece_is, end_is}
use Rattle.crs_rounds.proofs.FeedTurns.{turns_own, few, within, of, same_taken, turn_gave, turn_spent, spent}
use Rattle.crs_rounds.proofs.SourcePlaces.{whole_are, stand_filled, filled_input, filled_taken}

module _ (f : Frame) (base limit : ℕ) (old : Told) (names : List (List ℕ)) (round n : ℕ) where
  abbrev logs : List (List ℕ)
  logs = map (bytes_of old) names

  abbrev log : List ℕ
  log = get_or logs n []

  -- ---- a read

  module _ (ss : List Source) (x : MergedSession) (now : Told) (a : AreAt f base limit old names round n ss x [] now) (l : n < length names)
      (none : HasNoLine (source_at ss n).lines) (going : (source_at ss n).finished ≡ false) where
    abbrev own : Source
    own = source_at ss n

    abbrev ts : List ℕ
    ts = taken_of ss

    abbrev here : IsSourceOf base limit round a.turns n log own
    here = of f base limit old names round n ss x [] now a l

    abbrev low : n < length logs
    low = few f base limit old names round n ss x [] now a l

    taken_at : own.taken ≡ get_or ts n 0
    taken_at = sym (listn.get_or-map (λ (s : Source). s.taken) ss n (new_source 0))

    round_is : length (whole_lines (take (get_or ts n 0) log)) ≡ round
    round_is = ap (λ k. length (whole_lines (take k log))) (sym taken_at) ∙ whole_are limit round (take own.taken log) own here.stands going none

    text_at : IsTextAtRead f logs n (get_or ts n 0) a.written
    text_at = subst (λ k. IsTextBefore f logs k n a.written) (sym round_is) (subst (IsTextBefore f logs round n) (append-nil a.written) a.is_text)

    rises_at : Rises (base + n) 0 (get_or ts n 0) (turns_of (base + n) a.turns)
    rises_at = subst (λ k. Rises (base + n) 0 k (turns_of (base + n) a.turns)) taken_at (here.rises going)

    room_at : (buf : List ℕ) → length buf ≡ min 4096 (limit - own.taken) → length buf ≡ min 4096 (limit - get_or ts n 0)
    room_at buf e = e ∙ ap (λ k. min 4096 (limit - k)) taken_at

    front : (new : Told) → new.written ≡ now.written → IsFront f logs old.written new.written
    front new e = (
      round,
      n,
      (
        a.written,
        length a.written,
        subst (IsTextBefore f logs round n) (append-nil a.written) a.is_text,
        e ∙ a.written_is ∙ ap (λ (t : List ℕ). old.written ++ t) (sym (take-length a.written)),
      ),
    )

    module _ (new : Told) (buf : List ℕ) (room : length buf ≡ min 4096 (limit - own.taken)) (below : own.taken < limit) where
      abbrev more : List Turn
      more = a.turns ++ turn_of now (base + n) (length buf) ∷ []

      -- c bytes were read
      read_on : (c : ℕ) → Reads now own.input (Ok c) buf new → c ≤ length buf → HaveRead f base limit old names (set ts n (own.taken + c)) more new
      read_on c r le = subst (λ k. HaveRead f base limit old names (set ts n (k + c)) more new) (sym taken_at)
          (have_read f base limit old names ts a.turns now a.read n low (length buf) rises_at (room_at buf room) new buf a.written c refl
          (subst (λ i. Reads now i (Ok c) buf new) here.input r) (omega (arith, le, room, below, taken_at)) a.written_is text_at)

      taken_then : (t : Source) (c : ℕ) → t.taken ≡ own.taken + c → set ts n (own.taken + c) ≡ taken_of (set ss n t)
      taken_then t c e = ap (set ts n) (sym e) ∙ sym (map-set (λ (s : Source). s.taken) ss n t)

      module _ (c : ℕ) (r : Reads now own.input (Ok c) buf new) (le : c ≤ length buf) (t : Source) (fill : IsFilled (take c buf) own t) where
        piece_long : length (take c buf) ≡ c
        piece_long = length-take-le c buf le

        taken_more : t.taken ≡ own.taken + c
        taken_more = filled_taken limit round (take own.taken log) own here.stands going (take c buf) t fill ∙ ap (λ k. own.taken + k) piece_long

        fed_is : take own.taken log ++ take c buf ≡ take t.taken log
        fed_is =
            ap (λ (p : List ℕ). take own.taken log ++ p)
            (piece_is f base limit old names ts a.turns now a.read n low (length buf) rises_at (room_at buf room) new buf c (subst (λ i. Reads now i (Ok c) buf new) here.input r)
            ∙ ap (λ k. take c (drop k log)) (sym taken_at))
            ∙ sym (take-add own.taken c log) ∙ ap (λ k. take k log) (sym taken_more)

        whole_then : t.finished ≡ true → (t.taken ≡ length log) × (t.taken < limit)
        whole_then q = elim fill [
          | inl h ↦ (let z : c ≡ 0 = sym piece_long ∙ ap length h.0 in
              let e = end_is f base limit old names ts a.turns now a.read n low (length buf) rises_at (room_at buf room) new buf
              (subst (λ k. Reads now (base + n) (Ok k) buf new) z (subst (λ i. Reads now i (Ok c) buf new) here.input r)) in
              (omega (arith, e, taken_at, taken_more, z), omega (arith, below, taken_more, z)))
          | inr h ↦ absurd (true≢false (sym q ∙ h.1.going))
        ]

        rises_then : t.finished ≡ false → Rises (base + n) 0 t.taken (turns_of (base + n) more)
        rises_then q = elim fill [
          | inl h ↦ absurd (true≢false (sym (ap (λ (s : Source). s.finished) h.1) ∙ q))
          | inr h ↦ (let some = h.0 in rises_weaker (base + n) 0 (get_or ts n 0 + 1) t.taken (turns_of (base + n) more)
              (rises_now f base limit old names ts a.turns now a.read n low (length buf) rises_at (room_at buf room))
              (omega (arith, some, piece_long, taken_more, taken_at)))
        ]

        source_then : IsSourceOf base limit round more n log t
        source_then = record {
          input = filled_input limit round (take own.taken log) own here.stands going (take c buf) t fill ∙ here.input;
          stands = subst (λ (bs : List ℕ). StandsAt limit bs round t) fed_is
              (stand_filled limit round (take own.taken log) own here.stands going (take c buf) t fill (omega (arith, piece_long, le, room, below)));
          whole = whole_then;
          rises = rises_then;
        }

        sources_then : (j : ℕ) → j < length names → IsSourceOf base limit (turns_before round n j) more j (get_or logs j []) (source_at (set ss n t) j)
        sources_then j m = elim (cases_eq j n) [
          | inl e ↦ subst (λ k. IsSourceOf base limit (turns_before round n k) more k (get_or logs k []) (source_at (set ss n t) k)) (sym e)
              (subst (λ (s : Source). IsSourceOf base limit (turns_before round n n) more n log s)
              (sym (get_or-set_same ss n t (new_source 0) (within f base limit old names round n ss x [] now a l)))
              (subst (λ k. IsSourceOf base limit k more n log t) (sym (turns_own round n)) source_then))
          | inr d ↦ subst (λ (s : Source). IsSourceOf base limit (turns_before round n j) more j (get_or logs j []) s) (sym (get_or-set_other ss n j t (new_source 0) d))
              (let k = a.sources j m in
              record {
                input = k.input;
                stands = k.stands;
                whole = k.whole;
                rises = λ q. subst (Rises (base + j) 0 (source_at ss j).taken)
                    (sym (other_turns f base limit old names ts a.turns now a.read n low (length buf) rises_at (room_at buf room) j d)) (k.rises q);
              })
        ]

        turn_read : AreAt f base limit old names round n (set ss n t) x [] new
        turn_read = record {
          count = length-set ss n t ∙ a.count;
          turns = more;
          read = subst (λ (us : List ℕ). HaveRead f base limit old names us more new) (taken_then t c taken_more) (read_on c r le);
          sources = sources_then;
          state = a.state;
          feeds = a.feeds;
          written = a.written;
          is_text = a.is_text;
          written_is = r.written ∙ a.written_is;
          refused = a.refused;
        }

      stop_failed : (t : Source) → Reads now own.input (Err errors.Failed) buf new → t ≡ own → HaveStopped f base limit old names (set ss n t) stops.ReadFault new
      stop_failed t r same =
          let us : taken_of ss ≡ taken_of (set ss n t) = sym (same_taken f base limit old names round n ss x [] now a l t (ap (λ (s : Source). s.taken) same)) in
          record {
            turns = more;
            read = subst (λ (us : List ℕ). HaveRead f base limit old names us more new) us
                (failed_read f base limit old names ts a.turns now a.read n low (length buf) rises_at (room_at buf room) new buf a.written refl
                (subst (λ i. Reads now i (Err errors.Failed) buf new) here.input r) (omega (arith, below, taken_at)) a.written_is text_at);
            outcome = subst (λ (us : List ℕ). FeedsOutcome f logs limit us old.written stops.ReadFault new.written) us
                (n, low, subst (λ k. k < limit) taken_at below, (a.written, text_at, r.written ∙ a.written_is));
          }

      stop_refused : (t : Source) → Reads now own.input (Err errors.Memory) buf new → t ≡ own → HaveStopped f base limit old names (set ss n t) stops.Memory new
      stop_refused t r same =
          let us : taken_of ss ≡ taken_of (set ss n t) = sym (same_taken f base limit old names round n ss x [] now a l t (ap (λ (s : Source). s.taken) same)) in
          record {
            turns = a.turns;
            read = subst (λ (us : List ℕ). HaveRead f base limit old names us a.turns new) us
                (refused_read f base limit old names ts a.turns now a.read n low new buf (subst (λ i. Reads now i (Err errors.Memory) buf new) here.input r));
            outcome = front new r.written;
          }

      stop_filled : (c : ℕ) (t : Source) → Reads now own.input (Ok c) buf new → c ≤ length buf → t.taken ≡ own.taken + c
          → HaveStopped f base limit old names (set ss n t) stops.Memory new
      stop_filled c t r le e = record {
        turns = more;
        read = subst (λ (us : List ℕ). HaveRead f base limit old names us more new) (taken_then t c e) (read_on c r le);
        outcome = front new r.written;
      }

    pub read_ok : (t : Source) (new : Told) → ReadsSource limit now own (Ok tt) t new → AreAt f base limit old names round n (set ss n t) x [] new
    read_ok t new h = turn_read new h.1 h.2.room h.2.below h.0 h.2.reads h.3 t h.4

    pub read_stopped : (status : Status) (t : Source) (new : Told) → ReadsSource limit now own (Err status) t new → HaveStopped f base limit old names (set ss n t) status new
    read_stopped stops.Done t new h = absurd h
    read_stopped stops.Refusals t new h = absurd h
    read_stopped stops.Words t new h = absurd h
    read_stopped stops.Rejected t new h = absurd h
    read_stopped stops.WriteFault t new h = absurd h
    read_stopped stops.ReadFault t new h = stop_failed new h.0 h.1.room h.1.below t h.1.reads h.2
    read_stopped stops.Memory t new (inl h) = stop_refused new h.0 h.1.room h.1.below t h.1.reads h.2
    read_stopped stops.Memory t new (inr h) = stop_filled new h.1 h.2.room h.2.below h.0 t h.2.reads h.3 h.5
    read_stopped stops.TooLong t new h =
        let us : taken_of ss ≡ taken_of (set ss n t) = sym (same_taken f base limit old names round n ss x [] now a l t (ap (λ (s : Source). s.taken) h.1)) in
        let full : get_or ts n 0 ≡ limit = (let k = h.0 in omega (arith, k, here.stands.most, taken_at)) in
        subst (λ (w : Told). HaveStopped f base limit old names (set ss n t) stops.TooLong w) (sym h.2)
        (record {
          turns = a.turns;
          read = subst (λ (us : List ℕ). HaveRead f base limit old names us a.turns now) us a.read;
          outcome = subst (λ (us : List ℕ). FeedsOutcome f logs limit us old.written stops.TooLong now.written) us
              (n, low, full, (a.written, text_at, a.written_is));
        })

  -- ---- the source of feed n is s, among the others of ss

  module _ (ss : List Source) (s : Source) (x : MergedSession) (out : List ℕ) (now : Told) (a : AreAt f base limit old names round n (set ss n s) x out now) (l : n < length names) where
    it_is : source_at (set ss n s) n ≡ s
    it_is = get_or-set_same ss n s (new_source 0) (let c = a.count in let e = length-set ss n s in omega (arith, l, c, e))

    again : (t : Source) → set (set ss n s) n t ≡ set ss n t
    again t = set-set ss n s t

    pub held_gave : (t : Source) (y : MergedSession) (more : List ℕ) → TakesHeld s t n x y out more true → t.input ≡ s.input → t.taken ≡ s.taken
        → AreAt f base limit old names round (n + 1) (set ss n t) y more now
    held_gave t y more h input taken =
        let k = subst (λ (q : Source). TakesHeld q t n x y out more true) (sym it_is) h in
        subst (λ (us : List Source). AreAt f base limit old names round (n + 1) us y more now) (again t)
        (turn_gave f base limit old names round n (set ss n s) x out now a l t y more k.0 k.1 (input ∙ ap (λ (q : Source). q.input) (sym it_is))
        (taken ∙ ap (λ (q : Source). q.taken) (sym it_is)) k.2 k.3)

    pub held_none : (t : Source) (y : MergedSession) (more : List ℕ) → TakesHeld s t n x y out more false → AreAt f base limit old names round n (set ss n t) y more now
    held_none t y more h =
        subst (λ (q : Source). AreAt f base limit old names round n (set ss n q) y more now) (sym h.0)
        (subst (λ (z : MergedSession). AreAt f base limit old names round n (set ss n s) z more now) (sym h.2)
        (subst (λ (w : List ℕ). AreAt f base limit old names round n (set ss n s) x w now) (sym h.3) a))

    pub held_spent : HasNoLine s.lines → s.finished ≡ true
        → AreAt f base limit old names round (n + 1) (set ss n s) x out now × IsSpent round log (source_at (set ss n s) n)
    held_spent none finished =
        let k = subst (λ (q : Source). HasNoLine q.lines) (sym it_is) none in
        let e = subst (λ (q : Source). q.finished ≡ true) (sym it_is) finished in (
          subst (λ (us : List Source). AreAt f base limit old names round (n + 1) us x out now) (set-get_or (set ss n s) n (new_source 0))
              (turn_spent f base limit old names round n (set ss n s) x out now a l k e),
          spent f base limit old names round n (set ss n s) x out now a l k e,
        )

  module _ (ss : List Source) (s : Source) (x : MergedSession) (now : Told) (a : AreAt f base limit old names round n (set ss n s) x [] now) (l : n < length names)
      (none : HasNoLine s.lines) (going : s.finished ≡ false) where
    none_there : HasNoLine (source_at (set ss n s) n).lines
    none_there = subst (λ (q : Source). HasNoLine q.lines) (sym (it_is ss s x [] now a l)) none

    going_there : (source_at (set ss n s) n).finished ≡ false
    going_there = subst (λ (q : Source). q.finished ≡ false) (sym (it_is ss s x [] now a l)) going

    pub source_read : (t : Source) (new : Told) → ReadsSource limit now s (Ok tt) t new → AreAt f base limit old names round n (set ss n t) x [] new
    source_read t new h =
        subst (λ (us : List Source). AreAt f base limit old names round n us x [] new) (again ss s x [] now a l t)
        (read_ok (set ss n s) x now a l none_there going_there t new (subst (λ (q : Source). ReadsSource limit now q (Ok tt) t new) (sym (it_is ss s x [] now a l)) h))

    pub source_stopped : (status : Status) (t : Source) (new : Told) → ReadsSource limit now s (Err status) t new → HaveStopped f base limit old names (set ss n t) status new
    source_stopped status t new h =
        subst (λ (us : List Source). HaveStopped f base limit old names us status new) (again ss s x [] now a l t)
        (read_stopped (set ss n s) x now a l none_there going_there status t new (subst (λ (q : Source). ReadsSource limit now q (Err status) t new) (sym (it_is ss s x [] now a l)) h))

-- what was taken of each source is all that counts once the call ends
pub stopped_as : (f : Frame) (base limit : ℕ) (old : Told) (names : List (List ℕ)) (ss : List Source) (n : ℕ) (s t : Source) (status : Status) (now : Told) → t.taken ≡ s.taken
    → HaveStopped f base limit old names (set ss n s) status now → HaveStopped f base limit old names (set ss n t) status now
stopped_as f base limit old names ss n s t status now e h =
    let us : taken_of (set ss n s) ≡ taken_of (set ss n t) =
    map-set (λ (q : Source). q.taken) ss n s ∙ ap (set (taken_of ss) n) (sym e) ∙ sym (map-set (λ (q : Source). q.taken) ss n t) in
    record {
      turns = h.turns;
      read = subst (λ (ts : List ℕ). HaveRead f base limit old names ts h.turns now) us h.read;
      outcome = subst (λ (ts : List ℕ). FeedsOutcome f (map (bytes_of old) names) limit ts old.written status now.written) us h.outcome;
    }
