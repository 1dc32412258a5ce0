-- A log, read by read.
use Rattle.std.proofs.Common.{◌≡◌, ◌⊎◌, ◌∙◌, ap, sym, refl, subst, inl, inr, ℕ, ◌+◌, ◌-◌, ◌<◌, ◌≤◌, min, Bool, true}
use Rattle.std.proofs.Common.{false, List, [], ◌∷◌, ◌++◌, length, take, drop, arith, add-zero, append-nil, append_assoc, length-append}
use Rattle.std.proofs.Common.{length-take-le, Ok, Err}
use Rattle.std.proofs.lemmas.List.{length-drop, take-append-le}
use Rattle.std.proofs.Math.Seq.{take-add, take-length, take-append-add}
use Rattle.std.specs.List.{AllByRecursion}
use Rattle.crs_base.proofs.Alls.{all_put}
use Rattle.crs_base.specs.Lines.{lines_of}
use Rattle.crs_desk.specs.Desk.{Told, Stream, stream_at, advanced, turn_of, Reads, Wrote, Rises, HasRoom}
use Rattle.crs_desk.specs.declared.turn.Turn.{Turn}
use Rattle.crs_desk.specs.declared.desk.DeskError.TheVariants as errors
use Rattle.crs_desk.proofs.Calls.{took_none, stream_after, advanced_twice, rises_push, rises_weaker}
use Rattle.crs_log.specs.Reading.{Reader, Given, given, given_lines, whole_lines}
use Rattle.crs_layers.specs.Runs.{IsRun}
use Rattle.crs_log.proofs.Prompt.{told_whole}
use Rattle.crs_outcomes.specs.declared.status.Status.TheVariants as stops
use Rattle.crs_outcomes.specs.declared.status.Status.{Status}
use Rattle.crs_session.specs.declared.session.Session.{Session}
use Rattle.crs_session.specs.declared.session.Counts.{Counts}
use Rattle.crs_session.specs.Session.{Represents, IsUncounted}
use Rattle.crs_session.specs.Tallies.{IsSummary}
use Rattle.crs_session.specs.Taking.{Takes}
use Rattle.crs_frames.specs.Frames.{Frame}
use Rattle.crs_session.specs.Texts.{setting_of, start_of, IsWholeText, IsLogText, SomeRefused}
use Rattle.crs_commands.specs.Logs.{tail_of, summary_of, IsSummaryPart, ArePages, IsSummaryOf, has_refused, IsEndedText, IsPrompt, IsPromptAt, IsCutShort, LogOutcome, HasReadLog, TellsPiece, TakesEnd, Finishes}
use Rattle.crs_outcomes.specs.Writing.{Appends}
use Rattle.crs_outcomes.specs.Status.{ended_as}
use Rattle.crs_session.specs.Notices.{AreLogNotices}
use Rattle.crs_session.specs.Written.{Written, unwritten, joined}
use Rattle.crs_model.specs.declared.recognition.Recognition.{Recognition}
use Rattle.crs_report.specs.Listeners.{Notice, Member, notice_of, members_after, page_of}
use Rattle.crs_report.proofs.After.{after_none, after_more}
use Rattle.std.proofs.lemmas.List.{map-append}
use Rattle.std.specs.Prelude.{map, flat_map}
use Rattle.crs_commands.proofs.Summing.{IsAt, at_none, at_more, HasBegun, begun_by, text_is, notices_are, summary_is, refused_is}
use Rattle.crs_session.proofs.Taken.{takes_none, takes_append}

-- t bytes of the log were read, in these turns
pub record Base (f : Frame) (old : Told) (i t : ℕ) (more : List Turn) (now : Told) : Type 0 where
  pub files : now.files ≡ old.files
  pub opened : now.opened ≡ old.opened
  pub left : now.left ≡ advanced old.left i t
  pub within : t ≤ length (stream_at old.left i).rest
  pub turns : now.turns ≡ old.turns ++ more
  pub prompt : IsPrompt f old.written (stream_at old.left i).rest now.written more

-- t bytes of the log were read, the text of the whole lines among them is written, and these listeners heard of the recognitions in it
pub record Reading (focus : Bool) (members heard : List Member) (f : Frame) (old : Told) (i limit t : ℕ) (x : Session) (lines : Reader)
    (now : Told) : Type 0 where
  pub more : List Turn
  pub base : Base f old i t more now
  pub rises : Rises i 0 t more
  pub rooms : AllByRecursion (HasRoom limit) more
  pub most : t ≤ limit
  pub told : List Given
  pub at : IsAt t (take t (stream_at old.left i).rest) lines told
  pub all : Written
  pub start : Counts
  pub begun : HasBegun f focus start
  pub takes : Takes f focus start x (start_of f) told unwritten all
  pub written : now.written ≡ old.written ++ all.text
  pub heard_is : heard ≡ members_after (map notice_of all.found) members

whole_of : (f : Frame) (focus : Bool) (start : Counts) (t : ℕ) (bytes : List ℕ) (x : Session) (lines : Reader) (told : List Given)
    (all : Written)
    → IsAt t bytes lines told → Takes f focus start x (start_of f) told unwritten all → IsWholeText f bytes all.text
whole_of f focus start t bytes x lines told all a k =
    let is : told ≡ given_lines 4096 0 (whole_lines bytes) = told_whole 4096 bytes told lines a.given a.none.1 in
    (k.effects, k.last, subst (λ (gs : List Given). IsRun (setting_of f) (start_of f) gs k.effects k.last) is k.trace, k.written)

-- what is written so far is the text of the whole lines
appends : (focus : Bool) (members heard : List Member) (f : Frame) (old : Told) (i limit t : ℕ) (x : Session) (lines : Reader) (now : Told)
    → Reading focus members heard f old i limit t x lines now
    → Appends (IsWholeText f (take t (stream_at old.left i).rest)) old.written now.written
appends focus members heard f old i limit t x lines now h =
    (h.all.text, whole_of f focus h.start t (take t (stream_at old.left i).rest) x lines h.told h.all h.at h.takes, h.written)

pub reading_none : (members : List Member) (f : Frame) (t : Told) (i limit : ℕ) (x : Session) (lines : Reader) → Represents f x (start_of f) → IsUncounted x
    → lines ≡ record { limit = 4096; number = 0; rest = []; finished = false; fed = 0 }
    → Reading x.layers.focus members members f t i limit 0 x lines t
reading_none members f t i limit x lines r u new = record {
  more = [];
  base = record { files = refl; opened = refl; left = (took_none t i).left; within = omega arith; turns = sym (append-nil t.turns); prompt = tt };
  rises = omega arith;
  rooms = tt;
  most = omega arith;
  told = [];
  at = at_none lines new;
  all = unwritten;
  start = x.counts;
  begun = begun_by f x r u;
  takes = takes_none f x (start_of f) unwritten r;
  written = sym (append-nil t.written);
  heard_is = sym (after_none members);
}

-- what stood before a turn still stands when more is written
prompt_on : (f : Frame) (old log w x : List ℕ) (ts : List Turn) → IsPrompt f old log w ts → IsPrompt f old log (w ++ x) ts
prompt_on f old log w x [] p = tt
prompt_on f old log w x (t ∷ ts) p =
    ((omega (arith, p.0.0, length-append w x), (p.0.1.0, p.0.1.1, take-append-le t.written w x p.0.0 ∙ p.0.1.2)), prompt_on f old log w x ts p.1)

prompt_push : (f : Frame) (old log w : List ℕ) (ts : List Turn) (t : Turn) → IsPrompt f old log w ts → IsPromptAt f old log w t → IsPrompt f old log w (ts ++ t ∷ [])
prompt_push f old log w [] t p q = (q, tt)
prompt_push f old log w (u ∷ ts) t p q = (p.0, prompt_push f old log w ts t p.1 q)

-- the listeners heard of recognitions, and then of more
heard_more : (members heard then : List Member) (rs qs : List Recognition) → heard ≡ members_after (map notice_of rs) members
    → then ≡ members_after (map notice_of qs) heard → then ≡ members_after (map notice_of (rs ++ qs)) members
heard_more members heard then rs qs h k =
    k ∙ ap (members_after (map notice_of qs)) h ∙ sym (after_more (map notice_of rs) (map notice_of qs) members)
    ∙ ap (λ (ns : List Notice). members_after ns members) (sym (map-append notice_of rs qs))

module _ (focus summary : Bool) (members heard : List Member) (f : Frame) (old : Told) (i : ℕ) (lt : i < length old.left)
    (z : (stream_at old.left i).taken ≡ 0) where
  abbrev log : List ℕ
  log = (stream_at old.left i).rest

  -- a read that was answered or failed
  stream_now : (now : Told) (t : ℕ) (more : List Turn) → Base f old i t more now → stream_at now.left i ≡ (let s = stream_at old.left i in record { taken = s.taken + t; rest = drop t s.rest })
  stream_now now t more h = ap (λ (l : List Stream). stream_at l i) h.left ∙ stream_after old.left i t lt

  taken_now : (now : Told) (t room : ℕ) (more : List Turn) → Base f old i t more now → (turn_of now i room).taken ≡ t
  taken_now now t room more h = ap (λ (s : Stream). s.taken) (stream_now now t more h) ∙ omega arith

  prompt_turn : (now : Told) (limit t room : ℕ) (x : Session) (lines : Reader)
      → (h : Reading focus members heard f old i limit t x lines now)
      → IsPrompt f old.written log now.written (h.more ++ turn_of now i room ∷ [])
  prompt_turn now limit t room x lines h =
      let a = appends focus members heard f old i limit t x lines now h in
      prompt_push f _ _ _ h.more (turn_of now i room) h.base.prompt
      (omega arith, (a.0, subst (λ (n : ℕ). IsWholeText f (take n log) a.0) (sym (taken_now now t room h.more h.base)) a.1, take-length now.written ∙ a.2))

  rises_turn : (now : Told) (limit t room : ℕ) (x : Session) (lines : Reader)
      → (h : Reading focus members heard f old i limit t x lines now) → Rises i 0 (t + 1) (h.more ++ turn_of now i room ∷ [])
  rises_turn now limit t room x lines h =
      let e = taken_now now t room h.more h.base in
      rises_weaker _ _ _ _ _ (rises_push i _ _ h.more (turn_of now i room) h.rises refl (omega (arith, e))) (omega (arith, e))

  rooms_turn : (now : Told) (limit t room : ℕ) (x : Session) (lines : Reader)
      → (h : Reading focus members heard f old i limit t x lines now) → room ≡ min 4096 (limit - t)
      → AllByRecursion (HasRoom limit) (h.more ++ turn_of now i room ∷ [])
  rooms_turn now limit t room x lines h e =
      let here : HasRoom limit (turn_of now i room) = e ∙ ap (λ (n : ℕ). min 4096 (limit - n)) (sym (taken_now now t room h.more h.base)) in
      all_put (HasRoom limit) h.more (turn_of now i room) h.rooms here

  -- the base after a read that gave n bytes
  base_read : (mid new : Told) (limit t n : ℕ) (x : Session) (lines : Reader) (buf : List ℕ)
      → (h : Reading focus members heard f old i limit t x lines mid) → Reads mid i (Ok n) buf new
      → Base f old i (t + n) (h.more ++ turn_of mid i (length buf) ∷ []) new
  base_read mid new limit t n x lines buf h r =
      let rest_is = ap (λ (s : Stream). s.rest) (stream_now mid t h.more h.base) in
      let le : n ≤ length (drop t log) = rw rest_is at r.bytes.enough in
      record {
        files = r.files ∙ h.base.files;
        opened = r.opened ∙ h.base.opened;
        left = r.bytes.left ∙ rw (h.base.left) (advanced_twice old.left i t n lt);
        within = omega (arith, le, length-drop t log, h.base.within);
        turns = r.turns ∙ rw (h.base.turns, append_assoc) refl;
        prompt = rw (r.written) (prompt_turn mid limit t (length buf) x lines h);
      }

  -- the bytes that came are the next of the log
  piece_is : (mid new : Told) (limit t n : ℕ) (x : Session) (lines : Reader) (buf : List ℕ)
      → (h : Reading focus members heard f old i limit t x lines mid) → Reads mid i (Ok n) buf new
      → take (t + n) log ≡ take t log ++ take n buf
  piece_is mid new limit t n x lines buf h r =
      let rest_is = ap (λ (s : Stream). s.rest) (stream_now mid t h.more h.base) in
      take-add t n _ ∙ ap (λ (y : List ℕ). take t log ++ y) (ap (take n) (sym rest_is) ∙ sym r.bytes.bytes)

  base_write : (new last : Told) (t k : ℕ) (more : List Turn) (text : List ℕ) → Base f old i t more new → Wrote new text k last → Base f old i t more last
  base_write new last t k more text b w = record {
    files = w.files ∙ b.files;
    opened = w.opened ∙ b.opened;
    left = w.left ∙ b.left;
    within = b.within;
    turns = w.turns ∙ b.turns;
    prompt = rw (w.written) (prompt_on f _ _ _ _ more b.prompt);
  }

  pub reading_more : (then : List Member) (mid new last : Told) (limit t n : ℕ) (x y : Session) (lines now : Reader) (buf text : List ℕ)
      → (h : Reading focus members heard f old i limit t x lines mid) → Reads mid i (Ok n) buf new → length buf ≡ min 4096 (limit - t)
      → n ≤ length buf
      → 0 < n → TellsPiece lines now x y heard then (take n buf) text → Wrote new text (length text) last
      → Reading focus members then f old i limit (t + n) y now last
  reading_more then mid new last limit t n x y lines now buf text h r room few pos tells w =
      let piece = piece_is mid new limit t n x lines buf h r in
      let p = tells.piece_is in
      record {
        more = h.more ++ turn_of mid i (length buf) ∷ [];
        base = base_write new last (t + n) (length text) (h.more ++ turn_of mid i (length buf) ∷ []) text (base_read mid new limit t n x lines buf h r) w;
        rises = rises_weaker _ _ _ _ _ (rises_turn mid limit t (length buf) x lines h) (omega arith);
        rooms = rooms_turn mid limit t (length buf) x lines h room;
        most = omega (arith, h.most, few, room);
        told = h.told ++ p.told;
        at = subst (λ (bs : List ℕ). IsAt (t + n) bs now (h.told ++ p.told)) (sym piece) (at_more t n lines now h.told (take t log) (take n buf) x y tells.all (length-take-le n buf few) h.at p);
        all = joined h.all tells.all;
        start = h.start;
        begun = h.begun;
        takes = takes_append f focus h.start x y (start_of f) h.told p.told h.all tells.all h.takes
            (p.takes f h.takes.last h.takes.state);
        written = w.written ∙ rw (r.written, h.written, append_assoc) (ap (λ (y : List ℕ). old.written ++ (h.all.text ++ y)) (take-length text ∙ tells.text_is));
        heard_is = heard_more members heard then h.all.found tells.all.found h.heard_is tells.heard;
      }

  -- the stops
  reads_log : (new : Told) (limit t : ℕ) (more : List Turn) (e : Status) → Base f old i t more new → Rises i 0 (t + 1) more
      → AllByRecursion (HasRoom limit) more → t ≤ limit → LogOutcome (tail_of focus summary members) f log limit t old.written e new.written
      → HasReadLog (tail_of focus summary members) f old i limit e new
  reads_log new limit t more e b r rooms most end = (t, more, record { files = b.files; opened = b.opened; left = b.left; within = b.within; turns = b.turns; rises = r; rooms = rooms; most = most; prompt = b.prompt; outcome = end })

  pub stop_failed : (mid new : Told) (limit t : ℕ) (x : Session) (lines : Reader) (buf : List ℕ)
      → Reading focus members heard f old i limit t x lines mid
      → Reads mid i (Err errors.Failed) buf new → length buf ≡ min 4096 (limit - t) → t < limit
      → HasReadLog (tail_of focus summary members) f old i limit stops.ReadFault new
  stop_failed mid new limit t x lines buf h r room below =
      let a = appends focus members heard f old i limit t x lines mid h in
      reads_log new limit t (h.more ++ turn_of mid i (length buf) ∷ []) stops.ReadFault
      (record {
        files = r.files ∙ h.base.files;
        opened = r.opened ∙ h.base.opened;
        left = r.bytes ∙ h.base.left;
        within = h.base.within;
        turns = r.turns ∙ rw (h.base.turns, append_assoc) refl;
        prompt = rw (r.written) (prompt_turn mid limit t (length buf) x lines h);
      })
      (rises_turn mid limit t (length buf) x lines h)
      (rooms_turn mid limit t (length buf) x lines h room)
      h.most
      (below, (a.0, a.1, r.written ∙ a.2))

  pub stop_refused : (mid new : Told) (limit t : ℕ) (x : Session) (lines : Reader) (buf : List ℕ)
      → Reading focus members heard f old i limit t x lines mid
      → Reads mid i (Err errors.Memory) buf new → HasReadLog (tail_of focus summary members) f old i limit stops.Memory new
  stop_refused mid new limit t x lines buf h r =
      let a = appends focus members heard f old i limit t x lines mid h in
      reads_log new limit t h.more stops.Memory
      (record {
        files = r.files ∙ h.base.files;
        opened = r.opened ∙ h.base.opened;
        left = r.bytes ∙ h.base.left;
        within = h.base.within;
        turns = r.turns ∙ h.base.turns;
        prompt = rw (r.written) h.base.prompt;
      })
      (rises_weaker _ _ _ _ _ h.rises (omega arith))
      h.rooms
      h.most
      (inl (t, omega arith, (a.0, length a.0, a.1, r.written ∙ a.2 ∙ rw take-length refl)))

  pub stop_long : (now : Told) (limit t : ℕ) (x : Session) (lines : Reader) → Reading focus members heard f old i limit t x lines now
      → t ≡ limit
      → HasReadLog (tail_of focus summary members) f old i limit stops.TooLong now
  stop_long now limit t x lines h e =
      reads_log now limit t h.more stops.TooLong h.base (rises_weaker _ _ _ _ _ h.rises (omega arith)) h.rooms h.most (e, appends focus members heard f old i limit t x lines now h)

  -- the write or the memory failed, with k bytes of the piece's text written
  cut_short : (mid new last : Told) (limit t n : ℕ) (x y : Session) (lines : Reader) (buf text : List ℕ) (stop : Status) → (stop ≡ stops.WriteFault) ⊎ (stop ≡ stops.Memory)
      → (h : Reading focus members heard f old i limit t x lines mid) → Reads mid i (Ok n) buf new → length buf ≡ min 4096 (limit - t)
      → n ≤ length buf
      → 0 < n → (k : ℕ) → Wrote new text k last → IsCutShort (tail_of focus summary members) f log (t + n) old.written last.written
      → HasReadLog (tail_of focus summary members) f old i limit stop last
  cut_short mid new last limit t n x y lines buf text stop either h r room few pos k w cut =
      let b = base_write new last (t + n) k (h.more ++ turn_of mid i (length buf) ∷ []) text (base_read mid new limit t n x lines buf h r) w in
      let up : Rises i 0 (t + n + 1) (h.more ++ turn_of mid i (length buf) ∷ []) = rises_weaker _ _ _ _ _ (rises_turn mid limit t (length buf) x lines h) (omega arith) in
      let rooms = rooms_turn mid limit t (length buf) x lines h room in
      let few_all : t + n ≤ limit = omega (arith, h.most, few, room) in
      elim either [
        | inl e ↦ rw e (reads_log last limit (t + n) (h.more ++ turn_of mid i (length buf) ∷ []) stops.WriteFault b up rooms few_all cut)
        | inr e ↦ rw e (reads_log last limit (t + n) (h.more ++ turn_of mid i (length buf) ∷ []) stops.Memory b up rooms few_all cut)
      ]

  pub stop_write : (then : List Member) (mid new last : Told) (limit t n : ℕ) (x y : Session) (lines now : Reader) (buf text : List ℕ) (stop : Status) → (stop ≡ stops.WriteFault) ⊎ (stop ≡ stops.Memory)
      → (h : Reading focus members heard f old i limit t x lines mid) → Reads mid i (Ok n) buf new → length buf ≡ min 4096 (limit - t)
      → n ≤ length buf
      → 0 < n → TellsPiece lines now x y heard then (take n buf) text → (k : ℕ) → Wrote new text k last
      → HasReadLog (tail_of focus summary members) f old i limit stop last
  stop_write then mid new last limit t n x y lines now buf text stop either h r room few pos tells k w =
      let piece = piece_is mid new limit t n x lines buf h r in
      let p = tells.piece_is in
      let at : IsAt (t + n) (take (t + n) log) now (h.told ++ p.told) =
      subst (λ (bs : List ℕ). IsAt (t + n) bs now (h.told ++ p.told)) (sym piece) (at_more t n lines now h.told (take t log) (take n buf) x y tells.all (length-take-le n buf few) h.at p) in
      let takes = takes_append f focus h.start x y (start_of f) h.told p.told h.all tells.all h.takes
      (p.takes f h.takes.last h.takes.state) in
      (cut_short mid new last limit t n x y lines buf text stop either h r room few pos k w)
      (inl (
        t + n,
        omega arith,
        (
          h.all.text ++ tells.all.text,
          length h.all.text + k,
          whole_of f focus h.start (t + n) (take (t + n) log) y now (h.told ++ p.told) (joined h.all tells.all) at takes,
          w.written ∙ rw (r.written, h.written, append_assoc) (ap (λ (y : List ℕ). old.written ++ y)
              (sym (take-append-add h.all.text text k) ∙ ap (λ (y : List ℕ). take (length h.all.text + k) (h.all.text ++ y)) tells.text_is)),
        ),
      ))

  -- memory was wanting before the piece's text was made
  pub stop_piece : (mid new : Told) (limit t n : ℕ) (x : Session) (lines : Reader) (buf : List ℕ)
      → (h : Reading focus members heard f old i limit t x lines mid) → Reads mid i (Ok n) buf new → length buf ≡ min 4096 (limit - t)
      → n ≤ length buf
      → 0 < n → HasReadLog (tail_of focus summary members) f old i limit stops.Memory new
  stop_piece mid new limit t n x lines buf h r room few pos =
      let a = appends focus members heard f old i limit t x lines mid h in
      cut_short mid new new limit t n x x lines buf [] stops.Memory (inr refl) h r room few pos 0
      (record { files = refl; opened = refl; left = refl; turns = refl; within = omega arith; written = sym (append-nil new.written) })
      (inl (t, omega arith, (a.0, length a.0, a.1, r.written ∙ a.2 ∙ rw take-length refl)))

  -- where the end was met
  module _ (mid new : Told) (limit t : ℕ) (x : Session) (lines : Reader) (buf : List ℕ)
      (h : Reading focus members heard f old i limit t x lines mid) (r : Reads mid i (Ok 0) buf new)
      (room : length buf ≡ min 4096 (limit - t)) where
    all_read : t ≡ length log
    all_read =
        let rest_is = ap (λ (s : Stream). s.rest) (stream_now mid t h.more h.base) in
        let none : drop t log ≡ [] = sym rest_is ∙ r.bytes.end refl in
        omega (arith, ap length none, length-drop t log, h.base.within)

    all_is : take t log ≡ log
    all_is = rw all_read (take-length log)

    at_end : (last : Told) (k : ℕ) (text : List ℕ) (status : Status) → Wrote new text k last
        → LogOutcome (tail_of focus summary members) f log limit t old.written status last.written
        → HasReadLog (tail_of focus summary members) f old i limit status last
    at_end last k text status w outcome =
        let b : Base f old i t (h.more ++ turn_of mid i (length buf) ∷ []) new = rw add-zero at (base_read mid new limit t 0 x lines buf h r) in
        let c = base_write new last t k (h.more ++ turn_of mid i (length buf) ∷ []) text b w in (
          t,
          h.more ++ turn_of mid i (length buf) ∷ [],
          record {
            files = c.files;
            opened = c.opened;
            left = c.left;
            within = c.within;
            turns = c.turns;
            rises = rises_turn mid limit t (length buf) x lines h;
            rooms = rooms_turn mid limit t (length buf) x lines h room;
            most = h.most;
            prompt = c.prompt;
            outcome = outcome;
          },
        )

    -- the text of the log
    module _ (y : Session) (text : List ℕ) (p : TakesEnd summary heard lines x y text) where
      all_told : given_lines 4096 0 (lines_of log) ≡ h.told ++ p.2.told
      all_told =
          ap (λ (bs : List ℕ). given 4096 0 bs) (sym (append-nil (take t log) ∙ all_is)) ∙ h.at.given []
          ∙ ap (λ (gs : List Given). h.told ++ gs) p.2.ahead_is

      abbrev all : Written
      all = joined h.all p.0

      all_takes : Takes f focus h.start y (start_of f) (h.told ++ p.2.told) unwritten all
      all_takes = takes_append f focus h.start x y (start_of f) h.told p.2.told h.all p.0 h.takes
          (p.2.takes f h.takes.last h.takes.state)

      log_text : IsLogText f log all.text
      log_text = text_is f log focus h.start h.begun y (h.told ++ p.2.told) all all_told all_takes

      log_notices : AreLogNotices f log (map notice_of all.found)
      log_notices = notices_are f log focus h.start h.begun y (h.told ++ p.2.told) all all_told all_takes

      log_summary : IsSummary focus f log (summary_of y)
      log_summary = summary_is f log focus h.start h.begun y (h.told ++ p.2.told) all all_told all_takes

      part_is : (b : Bool) (line : List ℕ) → IsSummaryOf b y line → IsSummaryPart focus b f log line
      part_is false line e = e
      part_is true line e = (summary_of y, log_summary, e)

      pages_are : ArePages members f log (flat_map page_of (members_after (map notice_of p.0.found) heard))
      pages_are = (
        map notice_of all.found,
        log_notices,
        ap (flat_map page_of) (heard_more members heard _ h.all.found p.0.found h.heard_is refl),
      )

      tail_is : tail_of focus summary members f log p.1
      tail_is = (p.3.0, flat_map page_of (members_after (map notice_of p.0.found) heard), part_is summary p.3.0 p.3.1, pages_are, p.3.2)

      ended_text : IsEndedText (tail_of focus summary members) f log (h.all.text ++ text)
      ended_text =
          (all.text, p.1, log_text, tail_is, ap (λ (z : List ℕ). h.all.text ++ z) p.4 ∙ sym (append_assoc h.all.text p.0.text p.1))

      log_refused : SomeRefused f log (has_refused y)
      log_refused = refused_is f log focus h.start h.begun y (h.told ++ p.2.told) all all_told all_takes

      written_front : (last : Told) (k : ℕ) → Wrote new text k last → last.written ≡ old.written ++ take (length h.all.text + k) (h.all.text ++ text)
      written_front last k w = w.written ∙ rw (r.written, h.written, append_assoc) (ap (λ (y : List ℕ). old.written ++ y) (sym (take-append-add h.all.text text k)))

      done_outcome : (refused : Bool) → SomeRefused f log refused → (last : List ℕ) → t < limit
          → Appends (IsEndedText (tail_of focus summary members) f log) old.written last
          → LogOutcome (tail_of focus summary members) f log limit t old.written (ended_as refused) last
      done_outcome true e last below a = (all_read, below, a, e)
      done_outcome false e last below a = (all_read, below, a, e)

      pub end_done : (last : Told) → t < limit → Wrote new text (length text) last
          → HasReadLog (tail_of focus summary members) f old i limit (ended_as (has_refused y)) last
      end_done last below w = at_end last (length text) text (ended_as (has_refused y)) w
          (done_outcome (has_refused y) log_refused last.written below
          (h.all.text ++ text, ended_text, w.written ∙ rw (r.written, h.written, append_assoc) (ap (λ (y : List ℕ). old.written ++ (h.all.text ++ y)) (take-length text))))

      pub end_stopped : (last : Told) (k : ℕ) (stop : Status) → (stop ≡ stops.WriteFault) ⊎ (stop ≡ stops.Memory) → Wrote new text k last
          → HasReadLog (tail_of focus summary members) f old i limit stop last
      end_stopped last k stop either w =
          let cut : IsCutShort (tail_of focus summary members) f log t old.written last.written = inr
          (all_read, (h.all.text ++ text, length h.all.text + k, ended_text, written_front last k w)) in
          elim either [
            | inl e ↦ rw e (at_end last k text stops.WriteFault w cut)
            | inr e ↦ rw e (at_end last k text stops.Memory w cut)
          ]

    -- memory was wanting before the last line's text was made
    pub end_refused : HasReadLog (tail_of focus summary members) f old i limit stops.Memory new
    end_refused =
        let a = appends focus members heard f old i limit t x lines mid h in
        at_end new 0 [] stops.Memory (record { files = refl; opened = refl; left = refl; turns = refl; within = omega arith; written = sym (append-nil new.written) })
        (inl (t, omega arith, (a.0, length a.0, a.1, r.written ∙ a.2 ∙ rw take-length refl)))

-- nothing was read
pub stop_before : (focus summary : Bool) (members : List Member) (f : Frame) (t : Told) (i limit : ℕ)
    → HasReadLog (tail_of focus summary members) f t i limit stops.Memory t
stop_before focus summary members f t i limit = (
  0,
  [],
  record {
    files = refl;
    opened = refl;
    left = (took_none t i).left;
    within = omega arith;
    turns = sym (append-nil t.turns);
    rises = omega arith;
    rooms = tt;
    most = omega arith;
    prompt = tt;
    outcome = inl (0, omega arith, ([], 0, ([], start_of f, refl, refl), sym (append-nil t.written)));
  },
)

-- where the rest was taken and written, or the write or the memory failed
pub end_by : (focus summary : Bool) (members heard : List Member) (f : Frame) (old mid new last : Told) (i limit t n : ℕ) (x : Session)
    (lines : Reader) (buf : List ℕ)
    (status : Status) → i < length old.left → (stream_at old.left i).taken ≡ 0 → Reading focus members heard f old i limit t x lines mid
    → Reads mid i (Ok n) buf new → length buf ≡ min 4096 (limit - t) → n ≡ 0 → t < limit → Finishes summary heard new x lines status last
    → HasReadLog (tail_of focus summary members) f old i limit status last
end_by focus summary members heard f old mid new last i limit t n x lines buf status lt z h r room zero below (inl e) =
    let r0 : Reads mid i (Ok 0) buf new = subst (λ (k : ℕ). Reads mid i (Ok k) buf new) zero r in
    rw (e.0, e.1) (end_refused focus summary members heard f old i lt z mid new limit t x lines buf h r0 room)
end_by focus summary members heard f old mid new last i limit t n x lines buf status lt z h r room zero below (inr e) =
    let r0 : Reads mid i (Ok 0) buf new = subst (λ (k : ℕ). Reads mid i (Ok k) buf new) zero r in
    elim e.3 [
      | inl s ↦ rw s.0 (end_done focus summary members heard f old i lt z mid new limit t x lines buf h r0 room e.0 e.1 e.2 last below s.1)
      | inr s ↦ end_stopped focus summary members heard f old i lt z mid new limit t x lines buf h r0 room e.0 e.1 e.2 last s.1.0 status s.0 s.1.1
    ]
