-- The whole of a call over several logs, by its parts.
use Rattle.std.proofs.Common.{◌≡◌, ◌⊎◌, ◌∙◌, ap, sym, refl, inl, inr, ℕ, ◌+◌, ◌<◌, ◌≤◌, ◌^◌, List, [], ◌∷◌, ◌++◌, length, map, get_or, arith, append-nil, append_assoc, add-one, zero, suc}
use Rattle.std.specs.Option.{unwrap_or}
use Rattle.std.specs.List.{AllByRecursion}
use Rattle.std.proofs.lemmas.List.{take-append-le}
use Rattle.crs_desk.specs.Desk.{Told, Stream, file_of}
use Rattle.crs_desk.specs.declared.turn.Turn.{Turn}
use Rattle.crs_outcomes.specs.declared.status.Status.{Status}
use Rattle.crs_outcomes.specs.declared.status.Status.TheVariants.{Done, Refusals, Words, Rejected, ReadFault, WriteFault, Memory, TooLong}
use Rattle.crs_rounds.specs.FeedOutcomes.{AreRead, FeedsOutcome, IsUnwritten, RefusalOutcome, DidFollow, RunsFeeds, CompletesFeeds, left_of}
use Rattle.crs_outcomes.specs.Inputs.{bytes_of, after}
use Rattle.crs_outcomes.specs.Loads.{AreTaken, IsModelLine, LoadOutcome, EndsWithInput, Loaded}
use Rattle.crs_outcomes.specs.ModelTexts.{IsAcceptedAlone, IsFaulty}
use Rattle.crs_rounds.specs.Opening.{none_taken}
use Rattle.crs_outcomes.specs.Most.{Most}
use Rattle.crs_frames.specs.Frames.{Frame}
use Rattle.crs_outcomes.proofs.Refused.{not_both_alone}
use Rattle.crs_rounds.proofs.RoundEnds.{nothing_read}

-- a call that ended with the models wrote nothing, or their refusal
ended_outcome : (most : Most) (models : List ℕ) (count n i k : ℕ) (old : List ℕ) (status : Status) (new : List ℕ) → 0 < count → n ≤ 1 → i ≤ n
    → LoadOutcome (2 ^ 20) (λ text. ⊥) (IsModelLine (IsFaulty most.symbols models)) models n k old status new
    → IsUnwritten (i < count + 1) old status new
    ⊎ ((n ≡ 1) × AreTaken (2 ^ 20) models k × RefusalOutcome (IsModelLine (IsFaulty most.symbols models)) old status new)
ended_outcome most models count n i k old Done new some le low h = absurd h.2.1
ended_outcome most models count n i k old Refusals new some le low h = absurd h
ended_outcome most models count n i k old Words new some le low h = absurd h
ended_outcome most models count n i k old Rejected new some le low h = inr (h.0, h.1, inl (refl, h.2))
ended_outcome most models count n i k old ReadFault new some le low h = inl (inl (refl, omega (arith, some, le, low)), h)
ended_outcome most models count n i k old WriteFault new some le low h = inr (
  h.0,
  h.1,
  inr (
    inl refl,
    elim h.2 [
      | inl p ↦ absurd p.2
      | inr r ↦ r
    ],
  ),
)
ended_outcome most models count n i k old Memory new some le low (inl e) = inl (inr refl, e)
ended_outcome most models count n i k old Memory new some le low (inr h) = inr (
  h.0,
  h.1,
  inr (
    inr refl,
    elim h.2 [
      | inl p ↦ absurd p.2
      | inr r ↦ r
    ],
  ),
)
ended_outcome most models count n i k old TooLong new some le low h = absurd h

three : (A B C : Type 0) → A ⊎ C → A ⊎ B ⊎ C
three A B C (inl a) = inl a
three A B C (inr c) = inr (inr c)

pub feeds_ended : (base now : ℕ) (most : Most) (old new : Told) (models : List ℕ) (logs : List (List ℕ)) (status : Status) → 0 < length logs
    → EndsWithInput base now (2 ^ 20) (λ text. ⊥) (IsModelLine (IsFaulty most.symbols (bytes_of old models))) old models status new
    → RunsFeeds base now most old models logs status new
feeds_ended base now most old new models logs status some h =
    let d = h.4.did in
    let ts = none_taken (map (bytes_of old) logs) in (
      h.0,
      h.1,
      h.2,
      ts,
      h.3,
      [],
      record {
        did = record {
          files = d.files;
          few = omega (arith, d.few);
          opened = d.opened ∙ ap (λ (x : List (List ℕ)). old.opened ++ x) (sym (take-append-le h.0 (models ∷ []) logs d.few));
          least = d.least;
          most = d.most;
          counted = d.counted;
          left = d.left ∙ ap (λ (x : List Stream). old.left ++ x) (sym (take-append-le h.1 (after (bytes_of old models) h.2 ∷ []) (left_of (map (bytes_of old) logs) ts) (omega (arith, d.least, d.few))));
          turns = d.turns ∙ ap (λ (x : List Turn). old.turns ++ x) (sym (append-nil h.3));
        };
        models_read = h.4.read;
        logs_read = nothing_read (base + 1) most.bytes (map (bytes_of old) logs) (h.1 < length logs + 1);
        failed = h.4.failed;
        prompt = λ e. absurd (omega (arith, e, d.few));
        outcome = three _ _ _ (ended_outcome most (bytes_of old models) (length logs) h.0 h.1 h.2 old.written status new.written some (omega (arith, d.few)) d.least h.4.outcome);
      },
    )

unwritten_more : (P Q : Type 0) (old : List ℕ) (status : Status) (new : List ℕ) → (P → Q) → IsUnwritten P old status new → IsUnwritten Q old status new
unwritten_more P Q old status new f h = (
  elim h.0 [
    | inl p ↦ inl (p.0, f p.1)
    | inr m ↦ inr m
  ],
  h.1,
)

same_files : (old mid : Told) (names : List (List ℕ)) → mid.files ≡ old.files → map (bytes_of mid) names ≡ map (bytes_of old) names
same_files old mid names e = ap (λ (x : List (List ℕ × List ℕ)). map (λ name. unwrap_or (file_of x name) []) names) e

read_later : (base limit : ℕ) (P Q : Type 0) (logs : List (List ℕ)) (ts : List ℕ) (turns : List Turn) → (Q → P) → AreRead base limit P logs ts turns
    → AreRead base limit Q logs ts turns
read_later base limit P Q logs ts turns f h = record {
  count = h.count;
  unread = λ q. h.unread (f q);
  each = λ n l. let k = h.each n l in record { unread = λ q. k.unread (f q); within = k.within; most = k.most; rises = k.rises; rooms = k.rooms };
}

pub feeds_followed : (base mid_count now : ℕ) (most : Most) (f : Frame) (old mid new : Told) (models : List ℕ) (logs : List (List ℕ)) (k n i : ℕ) (ts : List ℕ)
    (more turns : List Turn) (status : Status) → Loaded base mid_count (2 ^ 20) old models 1 1 k more mid
    → k ≡ length (bytes_of old models) → IsAcceptedAlone most.symbols most.entries (bytes_of old models) f
    → DidFollow mid_count now f most.bytes mid logs n i ts turns status new → RunsFeeds base now most old models logs status new
feeds_followed base mid_count now most f old mid new models logs k n i ts more turns status l e a h =
    let o = l.did in
    let d = h.did in
    let same = same_files old mid logs o.files in
    let read = rw (same, o.counted) at h.read in (
      n + 1,
      i + 1,
      k,
      ts,
      more,
      turns,
      record {
        did = record {
          files = d.files ∙ o.files;
          few = omega (arith, d.few);
          opened = d.opened ∙ rw (o.opened, append_assoc, add-one) refl;
          least = omega (arith, d.least);
          most = omega (arith, d.most);
          counted = omega (arith, d.counted, o.counted);
          left = d.left ∙ rw (o.left, same, append_assoc, add-one) refl;
          turns = d.turns ∙ rw (o.turns, append_assoc) refl;
        };
        models_read = record { unread = λ z. absurd (omega (arith, z)); within = l.read.within; most = l.read.most; rises = l.read.rises; rooms = l.read.rooms };
        logs_read = read_later (base + 1) most.bytes (i < length logs) (i + 1 < length logs + 1) (map (bytes_of old) logs) ts turns (λ z. omega (arith, z)) read;
        failed = λ z. h.failed (omega (arith, z));
        prompt = λ _. (f, a, e, rw (same, l.written, o.counted) at h.prompt);
        outcome = elim (rw (same, l.written) at h.outcome) [
          | inl u ↦ inl (unwritten_more (i < length logs) (i + 1 < length logs + 1) old.written status new.written (λ z. omega (arith, z)) u)
          | inr q ↦ inr (inl (omega (arith, q.0), (f, a, e, q.1)))
        ];
      },
    )

-- ---- a call that meets no fault ends well

each_at : (old : Told) (limit : ℕ) (logs : List (List ℕ)) (n : ℕ) → n < length (map (bytes_of old) logs) → AllByRecursion (λ log. length (bytes_of old log) < limit) logs
    → length (get_or (map (bytes_of old) logs) n []) < limit
each_at old limit [] n l h = absurd (omega (arith, l))
each_at old limit (log ∷ logs) zero l h = h.0
each_at old limit (log ∷ logs) (suc n) l h = each_at old limit logs n (omega (arith, l)) h.1

module _ (base now : ℕ) (most : Most) (old new : Told) (models : List ℕ) (logs : List (List ℕ)) (fault : Type 0) where
  abbrev text : List ℕ
  text = bytes_of old models

  -- a status of models that were refused
  refused_by : (status : Status) → RefusalOutcome (IsModelLine (IsFaulty most.symbols text)) old.written status new.written → (status ≡ WriteFault → fault)
      → CompletesFeeds most old models logs fault status
  refused_by status (inl h) wf =
      let o = h.1.1 in
      record {
        accepted = λ f a l n. absurd (not_both_alone most.symbols most.entries text f o.0 o.1 a o.2);
        refused = λ line word k n. inl h.0;
      }
  refused_by status (inr h) wf = elim h.0 [
    | inl e ↦ record { accepted = λ f a l n. absurd (n (wf e)); refused = λ line word k n. absurd (n (wf e)) }
    | inr e ↦ record { accepted = λ f a l n. inr (inr e); refused = λ line word k n. inr e }
  ]

  unwritten_by : (P : Type 0) (status : Status) → IsUnwritten P old.written status new.written → (status ≡ ReadFault → fault) → CompletesFeeds most old models logs fault status
  unwritten_by P status h rf = elim h.0 [
    | inl e ↦ record { accepted = λ f a l n. absurd (n (rf e.0)); refused = λ line word k n. absurd (n (rf e.0)) }
    | inr e ↦ record { accepted = λ f a l n. inr (inr e); refused = λ line word k n. inr e }
  ]

  read_by : (status : Status) (ts : List ℕ) (f : Frame) (turns : List Turn) (missing : Type 0) → IsAcceptedAlone most.symbols most.entries text f
      → AreRead (base + 1) most.bytes missing (map (bytes_of old) logs) ts turns
      → FeedsOutcome f (map (bytes_of old) logs) most.bytes ts old.written status new.written → (status ≡ ReadFault → fault) → (status ≡ WriteFault → fault)
      → CompletesFeeds most old models logs fault status
  read_by Done ts f turns missing a read o rf wf = record { accepted = λ g b l n. inl refl; refused = λ line word k n. absurd (not_both_alone most.symbols most.entries text f line word a k) }
  read_by Refusals ts f turns missing a read o rf wf = record { accepted = λ g b l n. inr (inl refl); refused = λ line word k n. absurd (not_both_alone most.symbols most.entries text f line word a k) }
  read_by Words ts f turns missing a read o rf wf = absurd o
  read_by Rejected ts f turns missing a read o rf wf = absurd o
  read_by ReadFault ts f turns missing a read o rf wf = record { accepted = λ g b l n. absurd (n (rf refl)); refused = λ line word k n. absurd (n (rf refl)) }
  read_by WriteFault ts f turns missing a read o rf wf = record { accepted = λ g b l n. absurd (n (wf refl)); refused = λ line word k n. absurd (n (wf refl)) }
  read_by Memory ts f turns missing a read o rf wf = record { accepted = λ g b l n. inr (inr refl); refused = λ line word k n. inr refl }
  read_by TooLong ts f turns missing a read o rf wf = record {
    accepted = λ g b l n.
        let within = (read.each o.0 o.1).within in
        let short = each_at old most.bytes logs o.0 o.1 l in
        let full = o.2 in absurd (omega (arith, within, short, full));
    refused = λ line word k n. absurd (not_both_alone most.symbols most.entries text f line word a k);
  }

  pub completes_feeds : (status : Status) → RunsFeeds base now most old models logs status new → (status ≡ ReadFault → fault) → (status ≡ WriteFault → fault)
      → CompletesFeeds most old models logs fault status
  completes_feeds status r rf wf = elim r.6.outcome [
    | inl u ↦ unwritten_by (r.1 < length logs + 1) status u rf
    | inr k ↦ elim k [
      | inl p ↦ read_by status r.3 p.1.0 r.5 (r.1 < length logs + 1) p.1.1 r.6.logs_read p.1.3 rf wf
      | inr q ↦ refused_by status q.2 wf
    ]
  ]
