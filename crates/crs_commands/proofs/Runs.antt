-- The whole of a run, by its parts.
use Rattle.std.proofs.Common.{◌≡◌, ◌∙◌, ap, sym, refl, inl, inr, ℕ, ◌+◌, ◌<◌, ◌≤◌, ◌^◌, Bool, List, [], ◌∷◌, ◌++◌, length, arith, append-nil, append_assoc, add-one}
use Rattle.std.specs.Option.{unwrap_or}
use Rattle.std.proofs.lemmas.List.{take-append-le}
use Rattle.crs_desk.specs.Desk.{Told, Stream, file_of}
use Rattle.crs_desk.specs.declared.turn.Turn.{Turn}
use Rattle.crs_outcomes.specs.declared.status.Status.{Status}
use Rattle.crs_outcomes.specs.declared.status.Status.TheVariants.{Done, Refusals, Words, Rejected, ReadFault, WriteFault, Memory, TooLong}
use Rattle.crs_outcomes.specs.Inputs.{bytes_of, after}
use Rattle.crs_outcomes.specs.Loads.{IsModelLine, LoadOutcome, EndsWithInput, Loaded}
use Rattle.crs_commands.specs.Logs.{Tail, LogOutcome}
use Rattle.crs_outcomes.specs.ModelTexts.{IsAccepted, IsRunFaulty}
use Rattle.crs_outcomes.specs.Most.{Most}
use Rattle.crs_commands.specs.RunOutcomes.{Outcome, Runs, FollowOutcome, Followed}
use Rattle.crs_frames.specs.Frames.{Frame}
use Rattle.crs_session.specs.Texts.{start_of}
use Rattle.crs_outcomes.proofs.Loads.{nothing_read_of}

-- a run that ended with the models printed nothing
ended_outcome : (cite : Bool) (tail : Tail) (most : Most) (models log : List ℕ) (n i k : ℕ) (old : List ℕ) (status : Status) (new : List ℕ) → n ≤ 1 → LoadOutcome (2 ^ 20) (λ text. ⊥) (IsModelLine (IsRunFaulty cite most.symbols models)) models n k old status new
    → Outcome cite tail most models log n i k 0 old status new
ended_outcome cite tail most models log n i k old Done new le h = absurd h.2.1
ended_outcome cite tail most models log n i k old Refusals new le h = absurd h
ended_outcome cite tail most models log n i k old Words new le h = absurd h
ended_outcome cite tail most models log n i k old Rejected new le h = h
ended_outcome cite tail most models log n i k old ReadFault new le h = inl (omega (arith, le), h)
ended_outcome cite tail most models log n i k old WriteFault new le h = inr (
  h.0,
  h.1,
  elim h.2 [
    | inl p ↦ absurd p.2
    | inr r ↦ r
  ],
)
ended_outcome cite tail most models log n i k old Memory new le (inl e) = inl e
ended_outcome cite tail most models log n i k old Memory new le (inr h) = inr (inr (
  h.0,
  h.1,
  elim h.2 [
    | inl p ↦ absurd p.2
    | inr r ↦ r
  ],
))
ended_outcome cite tail most models log n i k old TooLong new le h = absurd h

pub run_ended : (base now : ℕ) (cite : Bool) (tail : Tail) (most : Most) (old new : Told) (models log : List ℕ) (status : Status) → EndsWithInput base now (2 ^ 20) (λ text. ⊥) (IsModelLine (IsRunFaulty cite most.symbols (bytes_of old models))) old models status new
    → Runs base now cite tail most old models log status new
run_ended base now cite tail most old new models log status h =
    let d = h.4.did in (
      h.0,
      h.1,
      h.2,
      0,
      h.3,
      [],
      record {
        did = record {
          files = d.files;
          few = omega (arith, d.few);
          opened = d.opened ∙ ap (λ (x : List (List ℕ)). old.opened ++ x) (sym (take-append-le h.0 (models ∷ []) (log ∷ []) d.few));
          least = d.least;
          most = d.most;
          counted = d.counted;
          left = d.left ∙ ap (λ (x : List Stream). old.left ++ x) (sym (take-append-le h.1 (after (bytes_of old models) h.2 ∷ []) (after (bytes_of old log) 0 ∷ []) (omega (arith, d.least, d.few))));
          turns = d.turns ∙ ap (λ (x : List Turn). old.turns ++ x) (sym (append-nil h.3));
        };
        models_read = h.4.read;
        log_read = nothing_read_of (base + 1) most.bytes (h.1 < 2) (bytes_of old log);
        failed = h.4.failed;
        prompt = λ e. absurd (omega (arith, e, d.few));
        outcome = ended_outcome cite tail most (bytes_of old models) (bytes_of old log) h.0 h.1 h.2 old.written status new.written (omega (arith, d.few)) h.4.outcome;
      },
    )

read_outcome : (cite : Bool) (tail : Tail) (most : Most) (f : Frame) (models log : List ℕ) (n i k t : ℕ) (old new : List ℕ) (status : Status) → n ≡ 2 → IsAccepted cite most.symbols most.entries models f → k ≡ length models
    → LogOutcome tail f log most.bytes t old status new → Outcome cite tail most models log n i k t old status new
read_outcome cite tail most f models log n i k t old new Done two a e o = (two, o.0, o.1, (f, a, e, (o.2, o.3)))
read_outcome cite tail most f models log n i k t old new Refusals two a e o = (two, o.0, o.1, (f, a, e, (o.2, o.3)))
read_outcome cite tail most f models log n i k t old new Words two a e o = absurd o
read_outcome cite tail most f models log n i k t old new Rejected two a e o = absurd o
read_outcome cite tail most f models log n i k t old new ReadFault two a e o = inr (two, (λ _. o.0), (f, a, e, o.1))
read_outcome cite tail most f models log n i k t old new TooLong two a e o = (two, o.0, (f, a, e, o.1))
read_outcome cite tail most f models log n i k t old new WriteFault two a e o = inl (two, (f, a, e, o))
read_outcome cite tail most f models log n i k t old new Memory two a e o = inr (inl (two, (f, a, e, o)))

followed_outcome : (cite : Bool) (tail : Tail) (most : Most) (f : Frame) (models log : List ℕ) (n i k t : ℕ) (old new : List ℕ) (status : Status) → IsAccepted cite most.symbols most.entries models f → k ≡ length models
    → FollowOutcome tail f log most.bytes n i t old status new → Outcome cite tail most models log (n + 1) (i + 1) k t old status new
followed_outcome cite tail most f models log n i k t old new status a e (inl o) = read_outcome cite tail most f models log (n + 1) (i + 1) k t old new status (omega (arith, o.0)) a e o.2
followed_outcome cite tail most f models log n i k t old new status a e (inr (inl o)) =
    rw (o.3) (inr (omega (arith, o.0), (λ h. absurd (omega (arith, o.1, h))), (f, a, e, ([], rw (o.2) ([], start_of f, refl, refl), o.4 ∙ sym (append-nil old)))))
followed_outcome cite tail most f models log n i k t old new status a e (inr (inr o)) = rw (o.1) (inl o.2)

pub run_followed : (base now mid_count : ℕ) (cite : Bool) (tail : Tail) (most : Most) (f : Frame) (old mid new : Told) (models log : List ℕ) (k n i t : ℕ) (more turns : List Turn) (status : Status) → Loaded base mid_count (2 ^ 20) old models 1 1 k more mid
    → k ≡ length (bytes_of old models) → IsAccepted cite most.symbols most.entries (bytes_of old models) f → Followed mid_count now tail f most.bytes mid log n i t turns status new → Runs base now cite tail most old models log status new
run_followed base now mid_count cite tail most f old mid new models log k n i t more turns status l e a h =
    let o = l.did in
    let d = h.did in
    let same : bytes_of mid log ≡ bytes_of old log = ap (λ (x : List (List ℕ × List ℕ)). unwrap_or (file_of x log) []) o.files in
    let r = rw (same, o.counted) at h.read in (
      n + 1,
      i + 1,
      k,
      t,
      more,
      turns,
      record {
        did = record {
          files = d.files ∙ o.files;
          few = omega (arith, d.few);
          opened = d.opened ∙ rw (o.opened, append_assoc, add-one) refl;
          least = omega (arith, d.least);
          most = omega (arith, d.most);
          counted = omega (arith, d.counted, o.counted);
          left = d.left ∙ rw (o.left, same, append_assoc, add-one) refl;
          turns = d.turns ∙ rw (o.turns, append_assoc) refl;
        };
        models_read = record { unread = λ z. absurd (omega (arith, z)); within = l.read.within; most = l.read.most; rises = l.read.rises; rooms = l.read.rooms };
        log_read = record { unread = λ z. r.unread (omega (arith, z)); within = r.within; most = r.most; rises = r.rises; rooms = r.rooms };
        failed = λ z. h.failed (omega (arith, z));
        prompt = λ _. (f, a, e, rw (same, l.written) at h.prompt);
        outcome = followed_outcome cite tail most f (bytes_of old models) (bytes_of old log) n i k t old.written new.written status a e (rw (same, l.written) at h.outcome);
      },
    )
