-- The whole of an audit, by its parts.
use Rattle.std.proofs.Common.{◌≡◌, ◌∙◌, ap, sym, refl, subst, inl, inr, ℕ, ◌+◌, ◌<◌, ◌≤◌, ◌^◌, true, List, [], ◌∷◌, ◌++◌, length, take, arith, append-nil, append_assoc, add-one, length-append, Err}
use Rattle.std.specs.Option.{unwrap_or}
use Rattle.std.proofs.Math.Seq.{take-length}
use Rattle.std.proofs.lemmas.List.{take-append-le}
use Rattle.crs_audit.specs.Audits.{Ground}
use Rattle.crs_desk.specs.Desk.{Told, Stream, file_of, Wrote}
use Rattle.crs_desk.specs.declared.turn.Turn.{Turn}
use Rattle.crs_outcomes.specs.declared.status.Status.{Status}
use Rattle.crs_outcomes.specs.declared.status.Status.TheVariants.{Done, Refusals, Words, Rejected, ReadFault, WriteFault, Memory, TooLong}
use Rattle.crs_commands.specs.AuditOutcomes.{most_checked, ground_of, IsAuditLine, AreTakenWhole, Judges, AuditOutcome, Audits, EndsUnread, LoadsChecked, SaysAudit}
use Rattle.crs_outcomes.specs.Inputs.{bytes_of, after, Opened, IsRead}
use Rattle.crs_outcomes.specs.Loads.{IsModelLine, LoadOutcome, EndsWithInput, Loaded}
use Rattle.crs_outcomes.specs.Writing.{AppendsFront, Says}
use Rattle.crs_outcomes.specs.ModelTexts.{IsAccepted, IsFaulty}
use Rattle.crs_outcomes.specs.Most.{Most}
use Rattle.crs_frames.specs.Frames.{Frame}
use Rattle.crs_outcomes.proofs.Loads.{nothing_read_of}

-- no further name was handed to open
opened_front : (base now : ℕ) (old new : Told) (names further : List (List ℕ)) (inputs beyond : List Stream) (n i : ℕ) (turns : List Turn) → i ≤ length inputs
    → Opened base now old names inputs n i turns new → Opened base now old (names ++ further) (inputs ++ beyond) n i turns new
opened_front base now old new names further inputs beyond n i turns le d = record {
  files = d.files;
  few = omega (arith, d.few, length-append names further);
  opened = d.opened ∙ ap (λ (x : List (List ℕ)). old.opened ++ x) (sym (take-append-le n names further d.few));
  least = d.least;
  most = d.most;
  counted = d.counted;
  left = d.left ∙ ap (λ (x : List Stream). old.left ++ x) (sym (take-append-le i inputs beyond le));
  turns = d.turns;
}

-- behind one name further ones were handed to open
opened_behind : (base mid now : ℕ) (old x new : Told) (name : List ℕ) (names : List (List ℕ)) (s : Stream) (inputs : List Stream) (n i : ℕ) (turns more : List Turn)
    → Opened base mid old (name ∷ []) (s ∷ []) 1 1 turns x → Opened mid now x names inputs n i more new
    → Opened base now old (name ∷ names) (s ∷ inputs) (n + 1) (i + 1) (turns ++ more) new
opened_behind base mid now old x new name names s inputs n i turns more o d = record {
  files = d.files ∙ o.files;
  few = omega (arith, d.few);
  opened = d.opened ∙ rw (o.opened, append_assoc, add-one) refl;
  least = omega (arith, d.least);
  most = omega (arith, d.most);
  counted = omega (arith, d.counted, o.counted);
  left = d.left ∙ rw (o.left, append_assoc, add-one) refl;
  turns = d.turns ∙ rw (o.turns, append_assoc) refl;
}

-- only writing followed
opened_wrote : (base now : ℕ) (old x new : Told) (names : List (List ℕ)) (inputs : List Stream) (n i : ℕ) (turns : List Turn) (text : List ℕ) (j : ℕ)
    → Opened base now old names inputs n i turns x → Wrote x text j new → Opened base now old names inputs n i turns new
opened_wrote base now old x new names inputs n i turns text j d w = record {
  files = w.files ∙ d.files;
  few = d.few;
  opened = w.opened ∙ d.opened;
  least = d.least;
  most = d.most;
  counted = d.counted;
  left = w.left ∙ d.left;
  turns = w.turns ∙ d.turns;
}

-- the bytes of a name stay
pub same_bytes : (old x : Told) (name : List ℕ) → x.files ≡ old.files → bytes_of x name ≡ bytes_of old name
same_bytes old x name e = ap (λ (files : List (List ℕ × List ℕ)). unwrap_or (file_of files name) []) e

-- what was taken of an input, by its number and its bytes
read_as : (input limit k : ℕ) (U : Type 0) (bytes : List ℕ) (more : List Turn) → IsRead input limit U bytes k more
    → (number : ℕ) (all : List ℕ) (V : Type 0) → input ≡ number → bytes ≡ all → (V → U) → IsRead number limit V all k more
read_as input limit k U bytes more r number all V e same up =
    subst (λ (n : ℕ). IsRead n limit V all k more) e (subst (λ (bs : List ℕ). IsRead input limit V bs k more) same
    (record { unread = λ v. r.unread (up v); within = r.within; most = r.most; rises = r.rises; rooms = r.rooms }))

-- a call that ended with the models printed nothing
ended_outcome : (most : Most) (models log output : List ℕ) (n i k : ℕ) (old : List ℕ) (status : Status) (new : List ℕ)
    → LoadOutcome (2 ^ 20) (λ text. ⊥) (IsModelLine (IsFaulty most.symbols models)) models n k old status new → AuditOutcome most models log output n k 0 0 old status new
ended_outcome most models log output n i k old Done new h = absurd h.2.1
ended_outcome most models log output n i k old Refusals new h = absurd h
ended_outcome most models log output n i k old Words new h = absurd h
ended_outcome most models log output n i k old Rejected new h = inl h
ended_outcome most models log output n i k old ReadFault new h = h
ended_outcome most models log output n i k old WriteFault new h = inl (
  h.0,
  h.1,
  elim h.2 [
    | inl p ↦ absurd p.2
    | inr r ↦ r
  ],
)
ended_outcome most models log output n i k old Memory new (inl e) = inl e
ended_outcome most models log output n i k old Memory new (inr h) = inr (inl (
  h.0,
  h.1,
  elim h.2 [
    | inl p ↦ absurd p.2
    | inr r ↦ r
  ],
))
ended_outcome most models log output n i k old TooLong new h = absurd h

pub audit_ended : (base now : ℕ) (most : Most) (old new : Told) (models log output : List ℕ) (status : Status)
    → EndsWithInput base now (2 ^ 20) (λ text. ⊥) (IsModelLine (IsFaulty most.symbols (bytes_of old models))) old models status new
    → Audits base now most old models log output status new
audit_ended base now most old new models log output status h =
    let d = h.4.did in
    let front : Opened base now old (models ∷ log ∷ output ∷ []) (after (bytes_of old models) h.2 ∷ after (bytes_of old log) 0 ∷ after (bytes_of old output) 0 ∷ []) h.0 h.1 h.3 new =
    opened_front base now old new (models ∷ []) (log ∷ output ∷ []) (after (bytes_of old models) h.2 ∷ []) (after (bytes_of old log) 0 ∷ after (bytes_of old output) 0 ∷ []) h.0 h.1 h.3
    (omega (arith, d.least, d.few)) d in (
      h.0,
      h.1,
      h.2,
      0,
      0,
      h.3,
      [],
      [],
      record {
        did = subst (λ (turns : List Turn). Opened base now old (models ∷ log ∷ output ∷ [])
            (after (bytes_of old models) h.2 ∷ after (bytes_of old log) 0 ∷ after (bytes_of old output) 0 ∷ []) h.0 h.1 turns new) (sym (append-nil h.3)) front;
        models_read = h.4.read;
        log_read = nothing_read_of (base + 1) (most_checked + 1) (h.1 < 2) (bytes_of old log);
        output_read = nothing_read_of (base + 2) (most_checked + 1) (h.1 < 3) (bytes_of old output);
        failed = h.4.failed;
        accepted = λ lt. absurd (omega (arith, lt, d.few));
        whole = λ lt. absurd (omega (arith, lt, d.few));
        outcome = ended_outcome most (bytes_of old models) (bytes_of old log) (bytes_of old output) h.0 h.1 h.2 old.written status new.written h.4.outcome;
      },
    )

-- a name that was handed over and not opened is a read fault
fault_alone : (status : Status) (n i k : ℕ) → EndsUnread status n i k → i < n → status ≡ ReadFault
fault_alone ReadFault n i k h lt = refl
fault_alone TooLong n i k h lt = absurd (omega (arith, lt, h.0, h.1))
fault_alone Memory n i k h lt = absurd (omega (arith, lt, h))
fault_alone Done n i k h lt = absurd h
fault_alone Refusals n i k h lt = absurd h
fault_alone Words n i k h lt = absurd h
fault_alone Rejected n i k h lt = absurd h
fault_alone WriteFault n i k h lt = absurd h

-- the call ended with the log, and nothing was written
log_outcome : (most : Most) (models log output : List ℕ) (n i k t : ℕ) (old new : List ℕ) (status : Status) → new ≡ old → EndsUnread status n i t
    → AuditOutcome most models log output (n + 1) k t 0 old status new
log_outcome most models log output n i k t old new ReadFault w h = w
log_outcome most models log output n i k t old new TooLong w h = (inl (omega (arith, h.0), h.2), w)
log_outcome most models log output n i k t old new Memory w h = inl w
log_outcome most models log output n i k t old new Done w h = absurd h
log_outcome most models log output n i k t old new Refusals w h = absurd h
log_outcome most models log output n i k t old new Words w h = absurd h
log_outcome most models log output n i k t old new Rejected w h = absurd h
log_outcome most models log output n i k t old new WriteFault w h = absurd h

-- so it did with the output
output_outcome : (most : Most) (models log output : List ℕ) (n i k t u : ℕ) (old new : List ℕ) (status : Status) → new ≡ old → EndsUnread status n i u
    → AuditOutcome most models log output (n + 1 + 1) k t u old status new
output_outcome most models log output n i k t u old new ReadFault w h = w
output_outcome most models log output n i k t u old new TooLong w h = (inr (omega (arith, h.0), h.2), w)
output_outcome most models log output n i k t u old new Memory w h = inl w
output_outcome most models log output n i k t u old new Done w h = absurd h
output_outcome most models log output n i k t u old new Refusals w h = absurd h
output_outcome most models log output n i k t u old new Words w h = absurd h
output_outcome most models log output n i k t u old new Rejected w h = absurd h
output_outcome most models log output n i k t u old new WriteFault w h = absurd h

-- the models were read and are accepted
module _ (base b1 : ℕ) (most : Most) (f : Frame) (old x : Told) (models log output : List ℕ) (k : ℕ) (of_models : List Turn)
    (l : Loaded base b1 (2 ^ 20) old models 1 1 k of_models x) (e : k ≡ length (bytes_of old models))
    (a : IsAccepted true most.symbols most.entries (bytes_of old models) f) where
  models_read : (i : ℕ) → IsRead base (2 ^ 20 + 1) (i + 1 < 1) (bytes_of old models) k of_models
  models_read i = record { unread = λ z. absurd (omega (arith, z)); within = l.read.within; most = l.read.most; rises = l.read.rises; rooms = l.read.rooms }

  -- the log wasn't read whole
  module _ (now n i t : ℕ) (new : Told) (of_log : List Turn) (m : Loaded b1 now most_checked x log n i t of_log new) where
    log_did : Opened base now old (models ∷ log ∷ output ∷ []) (after (bytes_of old models) k ∷ after (bytes_of old log) t ∷ after (bytes_of old output) 0 ∷ []) (n + 1) (i + 1)
        (of_models ++ (of_log ++ [])) new
    log_did =
        let front : Opened b1 now x (log ∷ output ∷ []) (after (bytes_of x log) t ∷ after (bytes_of old output) 0 ∷ []) n i of_log new =
        opened_front b1 now x new (log ∷ []) (output ∷ []) (after (bytes_of x log) t ∷ []) (after (bytes_of old output) 0 ∷ []) n i of_log (omega (arith, m.did.least, m.did.few)) m.did in
        subst (λ (turns : List Turn). Opened base now old (models ∷ log ∷ output ∷ [])
        (after (bytes_of old models) k ∷ after (bytes_of old log) t ∷ after (bytes_of old output) 0 ∷ []) (n + 1) (i + 1) (of_models ++ turns) new) (sym (append-nil of_log))
        (subst (λ (bytes : List ℕ). Opened base now old (models ∷ log ∷ output ∷ [])
        (after (bytes_of old models) k ∷ after bytes t ∷ after (bytes_of old output) 0 ∷ []) (n + 1) (i + 1) (of_models ++ of_log) new) (same_bytes old x log l.did.files)
        (opened_behind base b1 now old x new models (log ∷ output ∷ []) (after (bytes_of old models) k) (after (bytes_of x log) t ∷ after (bytes_of old output) 0 ∷ []) n i of_models of_log l.did front))

    log_ended : (status : Status) → EndsUnread status n i t → Audits base now most old models log output status new
    log_ended status h = (
      n + 1,
      i + 1,
      k,
      t,
      0,
      of_models,
      of_log,
      [],
      record {
        did = log_did;
        models_read = models_read i;
        log_read = read_as b1 (most_checked + 1) t (i < 1) (bytes_of x log) of_log m.read (base + 1) (bytes_of old log) (i + 1 < 2) l.did.counted (same_bytes old x log l.did.files) (λ z. omega (arith, z));
        output_read = nothing_read_of (base + 2) (most_checked + 1) (i + 1 < 3) (bytes_of old output);
        failed = λ z. fault_alone status n i t h (omega (arith, z));
        accepted = λ _. (f, a, e, tt);
        whole = λ lt. absurd (omega (arith, lt, m.did.few));
        outcome = log_outcome most (bytes_of old models) (bytes_of old log) (bytes_of old output) n i k t old.written new.written status (m.written ∙ l.written) h;
      },
    )

  pub audit_without_log : (now : ℕ) (new : Told) (status : Status) → LoadsChecked b1 now x log (Err status) new → Audits base now most old models log output status new
  audit_without_log now new status h = log_ended now h.0 h.1 h.2 new h.3 h.4 status h.5

  -- the log was read whole
  module _ (b2 : ℕ) (y : Told) (t : ℕ) (of_log : List Turn) (m : Loaded b1 b2 most_checked x log 1 1 t of_log y)
      (whole : AreTakenWhole (bytes_of old log) t) where
    y_files : y.files ≡ old.files
    y_files = m.did.files ∙ l.did.files

    -- and of the output so much was taken
    module _ (now n i u : ℕ) (new : Told) (of_output : List Turn) (r : Loaded b2 now most_checked y output n i u of_output new) where
      all_did : Opened base now old (models ∷ log ∷ output ∷ []) (after (bytes_of old models) k ∷ after (bytes_of old log) t ∷ after (bytes_of old output) u ∷ []) (n + 1 + 1) (i + 1 + 1)
          (of_models ++ (of_log ++ of_output)) new
      all_did =
          let two : Opened b1 now x (log ∷ output ∷ []) (after (bytes_of x log) t ∷ after (bytes_of y output) u ∷ []) (n + 1) (i + 1) (of_log ++ of_output) new =
          opened_behind b1 b2 now x y new log (output ∷ []) (after (bytes_of x log) t) (after (bytes_of y output) u ∷ []) n i of_log of_output m.did r.did in
          subst (λ (bytes : List ℕ). Opened base now old (models ∷ log ∷ output ∷ [])
          (after (bytes_of old models) k ∷ after (bytes_of old log) t ∷ after bytes u ∷ []) (n + 1 + 1) (i + 1 + 1) (of_models ++ (of_log ++ of_output)) new) (same_bytes old y output y_files)
          (subst (λ (bytes : List ℕ). Opened base now old (models ∷ log ∷ output ∷ [])
          (after (bytes_of old models) k ∷ after bytes t ∷ after (bytes_of y output) u ∷ []) (n + 1 + 1) (i + 1 + 1) (of_models ++ (of_log ++ of_output)) new) (same_bytes old x log l.did.files)
          (opened_behind base b1 now old x new models (log ∷ output ∷ []) (after (bytes_of old models) k) (after (bytes_of x log) t ∷ after (bytes_of y output) u ∷ []) (n + 1) (i + 1) of_models (of_log ++ of_output) l.did two))

      -- what the call tells, by what it ended with and what was written
      all_told : (last : Told) (status : Status) → Opened base now old (models ∷ log ∷ output ∷ []) (after (bytes_of old models) k ∷ after (bytes_of old log) t ∷ after (bytes_of old output) u ∷ []) (n + 1 + 1) (i + 1 + 1)
          (of_models ++ (of_log ++ of_output)) last → (i < n → status ≡ ReadFault)
          → AuditOutcome most (bytes_of old models) (bytes_of old log) (bytes_of old output) (n + 1 + 1) k t u old.written status last.written
          → Audits base now most old models log output status last
      all_told last status did failed outcome = (
        n + 1 + 1,
        i + 1 + 1,
        k,
        t,
        u,
        of_models,
        of_log,
        of_output,
        record {
          did = did;
          models_read = models_read (i + 1);
          log_read = read_as b1 (most_checked + 1) t (1 < 1) (bytes_of x log) of_log m.read (base + 1) (bytes_of old log) (i + 1 + 1 < 2) l.did.counted (same_bytes old x log l.did.files) (λ z. absurd (omega (arith, z)));
          output_read = read_as b2 (most_checked + 1) u (i < 1) (bytes_of y output) of_output r.read (base + 2) (bytes_of old output) (i + 1 + 1 < 3) (omega (arith, m.did.counted, l.did.counted)) (same_bytes old y output y_files) (λ z. omega (arith, z));
          failed = λ z. failed (omega (arith, z));
          accepted = λ _. (f, a, e, tt);
          whole = λ _. whole;
          outcome = outcome;
        },
      )

      output_ended : (status : Status) → EndsUnread status n i u → Audits base now most old models log output status new
      output_ended status h = all_told new status all_did (fault_alone status n i u h)
          (output_outcome most (bytes_of old models) (bytes_of old log) (bytes_of old output) n i k t u old.written new.written status (r.written ∙ m.written ∙ l.written) h)

    pub audit_without_output : (now : ℕ) (new : Told) (status : Status) → LoadsChecked b2 now y output (Err status) new → Audits base now most old models log output status new
    audit_without_output now new status h = output_ended now h.0 h.1 h.2 new h.3 h.4 status h.5

    -- the output was read whole too, and the line of its audit is written
    module _ (now u : ℕ) (z : Told) (of_output : List Turn) (r : Loaded b2 now most_checked y output 1 1 u of_output z) (complete : AreTakenWhole (bytes_of old output) u) where
      abbrev g : Ground
      g = ground_of f (bytes_of old log)

      z_written : z.written ≡ old.written
      z_written = r.written ∙ m.written ∙ l.written

      wrote : (last : Told) (status : Status) (text : List ℕ) (j : ℕ) → Wrote z text j last
          → AuditOutcome most (bytes_of old models) (bytes_of old log) (bytes_of old output) 3 k t u old.written status last.written
          → Audits base now most old models log output status last
      wrote last status text j w outcome = all_told now 1 1 u z of_output r last status
          (opened_wrote base now old z last (models ∷ log ∷ output ∷ []) _ 3 3 (of_models ++ (of_log ++ of_output)) text j (all_did now 1 1 u z of_output r) w)
          (λ lt. absurd (omega (arith, lt))) outcome

      -- a front of the line
      cut : (last : Told) (text : List ℕ) (j : ℕ) → IsAuditLine g (bytes_of old output) text → Wrote z text j last
          → Judges most (bytes_of old models) (bytes_of old log) (bytes_of old output) 3 k t u IsAuditLine (λ P. AppendsFront P old.written last.written)
      cut last text j h w = (refl, whole, complete, (f, a, e, (text, j, h, w.written ∙ ap (λ (front : List ℕ). front ++ take j text) z_written)))

      line_said : (last : Told) (due status : Status) (text : List ℕ) → IsAuditLine g (bytes_of old output) text
          → (Wrote z text (length text) last → AuditOutcome most (bytes_of old models) (bytes_of old log) (bytes_of old output) 3 k t u old.written due last.written)
          → Says due z text status last → Audits base now most old models log output status last
      line_said last due status text h whole_line (inl s) = rw s.0 (wrote last due text (length text) s.1 (whole_line s.1))
      line_said last due status text h whole_line (inr s) = elim s.0 [
        | inl q ↦ rw q (wrote last WriteFault text s.1.0 s.1.1 (inr (cut last text s.1.0 h s.1.1)))
        | inr q ↦ rw q (wrote last Memory text s.1.0 s.1.1 (inr (inr (cut last text s.1.0 h s.1.1))))
      ]

      all_written : (last : Told) (text : List ℕ) → Wrote z text (length text) last → last.written ≡ old.written ++ text
      all_written last text w = w.written ∙ (λ j. z_written j ++ take-length text j)

      pub audit_said : (last : Told) (status : Status) → SaysAudit g (bytes_of old output) z status last → Audits base now most old models log output status last
      audit_said last status (inl s) = line_said last Done status s.0 (inl s.1)
          (λ w. (refl, whole, complete, (f, a, e, (s.0, s.1, all_written last s.0 w)))) s.2
      audit_said last status (inr (inl s)) = line_said last Rejected status s.0 (inr s.1)
          (λ w. inr (refl, whole, complete, (f, a, e, (s.0, s.1, all_written last s.0 w)))) s.2
      audit_said last status (inr (inr s)) = rw (s.0, s.1) (all_told now 1 1 u z of_output r z Memory (all_did now 1 1 u z of_output r) (λ lt. absurd (omega (arith, lt))) (inl z_written))

      -- so it is where the log and the output were given as they are
      pub audit_judged : (h : Ground) (checked : List ℕ) → h ≡ g → checked ≡ bytes_of old output → (last : Told) (status : Status) → SaysAudit h checked z status last
          → Audits base now most old models log output status last
      audit_judged h checked same bytes last status s = audit_said last status
          (subst (λ (x : Ground). SaysAudit x (bytes_of old output) z status last) same (subst (λ (bs : List ℕ). SaysAudit h bs z status last) bytes s))
