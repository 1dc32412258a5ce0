-- An input that is read whole, and of which a text is then printed, or which is refused.
use Rattle.std.proofs.Common.{◌≡◌, ◌⊎◌, ◌∙◌, ap, sym, refl, inl, inr, ℕ, Bool, true, false, ◌+◌, ◌<◌, ◌≤◌, ◌^◌, List, [], ◌∷◌, ◌++◌, length, arith, append-nil, Result, Ok, Err, Vec, codes, cond, lt-ltb}
use Rattle.std.proofs.Math.Seq.{take-length, get_or-append_seam, set-append_seam}
use Rattle.std.specs.Fmt.{digits}
use Rattle.std.specs.declared.alloc.Global.{Global}
use Rattle.crs_base.specs.Lines.{lines_of}
use Rattle.crs_desk.specs.Desk.{Told, Stream, stream_at, advanced, Opens, Wrote}
use Rattle.crs_desk.specs.ReadAll.{ReadsAll}
use Rattle.crs_desk.specs.declared.turn.Turn.{Turn}
use Rattle.crs_desk.specs.declared.desk.DeskError.TheVariants as errors
use Rattle.crs_desk.specs.declared.whole.ReadAllError.{ReadAllError}
use Rattle.crs_desk.specs.declared.whole.ReadAllError.TheVariants as refusals
use Rattle.crs_model.specs.declared.models.ModelWord.{ModelWord}
use Rattle.crs_model.specs.declared.models.ModelWord.TheVariants.{Size}
use Rattle.crs_model.specs.declared.models.ModelRefused.{ModelRefused}
use Rattle.crs_model.specs.declared.models.ModelRefused.TheVariants.{At, Memory as NoMemory}
use Rattle.crs_parse.specs.Meant.{read_of}
use Rattle.crs_parse.specs.Faults.{after_lines, nothing_read}
use Rattle.crs_report.specs.OutputLines.{model_line}
use Rattle.crs_outcomes.specs.declared.status.Status.{Status}
use Rattle.crs_outcomes.specs.declared.status.Status.TheVariants.{Done, Refusals, Words, Rejected, ReadFault, WriteFault, Memory, TooLong}
use Rattle.crs_outcomes.specs.Inputs.{bytes_of, after, Opened, IsRead}
use Rattle.crs_outcomes.specs.Loads.{AreTaken, IsModelLine, LoadOutcome, EndsWithInput, Loaded, IsTooLong, ReadsWhole, Loads, Refuses}
use Rattle.crs_outcomes.specs.Writing.{AppendsFront, Says}
use Rattle.crs_outcomes.specs.ModelTexts.{BreaksRule, IsFaulty, IsRunFaulty}

size_line : model_line 0 Size ≡ codes "model line 0 size\n"
unfolding digits
size_line = refl

-- a text of more than 2^20 bytes is refused by its size
pub long_breaks_rule : (symbols : ℕ) (models text : List ℕ) → IsTooLong (2 ^ 20) (codes "model line 0 size\n") models text → IsModelLine (BreaksRule symbols models) text
long_breaks_rule symbols models text h = (
  0,
  Size,
  inl (λ i. read_of (cond (lt-ltb 1048576 (length models) h.0 i) (Err (0, Size)) (after_lines symbols 1 (nothing_read []) (lines_of models)))),
  h.1 ∙ sym size_line,
)

pub long_is_faulty : (symbols : ℕ) (models text : List ℕ) → IsTooLong (2 ^ 20) (codes "model line 0 size\n") models text → IsModelLine (IsFaulty symbols models) text
long_is_faulty symbols models text h = let b = long_breaks_rule symbols models text h in (b.0, b.1, inl b.2, b.3)

pub long_is_run_faulty : (cite : Bool) (symbols : ℕ) (models text : List ℕ) → IsTooLong (2 ^ 20) (codes "model line 0 size\n") models text → IsModelLine (IsRunFaulty cite symbols models) text
long_is_run_faulty true symbols models text h = long_is_faulty symbols models text h
long_is_run_faulty false symbols models text h = long_breaks_rule symbols models text h

-- the input that was just opened
pub opened_stream : (old mid : Told) (name : List ℕ) (i : ℕ) → i ≡ length old.left → Opens old name (Ok i) mid → stream_at mid.left i ≡ record { taken = 0; rest = bytes_of old name }
opened_stream old mid name i e o = rw (o.ok, e) (get_or-append_seam old.left _ [] _)

-- what is left of it after k bytes
pub opened_left : (old mid : Told) (name : List ℕ) (i k : ℕ) → i ≡ length old.left → Opens old name (Ok i) mid → advanced mid.left i k ≡ old.left ++ after (bytes_of old name) k ∷ []
opened_left old mid name i k e o =
    let at = opened_stream old mid name i e o in
    let zero : 0 + k ≡ k = omega arith in
    rw (at, o.ok, e, zero) (set-append_seam old.left _ [] _)

-- a name whose input was not opened
pub refused_open : (base now : ℕ) (old new : Told) (name bytes : List ℕ) → now ≡ base → Opens old name (Err errors.Memory) new → Opened base now old (name ∷ []) (after bytes 0 ∷ []) 0 0 [] new
refused_open base now old new name bytes e o = record {
  files = o.files;
  few = omega arith;
  opened = o.opened ∙ sym (append-nil old.opened);
  least = omega arith;
  most = omega arith;
  counted = omega (arith, e);
  left = o.err ∙ sym (append-nil old.left);
  turns = o.turns ∙ sym (append-nil old.turns);
}

pub failed_open : (base now : ℕ) (old new : Told) (name bytes : List ℕ) → now ≡ base → Opens old name (Err errors.Failed) new → Opened base now old (name ∷ []) (after bytes 0 ∷ []) 1 0 [] new
failed_open base now old new name bytes e o = record {
  files = o.files;
  few = omega arith;
  opened = o.opened;
  least = omega arith;
  most = omega arith;
  counted = omega (arith, e);
  left = o.err ∙ sym (append-nil old.left);
  turns = o.turns ∙ sym (append-nil old.turns);
}

-- of which nothing was read
pub nothing_read_of : (input limit : ℕ) (missing : Type 0) (bytes : List ℕ) → IsRead input limit missing bytes 0 []
nothing_read_of input limit missing bytes = record { unread = λ _. (refl, refl); within = omega arith; most = omega arith; rises = omega arith; rooms = tt }

-- the input, of which k bytes were taken
loaded : (base now limit : ℕ) (old mid new : Told) (models : List ℕ) (i k : ℕ) (more : List Turn) → i ≡ base → base ≡ length old.left → now ≡ base + 1 → Opens old models (Ok i) mid
    → (files : new.files ≡ mid.files) → new.opened ≡ mid.opened → new.left ≡ advanced mid.left i k → new.turns ≡ mid.turns ++ more → new.written ≡ mid.written
    → IsRead base (limit + 1) (1 < 1) (bytes_of old models) k more → Loaded base now limit old models 1 1 k more new
loaded base now limit old mid new models i k more ie be ne o files opened left turns written read = record {
  did = record {
    files = files ∙ o.files;
    few = omega arith;
    opened = opened ∙ o.opened;
    least = omega arith;
    most = omega arith;
    counted = ne;
    left = left ∙ opened_left old mid models i k (ie ∙ be) o;
    turns = turns ∙ ap (λ (x : List Turn). x ++ more) o.turns;
  };
  read = read;
  written = written ∙ o.written;
}

-- what was read of it
all_loaded : (base now limit : ℕ) (old mid new : Told) (models : List ℕ) (i : ℕ) (result : _) → i ≡ base → base ≡ length old.left → now ≡ base + 1 → Opens old models (Ok i) mid
    → (h : ReadsAll mid i limit result new) → h.k ≤ limit + 1 → Loaded base now limit old models 1 1 h.k h.more new
all_loaded base now limit old mid new models i result ie be ne o h le =
    let at = opened_stream old mid models i (ie ∙ be) o in
    let rest_is : (stream_at mid.left i).rest ≡ bytes_of old models = ap (λ (x : Stream). x.rest) at in
    let taken_is : (stream_at mid.left i).taken ≡ 0 = ap (λ (x : Stream). x.taken) at in
    let zero : 0 + h.k ≡ h.k = omega arith in
    let room : 0 + (limit + 1) ≡ limit + 1 = omega arith in
    (loaded base now limit old mid new models i h.k h.more ie be ne o h.took.files h.took.opened h.took.left h.took.turns h.took.written)
    (record { unread = λ l. absurd (omega arith); within = rw rest_is at h.took.within; most = le; rises = rw (taken_is, ie, zero) at h.rises; rooms = rw room at (rw taken_is at h.rooms) })

module _ (base now limit : ℕ) (Printed Refused : List ℕ → Type 0) (old : Told) (models : List ℕ) where
  -- reading failed, or memory was wanting
  pub ends_failed : (n i k : ℕ) (more : List Turn) (new : Told) → Loaded base now limit old models n i k more new → EndsWithInput base now limit Printed Refused old models ReadFault new
  ends_failed n i k more new l = (n, i, k, more, record { did = l.did; read = l.read; failed = λ _. refl; outcome = l.written })

  pub ends_wanting : (n i k : ℕ) (more : List Turn) (new : Told) → Loaded base now limit old models n i k more new → n ≤ i → EndsWithInput base now limit Printed Refused old models Memory new
  ends_wanting n i k more new l le = (n, i, k, more, record { did = l.did; read = l.read; failed = λ h. absurd (omega (arith, h, le)); outcome = inl l.written })

  -- only writing followed
  wrote : (mid new : Told) (k j : ℕ) (more : List Turn) (text : List ℕ) (status : Status) → Loaded base now limit old models 1 1 k more mid → Wrote mid text j new
      → LoadOutcome limit Printed Refused (bytes_of old models) 1 k old.written status new.written → EndsWithInput base now limit Printed Refused old models status new
  wrote mid new k j more text status l w outcome = (
    1,
    1,
    k,
    more,
    record {
      did = record {
        files = w.files ∙ l.did.files;
        few = l.did.few;
        opened = w.opened ∙ l.did.opened;
        least = l.did.least;
        most = l.did.most;
        counted = l.did.counted;
        left = w.left ∙ l.did.left;
        turns = w.turns ∙ l.did.turns;
      };
      read = l.read;
      failed = λ h. absurd (omega (arith, h));
      outcome = outcome;
    },
  )

  -- the input was refused, and its refusal is written
  pub ends_said : (mid new : Told) (k : ℕ) (more : List Turn) (text : List ℕ) (status : Status) → Loaded base now limit old models 1 1 k more mid → AreTaken limit (bytes_of old models) k → Refused text
      → Says Rejected mid text status new → EndsWithInput base now limit Printed Refused old models status new
  ends_said mid new k more text status l t h (inl s) =
      rw s.0 (wrote mid new k (length text) more text Rejected l s.1 (refl, t, (text, h, s.1.written ∙ rw (l.written, take-length) refl)))
  ends_said mid new k more text status l t h (inr s) = elim s.0 [
    | inl e ↦ rw e (wrote mid new k s.1.0 more text WriteFault l s.1.1 (refl, t, inr (text, s.1.0, h, s.1.1.written ∙ rw l.written refl)))
    | inr e ↦ rw e (wrote mid new k s.1.0 more text Memory l s.1.1 (inr (refl, t, inr (text, s.1.0, h, s.1.1.written ∙ rw l.written refl))))
  ]

  -- a text was printed
  pub ends_printed : (mid new : Told) (k : ℕ) (more : List Turn) (text : List ℕ) (status : Status) → Loaded base now limit old models 1 1 k more mid → k ≡ length (bytes_of old models) → AreTaken limit (bytes_of old models) k → Printed text
      → Says Done mid text status new → EndsWithInput base now limit Printed Refused old models status new
  ends_printed mid new k more text status l e t h (inl s) =
      rw s.0 (wrote mid new k (length text) more text Done l s.1 (refl, e, (text, h, s.1.written ∙ rw (l.written, take-length) refl)))
  ends_printed mid new k more text status l e t h (inr s) = elim s.0 [
    | inl q ↦ rw q (wrote mid new k s.1.0 more text WriteFault l s.1.1 (refl, t, inl (text, s.1.0, h, s.1.1.written ∙ rw l.written refl)))
    | inr q ↦ rw q (wrote mid new k s.1.0 more text Memory l s.1.1 (inr (refl, t, inl (text, s.1.0, h, s.1.1.written ∙ rw l.written refl))))
  ]

-- the models were refused
pub ends_refused : (base now : ℕ) (Printed : List ℕ → Type 0) (Refused : ℕ → ModelWord → Type 0) (old : Told) (models : List ℕ) (mid new : Told) (k : ℕ) (more : List Turn) (refused : ModelRefused) (status : Status)
    → Loaded base now (2 ^ 20) old models 1 1 k more mid → AreTaken (2 ^ 20) (bytes_of old models) k
    → ((line : ℕ) (word : ModelWord) → refused ≡ At line word → Refused line word) → Refuses mid refused status new → EndsWithInput base now (2 ^ 20) Printed (IsModelLine Refused) old models status new
ends_refused base now Printed Refused old models mid new k more (At line word) status l t h r =
    ends_said base now (2 ^ 20) Printed (IsModelLine Refused) old models mid new k more (model_line line word) status l t (line, word, h line word refl, refl) r
ends_refused base now Printed Refused old models mid new k more NoMemory status l t h r =
    rw (r.0, r.1) (ends_wanting base now (2 ^ 20) Printed (IsModelLine Refused) old models 1 1 k more mid l (omega arith))

-- what is printed or refused by less is so by more
module _ (limit : ℕ) (P Q R S : List ℕ → Type 0) (up : (text : List ℕ) → P text → Q text) (over : (text : List ℕ) → R text → S text) where
  either_weaker : (old new : List ℕ) → AppendsFront P old new ⊎ AppendsFront R old new → AppendsFront Q old new ⊎ AppendsFront S old new
  either_weaker old new (inl p) = inl (p.0, p.1, up p.0 p.2, p.3)
  either_weaker old new (inr r) = inr (r.0, r.1, over r.0 r.2, r.3)

  outcome_weaker : (bytes : List ℕ) (n k : ℕ) (old : List ℕ) (status : Status) (new : List ℕ) → LoadOutcome limit P R bytes n k old status new → LoadOutcome limit Q S bytes n k old status new
  outcome_weaker bytes n k old Done new h = (h.0, h.1, (h.2.0, up h.2.0 h.2.1, h.2.2))
  outcome_weaker bytes n k old Refusals new h = h
  outcome_weaker bytes n k old Words new h = h
  outcome_weaker bytes n k old Rejected new h = (h.0, h.1, (h.2.0, over h.2.0 h.2.1, h.2.2))
  outcome_weaker bytes n k old ReadFault new h = h
  outcome_weaker bytes n k old WriteFault new h = (h.0, h.1, either_weaker old new h.2)
  outcome_weaker bytes n k old Memory new (inl e) = inl e
  outcome_weaker bytes n k old Memory new (inr h) = inr (h.0, h.1, either_weaker old new h.2)
  outcome_weaker bytes n k old TooLong new h = h

  pub ends_weaker : (base now : ℕ) (old : Told) (name : List ℕ) (status : Status) (new : Told) → EndsWithInput base now limit P R old name status new → EndsWithInput base now limit Q S old name status new
  ends_weaker base now old name status new h = (
    h.0,
    h.1,
    h.2,
    h.3,
    record { did = h.4.did; read = h.4.read; failed = h.4.failed; outcome = outcome_weaker (bytes_of old name) h.0 h.2 old.written status new.written h.4.outcome },
  )

-- what read_whole tells at each of its ends
module _ (base now limit : ℕ) (old mid : Told) (models : List ℕ) where
  pub whole_failed : now ≡ base → Opens old models (Err errors.Failed) mid → ReadsWhole base now limit old models (Err refusals.Failed) mid
  whole_failed e o = (
    1,
    0,
    0,
    [],
    record { did = failed_open base now old mid models (bytes_of old models) e o; read = nothing_read_of base (limit + 1) (0 < 1) (bytes_of old models); written = o.written },
    (refl, omega arith),
  )

  pub whole_wanting : now ≡ base → Opens old models (Err errors.Memory) mid → ReadsWhole base now limit old models (Err refusals.Memory) mid
  whole_wanting e o = (
    0,
    0,
    0,
    [],
    record { did = refused_open base now old mid models (bytes_of old models) e o; read = nothing_read_of base (limit + 1) (0 < 1) (bytes_of old models); written = o.written },
    omega arith,
  )

  module _ (new : Told) (i : ℕ) (ie : i ≡ base) (be : base ≡ length old.left) (ne : now ≡ base + 1) (o : Opens old models (Ok i) mid) where
    pub whole_read : (result : Result (Vec ℕ Global) ReadAllError) → ReadsAll mid i limit result new → ReadsWhole base now limit old models result new
    whole_read (Ok v) h =
        let rest_is : (stream_at mid.left i).rest ≡ bytes_of old models = ap (λ (x : Stream). x.rest) (opened_stream old mid models i (ie ∙ be) o) in
        let is : v.items ≡ bytes_of old models = h.answered.0 ∙ rest_is in
        let long : h.k ≡ length v.items = h.answered.1 ∙ ap length (sym h.answered.0) in
        (1, 1, h.k, h.more, all_loaded base now limit old mid new models i (Ok v) ie be ne o h (omega (arith, h.answered.2)), (refl, refl, long, is, h.answered.2))
    whole_read (Err refusals.Failed) h =
        (1, 1, h.k, h.more, all_loaded base now limit old mid new models i (Err refusals.Failed) ie be ne o h (omega (arith, h.answered)), (refl, h.answered))
    whole_read (Err refusals.Memory) h =
        (1, 1, h.k, h.more, all_loaded base now limit old mid new models i (Err refusals.Memory) ie be ne o h (omega (arith, h.answered)), omega arith)
    whole_read (Err refusals.Long) h =
        (1, 1, h.k, h.more, all_loaded base now limit old mid new models i (Err refusals.Long) ie be ne o h (omega (arith, h.answered)), (refl, refl, h.answered))

-- it was read whole
pub whole_loaded : (base now limit : ℕ) (old new : Told) (name : List ℕ) (v : Vec ℕ Global) → ReadsWhole base now limit old name (Ok v) new
    → (more : List Turn) × Loaded base now limit old name 1 1 (length v.items) more new × (v.items ≡ bytes_of old name) × (length v.items ≤ limit)
whole_loaded base now limit old new name v h =
    let q = h.5 in
    let one = rw q.0 at h.4 in
    let both = rw q.1 at one in
    let all = rw q.2 at both in
    (h.3, all, q.3, omega (arith, q.2, q.4))

-- what load tells at each of its ends
module _ (base now limit : ℕ) (refusal : List ℕ) (old mid : Told) (models : List ℕ) where
  pub load_failed : ReadsWhole base now limit old models (Err refusals.Failed) mid → Loads base now limit refusal old models (Err ReadFault) mid
  load_failed h = ends_failed base now limit (λ text. ⊥) (IsTooLong limit refusal (bytes_of old models)) old models h.0 h.1 h.2 h.3 mid h.4

  pub load_wanting : ReadsWhole base now limit old models (Err refusals.Memory) mid → Loads base now limit refusal old models (Err Memory) mid
  load_wanting h = ends_wanting base now limit (λ text. ⊥) (IsTooLong limit refusal (bytes_of old models)) old models h.0 h.1 h.2 h.3 mid h.4 h.5

  pub load_long : (last : Told) (status : Status) → ReadsWhole base now limit old models (Err refusals.Long) mid → Says Rejected mid refusal status last → Loads base now limit refusal old models (Err status) last
  load_long last status h r =
      let q = h.5 in
      let one = rw q.0 at h.4 in
      let l = rw q.1 at one in
      let within = l.read.within in
      ends_said base now limit (λ text. ⊥) (IsTooLong limit refusal (bytes_of old models)) old models mid last h.2 h.3 refusal status l (omega (arith, within, q.2))
      (omega (arith, within, q.2), refl) r

-- what was read whole
pub all_taken : (limit : ℕ) (bytes : List ℕ) (k : ℕ) → k ≡ length bytes → k ≤ limit → AreTaken limit bytes k
all_taken limit bytes k e le = omega (arith, e, le)
