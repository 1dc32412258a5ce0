-- An input that is read whole, and of which a text is then printed, or which is refused.
use Rattle.std.specs.Prelude.{◌≡◌, ◌⊎◌, ℕ, ◌+◌, ◌<◌, ◌≤◌, min, List, [], ◌∷◌, length, Result, Ok, Err, Vec}
use Rattle.std.specs.declared.alloc.Global.{Global}
use Rattle.crs_desk.specs.Desk.{Told}
use Rattle.crs_desk.specs.declared.turn.Turn.{Turn}
use Rattle.crs_desk.specs.declared.whole.ReadAllError.{ReadAllError}
use Rattle.crs_desk.specs.declared.whole.ReadAllError.TheVariants as unread
use Rattle.crs_model.specs.declared.models.ModelWord.{ModelWord}
use Rattle.crs_model.specs.declared.models.ModelRefused.{ModelRefused}
use Rattle.crs_model.specs.declared.models.ModelRefused.TheVariants.{At, Memory as NoMemory}
use Rattle.crs_report.specs.OutputLines.{model_line}
use Rattle.crs_outcomes.specs.declared.status.Status.{Status}
use Rattle.crs_outcomes.specs.declared.status.Status.TheVariants.{Done, Refusals, Words, Rejected, ReadFault, WriteFault, Memory, TooLong}
use Rattle.crs_outcomes.specs.Inputs.{bytes_of, after, Opened, IsRead}
use Rattle.crs_outcomes.specs.Writing.{Appends, AppendsFront, Says}

-- all bytes of the input were taken, or one more than it may have
abbrev pub AreTaken : ℕ → List ℕ → ℕ → Type 0
AreTaken limit bytes k = k ≡ min (limit + 1) (length bytes)

-- the line of models that are refused at a line with a word
abbrev pub IsModelLine : (ℕ → ModelWord → Type 0) → List ℕ → Type 0
IsModelLine Refused text = (line : ℕ) × (word : ModelWord) × Refused line word × (text ≡ model_line line word)

-- What holds at each status of the input, whether its name was handed to open (n), how many bytes were taken (k), and what was written.
abbrev pub LoadOutcome : ℕ → (Printed Refused : List ℕ → Type 0) → List ℕ → ℕ → ℕ → List ℕ → Status → List ℕ → Type 0
LoadOutcome limit Printed Refused bytes n k old Done new = (n ≡ 1) × (k ≡ length bytes) × Appends Printed old new
LoadOutcome limit Printed Refused bytes n k old Refusals new = ⊥
LoadOutcome limit Printed Refused bytes n k old Words new = ⊥
LoadOutcome limit Printed Refused bytes n k old Rejected new = (n ≡ 1) × AreTaken limit bytes k × Appends Refused old new
LoadOutcome limit Printed Refused bytes n k old ReadFault new = new ≡ old
LoadOutcome limit Printed Refused bytes n k old WriteFault new =
    (n ≡ 1) × AreTaken limit bytes k × (AppendsFront Printed old new ⊎ AppendsFront Refused old new)
LoadOutcome limit Printed Refused bytes n k old Memory new =
    (new ≡ old) ⊎ ((n ≡ 1) × AreTaken limit bytes k × (AppendsFront Printed old new ⊎ AppendsFront Refused old new))
LoadOutcome limit Printed Refused bytes n k old TooLong new = ⊥

-- What a call did that opened one name alone, whose input may have so many bytes: it wrote a text that is Printed, or one by which the input is Refused.
pub record EndedWithInput (base now limit : ℕ) (Printed Refused : List ℕ → Type 0) (old : Told) (name : List ℕ)
    (n i k : ℕ) (more : List Turn) (status : Status) (new : Told) : Type 0 where
  pub did : Opened base now old (name ∷ []) (after (bytes_of old name) k ∷ []) n i more new
  pub read : IsRead base (limit + 1) (i < 1) (bytes_of old name) k more
  pub failed : i < n → status ≡ ReadFault
  pub outcome : LoadOutcome limit Printed Refused (bytes_of old name) n k old.written status new.written

abbrev pub EndsWithInput : ℕ → ℕ → ℕ → (Printed Refused : List ℕ → Type 0) → Told → List ℕ → Status → Told → Type 0
EndsWithInput base now limit Printed Refused old name status new =
    (n : ℕ) × (i : ℕ) × (k : ℕ) × (more : List Turn) × EndedWithInput base now limit Printed Refused old name n i k more status new

-- of the input k bytes were taken, and nothing was written
pub record Loaded (base now limit : ℕ) (old : Told) (name : List ℕ) (n i k : ℕ) (more : List Turn) (new : Told) : Type 0 where
  pub did : Opened base now old (name ∷ []) (after (bytes_of old name) k ∷ []) n i more new
  pub read : IsRead base (limit + 1) (i < 1) (bytes_of old name) k more
  pub written : new.written ≡ old.written

-- how much of the input was taken: all its bytes; fewer, since reading failed or memory was wanting; or one more than it may have
abbrev pub IsReadUpTo : ℕ → List ℕ → ℕ → ℕ → ℕ → Result (Vec ℕ Global) ReadAllError → Type 0
IsReadUpTo limit bytes n i k (Ok v) = (n ≡ 1) × (i ≡ 1) × (k ≡ length v.items) × (v.items ≡ bytes) × (k ≤ limit)
IsReadUpTo limit bytes n i k (Err unread.Failed) = (n ≡ 1) × (k ≤ limit)
IsReadUpTo limit bytes n i k (Err unread.Memory) = n ≤ i
IsReadUpTo limit bytes n i k (Err unread.Long) = (n ≡ 1) × (i ≡ 1) × (k ≡ limit + 1)

-- the input was opened and read whole, or not
abbrev pub ReadsWhole : ℕ → ℕ → ℕ → Told → List ℕ → Result (Vec ℕ Global) ReadAllError → Told → Type 0
ReadsWhole base now limit old name result new =
    (n : ℕ) × (i : ℕ) × (k : ℕ) × (more : List Turn) × Loaded base now limit old name n i k more new × IsReadUpTo limit (bytes_of old name) n i k result

-- the input has more bytes than it may have, and this is its refusal
abbrev pub IsTooLong : ℕ → List ℕ → List ℕ → List ℕ → Type 0
IsTooLong limit refusal bytes text = (limit < length bytes) × (text ≡ refusal)

-- the input was read whole; or the call ends, where it is too long by this refusal
abbrev pub Loads : ℕ → ℕ → ℕ → List ℕ → Told → List ℕ → Result (Vec ℕ Global) Status → Told → Type 0
Loads base now limit refusal old name (Ok v) new =
    (more : List Turn) × Loaded base now limit old name 1 1 (length v.items) more new × (v.items ≡ bytes_of old name) × (length v.items ≤ limit)
Loads base now limit refusal old name (Err status) new =
    EndsWithInput base now limit (λ text. ⊥) (IsTooLong limit refusal (bytes_of old name)) old name status new

-- the line of the refused models is written so, and for want of memory nothing
abbrev pub Refuses : Told → ModelRefused → Status → Told → Type 0
Refuses old (At line word) status new = Says Rejected old (model_line line word) status new
Refuses old NoMemory status new = (status ≡ Memory) × (new ≡ old)
