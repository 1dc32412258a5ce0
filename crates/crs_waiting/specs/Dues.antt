-- The dates after which an instance has to be judged anew, though no entry touches it.
use Rattle.std.specs.Prelude.{◌≡◌, ◌⊎◌, ◌≤◌, ◌<◌, ◌^◌, ℕ, ℤ, pos, ◌+ℤ◌, ◌≤ℤ◌, ◌<ℤ◌, List, Bool, true, false, Some, IfSome, IsSomeAnd, slice_get}
use Rattle.crs_base.specs.declared.symbols.Sym.{Sym}
use Rattle.crs_base.specs.Words.{IsIn}
use Rattle.crs_base.specs.Entry.{Entry}
use Rattle.crs_agenda.specs.declared.timed.Handle.{Handle}
use Rattle.crs_agenda.specs.declared.timed.Timed.{Timed}
use Rattle.crs_agenda.specs.Freshness.{is_fresh_pair}
use Rattle.crs_model.specs.declared.plan.Plan.{Plan}
use Rattle.crs_model.specs.declared.progress.Stretch.{Stretch}
use Rattle.crs_model.specs.Models.{Body, NoEvent, Occurs, Hold}
use Rattle.crs_model.specs.Bindings.{look_of}
use Rattle.crs_model.specs.Plans.{chronicle}
use Rattle.crs_model.specs.Verdicts.{IsStretch, BodyIsBound}
use Rattle.crs_model.specs.HasProgress.{IsEnough, Hits, Spares}
use Rattle.crs_model.specs.Partial.{IsAwaited}
use Rattle.crs_instance.specs.Instances.{InstanceState, window_at, progress_at}
use Rattle.crs_focus.specs.PlanLevels.{levels_in, IsLastDate}

-- the first date of the stretch of a `hold`, where it has one
abbrev pub IsStart : Body Sym → ℤ → ℤ → ℕ → Type 0
IsStart (NoEvent p) from to t = ⊥
IsStart (Occurs least most p) from to t = ⊥
IsStart (Hold name terms value) from to t = (from <ℤ to) × (pos t ≡ from)

-- two dates before a stretch begins that doesn't end before it
abbrev pub IsNearing : ℤ → ℤ → ℕ → Type 0
IsNearing from to t = (from ≤ℤ to) × ((pos t +ℤ pos 2) ≡ from)

-- the date before the end of a stretch, or such a first date, or such a date before it
abbrev pub IsTurn : Body Sym → ℤ → ℤ → ℕ → Type 0
IsTurn body from to t = ((pos t +ℤ pos 1) ≡ to) ⊎ (IsStart body from to t ⊎ IsNearing from to t)

-- the window of this number has begun, and t is such a date of it
abbrev pub IsDueFor : Plan → InstanceState → ℕ → ℕ → Type 0
IsDueFor plan i k t =
    IsSomeAnd (slice_get (chronicle plan).windows k) (λ w. (from : ℤ) × (to : ℤ) × IsStretch i.partial w from to × BodyIsBound (look_of i.binding) w.body × IsTurn w.body from to t)

-- t is the date before the first at which this event, which is awaited, can come, where the chronicle isn't prompt: an instance of a prompt one waits for its events whatever their dates
abbrev pub IsFirstOf : Plan → Bool → InstanceState → ℕ → ℕ → Type 0
IsFirstOf plan focus i e t = (plan.chronicle.prompt ≡ false) × IsAwaited (levels_in plan focus) i.partial e × ((window_at i.windows e).least ≡ Some (pos t +ℤ pos 1))

-- after t the instance has to be judged anew: t is the last date at which its awaited events can come, or such a date of a window, or of an event
abbrev pub IsDue : Plan → Bool → InstanceState → ℕ → Type 0
IsDue plan focus i t = IsLastDate plan focus i t ⊎ (((k : ℕ) × IsDueFor plan i k t) ⊎ ((e : ℕ) × IsFirstOf plan focus i e t))

-- none of its due dates is at or after d and before h
abbrev pub IsUndue : Plan → Bool → InstanceState → ℕ → ℕ → Type 0
IsUndue plan focus i d h = (t : ℕ) → IsDue plan focus i t → d ≤ t → t < h → ⊥

-- x neither counts for a window that has begun nor breaks it, unless its count is enough
abbrev pub IsUntouched : Plan → InstanceState → Entry Sym → Type 0
IsUntouched plan i x =
    (k : ℕ) → IfSome (slice_get (chronicle plan).windows k) (λ w. (from to : ℤ) → IsStretch i.partial w from to → BodyIsBound (look_of i.binding) w.body → IsEnough w.body (progress_at i.progress k).count ⊎ ((Hits (look_of i.binding) w.body from to x → ⊥) × Spares (look_of i.binding) w.body from to x))

-- each window that has begun has ended by d
abbrev pub AreEnded : Plan → InstanceState → ℕ → Type 0
AreEnded plan i d = (k : ℕ) → IfSome (slice_get (chronicle plan).windows k) (λ w. (from to : ℤ) → IsStretch i.partial w from to → BodyIsBound (look_of i.binding) w.body → to ≤ℤ pos d)

-- the handle stands among the pairs at each such date from d on that is before 2^42
abbrev pub StandsAtEach : (ℕ → Type 0) → Handle → ℕ → List Timed → Type 0
StandsAtEach Is handle d pairs = (t : ℕ) → Is t → d ≤ t → t < 2 ^ 42 → IsIn (record { date = t; handle = handle }) pairs

-- it stands at the date two before the stretch begins, and at the one before its end
pub record StandsAround (stretch : Stretch) (handle : Handle) (d : ℕ) (pairs : List Timed) : Type 0 where
  pub near : StandsAtEach (λ t. (pos t +ℤ pos 2) ≡ stretch.from) handle d pairs
  pub last : StandsAtEach (λ t. (pos t +ℤ pos 1) ≡ stretch.to) handle d pairs

-- it stands there at each such due date of the instance
abbrev pub AreDue : Plan → Bool → InstanceState → Handle → ℕ → List Timed → Type 0
AreDue plan focus i handle d pairs = StandsAtEach (IsDue plan focus i) handle d pairs

-- each pair is still there
abbrev pub AreKept : List Timed → List Timed → Type 0
AreKept old new = (t : Timed) → IsIn t old → IsIn t new

-- each pair is still there, or it is dated before h and its place is among the places
abbrev pub AreCollected : ℕ → List Timed → List Timed → List ℕ → Type 0
AreCollected h old new places = (t : Timed) → IsIn t old → IsIn t new ⊎ ((t.date < h) × IsIn t.handle.place places)

-- each pair with a fresh handle is still there
abbrev pub KeepsFreshPairs : List ℕ → List Timed → List Timed → Type 0
KeepsFreshPairs serials old new = (t : Timed) → is_fresh_pair serials t ≡ true → IsIn t old → IsIn t new

-- each place is still there
abbrev pub HasPlaces : List ℕ → List ℕ → Type 0
HasPlaces old new = (p : ℕ) → IsIn p old → IsIn p new
