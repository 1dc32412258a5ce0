-- What is held where a store is told which entries come next: it may leave out what can't be recognised with them.
use Rattle.std.specs.Prelude.{◌≡◌, ◌≤◌, ◌<◌, ◌<ℤ◌, ◌⊎◌, ℕ, ℤ, pos, List, ◌++◌, length, Bool, false, Some, None, IfSome, slice_get}
use Rattle.crs_base.specs.declared.symbols.Sym.{Sym}
use Rattle.crs_base.specs.Words.{IsIn}
use Rattle.crs_base.specs.Entry.{Entry}
use Rattle.crs_model.specs.declared.plan.Plan.{Plan}
use Rattle.crs_model.specs.Models.{Chronicle}
use Rattle.crs_model.specs.Partial.{Partial, at, IsAwaited}
use Rattle.crs_model.specs.Plans.{chronicle}
use Rattle.crs_model.specs.Open.{IsOpen}
use Rattle.crs_instance.specs.Instances.{InstanceState, IsOf, window_at}

-- a may become what is open at h over the pool and the entries: an event that it awaits has one of those that are coming there, or none
pub record MayBecome (c : Chronicle Sym) (level : ℕ → ℕ) (pool entries coming : List (Entry Sym)) (h : ℕ) (a : Partial Sym) : Type 0 where
  pub grown : Partial Sym
  pub fine : IsOpen c level pool entries h grown
  pub has : (e : ℕ) (x : Entry Sym) → at a e ≡ Some x → at grown e ≡ Some x
  pub added : (e : ℕ) (x : Entry Sym) → IsAwaited level a e → at grown e ≡ Some x → IsIn x coming

-- it may become what is open at h once the later entries are settled too
abbrev pub IsWanted : Chronicle Sym → (ℕ → ℕ) → List (Entry Sym) → List (Entry Sym) → List (Entry Sym) → ℕ → Partial Sym → Type 0
IsWanted c level pool entries later h = MayBecome c level (pool ++ later) (entries ++ later) later h

-- the later entries are among those ahead, or not before a date that isn't after h
pub record AreAhead (ahead : List (Entry Sym)) (beyond : ℕ) (later : List (Entry Sym)) (h : ℕ) : Type 0 where
  pub each : (x : Entry Sym) → IsIn x later → IsIn x ahead ⊎ (beyond ≤ x.date)
  pub within : beyond ≤ h

-- an unbound event of the instance has to come before the date `beyond`, and before each entry ahead that has its name
pub record IsHopeless (plan : Plan) (ahead : List (Entry Sym)) (beyond : ℕ) (i : InstanceState) : Type 0 where
  pub of : IsOf plan i
  pub event : ℕ
  pub within : event < length i.partial
  pub unbound : at i.partial event ≡ None
  pub last : ℤ
  pub is_last : (window_at i.windows event).most ≡ Some last
  pub early : last <ℤ pos beyond
  pub none : (x : Entry Sym) → IsIn x ahead → IfSome (slice_get (chronicle plan).events event) (λ v. v.pattern.name ≡ x.name → last <ℤ pos x.date)

-- why an instance may be left out: without focus, that it is hopeless
abbrev pub MayGo : Plan → Bool → List (Entry Sym) → ℕ → InstanceState → Type 0
MayGo plan focus ahead beyond i = (focus ≡ false) × IsHopeless plan ahead beyond i
