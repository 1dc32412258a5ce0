-- Instances: a partial assignment with its binding, its date windows, and the progress of the chronicle's windows.
use Rattle.std.specs.Prelude.{◌≡◌, ◌<◌, ℕ, ℤ, ◌≤ℤ◌, List, length, map, Option, Some, None, option_map, slice_index_or, IfSome, is_some, false}
use Rattle.std.specs.List.{list_all}
use Rattle.std.specs.declared.rc.Rc.{Rc}
use Rattle.std.proofs.Common.{Global}
use Rattle.crs_base.specs.declared.symbols.Sym.{Sym}
use Rattle.crs_base.specs.declared.entry.Entry.{Entry as CodeEntry}
use Rattle.crs_stn.specs.Bound.{MeetsInPart}
use Rattle.crs_stn.specs.DateWindow.{IsLatest, IsSoonest}
use Rattle.crs_model.specs.declared.plan.Plan.{Plan}
use Rattle.crs_model.specs.declared.date_window.DateWindow.{DateWindow}
use Rattle.crs_model.specs.declared.progress.Progress.{Progress}
use Rattle.crs_base.specs.Entry.{Entry}
use Rattle.crs_model.specs.Models.{Chronicle, Pattern}
use Rattle.crs_model.specs.Matching.{Binding, IsAllowed, PatternIs}
use Rattle.crs_model.specs.Partial.{Partial, at, put, IsLeast, GivesNoneTwice, dates_of}
use Rattle.crs_model.specs.Bindings.{look_of, Looser, IsLeastWith}
use Rattle.crs_model.specs.Plans.{chronicle}
use Rattle.crs_base.specs.Seen.{entry_of}
use Rattle.crs_instance.specs.declared.fit.Fit.{Fit}
use Rattle.crs_instance.specs.declared.fit.Fit.TheVariants.{Yes, No}

-- an instance, as contracts see it
pub record InstanceState : Type 0 where
  pub partial : Partial Sym
  pub binding : List (Option Sym)
  pub windows : List DateWindow
  pub progress : List Progress

-- the entry that an event is bound to
abbrev pub seen_entry : Option (Rc CodeEntry Global) → Option (Entry Sym)
seen_entry o = option_map (λ r. entry_of r.value) o

abbrev pub no_window : DateWindow
no_window = record { least = None; most = None }

abbrev pub no_progress : Progress
no_progress = record { count = 0; broken = false }

-- the progress of a window
abbrev pub progress_at : List Progress → ℕ → Progress
progress_at ps k = slice_index_or ps k no_progress

abbrev pub window_at : List DateWindow → ℕ → DateWindow
window_at ws p = slice_index_or ws p no_window

-- An instance of the plan: a partial assignment with the least binding of its entries, which is allowed, and for each point the greatest and the least date that the bounds and the bound events' dates leave. Each window of the chronicle has a progress.
pub record IsOf (plan : Plan) (i : InstanceState) : Type 0 where
  pub len : length i.partial ≡ length plan.chronicle.events
  pub distinct : GivesNoneTwice i.partial
  pub binding : IsLeast (chronicle plan) i.partial (look_of i.binding)
  pub allowed : IsAllowed (chronicle plan) (look_of i.binding)
  pub symbols : length i.binding ≡ length plan.chronicle.variables
  pub dates : MeetsInPart plan.chronicle.bounds (dates_of i.partial)
  pub window_count : length i.windows ≡ plan.network.points
  pub most : (r : ℕ) → r < plan.network.points → IsLatest plan.chronicle.bounds (dates_of i.partial) r (window_at i.windows r).most
  pub least : (r : ℕ) → r < plan.network.points → IsSoonest plan.chronicle.bounds (dates_of i.partial) r (window_at i.windows r).least
  pub followed : length i.progress ≡ length plan.chronicle.windows

-- the date is in the window
pub record IsInside (w : DateWindow) (d : ℤ) : Type 0 where
  pub not_late : IfSome w.most (λ m. d ≤ℤ m)
  pub not_soon : IfSome w.least (λ m. m ≤ℤ d)

-- the partial assignment gives no entry twice, has a binding that is allowed, and whole dates that meet the bounds
pub record CanBe (plan : Plan) (a : Partial Sym) : Type 0 where
  pub look : ℕ → Option Sym
  pub distinct : GivesNoneTwice a
  pub binding : IsLeast (chronicle plan) a look
  pub allowed : IsAllowed (chronicle plan) look
  pub dates : MeetsInPart plan.chronicle.bounds (dates_of a)

-- d is the least of the greatest dates of the unbound events of level n, and None where none of these is finite
abbrev pub IsDeadline : (ℕ → ℕ) → ℕ → InstanceState → Option ℤ → Type 0
IsDeadline level n i None = (e : ℕ) → e < length i.partial → at i.partial e ≡ None → level e ≡ n → (window_at i.windows e).most ≡ None
IsDeadline level n i (Some d) =
    ((e : ℕ) → e < length i.partial → at i.partial e ≡ None → level e ≡ n → IfSome (window_at i.windows e).most (λ m. d ≤ℤ m))
    × (e : ℕ) × (e < length i.partial) × (at i.partial e ≡ None) × (level e ≡ n) × ((window_at i.windows e).most ≡ Some d)

-- the least binding beyond the old one by which the pattern equals the entry, where that is allowed; None where none is
abbrev pub IsBoundBy : Chronicle Sym → Pattern Sym → List (Option Sym) → Entry Sym → Option (List (Option Sym)) → Type 0
IsBoundBy c p old x (Some new) = IsLeastWith (λ look. PatternIs look p x) (look_of old) (look_of new) × IsAllowed c (look_of new) × (length new ≡ length old)
IsBoundBy c p old x None = (other : Binding Sym) → Looser (look_of old) other → PatternIs other p x → IsAllowed c other → ⊥

-- what a bind of x to e answers, and what becomes of the instance
abbrev pub IsAnswered : Plan → InstanceState → ℕ → Entry Sym → InstanceState → Fit → Type 0
IsAnswered plan old e x new Yes = IsOf plan new × (new.partial ≡ put old.partial e x) × (new.progress ≡ old.progress)
IsAnswered plan old e x new No = (CanBe plan (put old.partial e x) → ⊥) × (new ≡ old)

-- the instance with x bound to e too, whose windows have the progress that they had; None where there is none
abbrev pub IsForked : Plan → InstanceState → ℕ → Entry Sym → Option InstanceState → Type 0
IsForked plan old e x (Some new) = IsOf plan new × (new.partial ≡ put old.partial e x) × (new.progress ≡ old.progress)
IsForked plan old e x None = CanBe plan (put old.partial e x) → ⊥

-- the entries of all events; none where some event is unbound
abbrev pub AreAllEntries : Partial Sym → Option (List (Rc CodeEntry Global)) → Type 0
AreAllEntries a None = list_all (λ o. is_some o) a ≡ false
AreAllEntries a (Some es) = a ≡ map (λ r. Some (entry_of r.value)) es
