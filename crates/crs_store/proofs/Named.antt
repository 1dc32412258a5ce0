-- What comes of events that look for other names.
use Rattle.std.proofs.Common.{Bool, ◌≡◌, ℕ, zero, suc, ◌+◌, ◌-◌, ◌<◌, ◌≤◌, List, length, ap, subst, arith}
use Rattle.std.specs.List.{AllZip}
use Rattle.crs_base.specs.declared.symbols.Sym.{Sym}
use Rattle.crs_base.specs.Entry.{Entry}
use Rattle.crs_history.specs.Histories.{HistoryState}
use Rattle.crs_instance.specs.Instances.{InstanceState}
use Rattle.crs_model.specs.declared.plan.Plan.{Plan}
use Rattle.crs_model.specs.declared.recognition.Recognition.{Recognition}
use Rattle.crs_model.specs.Partial.{Partial}
use Rattle.crs_model.specs.Plans.{chronicle, IsProper}
use Rattle.crs_waiting.specs.declared.hooks.Hook.{Hook}
use Rattle.crs_waiting.specs.Hooks.{IsHookOfEvent}
use Rattle.crs_waiting.specs.Links.{hook_at}
use Rattle.crs_waiting.specs.Named.{IsFirst}
use Rattle.crs_living.specs.Slots.{SlotsState, members}
use Rattle.crs_living.specs.Parts.{AllOf}
use Rattle.crs_store.proofs.Births.{BringsGathered, brings_none, brings_gathered_more}
use Rattle.crs_store.proofs.Gathered.{hook_there, hooks_long, none_named}

module _ (plan : Plan) (focus finds : Bool) (Out : Partial Sym → Type 0) (history : HistoryState) (x : Entry Sym) (since until : ℕ) (slots : SlotsState) (proper : IsProper plan) (all : AllOf plan (members slots.slots)) (hooks : List Hook) (are : AllZip IsHookOfEvent (chronicle plan).events hooks) (now : List InstanceState) (old new : List Recognition) where
  -- what came of the events below n came of those below n + m too, where those between look for other names
  none_between : (m n : ℕ) → n + m ≤ length hooks → ((k : ℕ) → n ≤ k → k < n + m → (hook_at hooks k).name.0 ≡ x.name.0 → ⊥) → BringsGathered plan focus finds Out history x since until slots n now old new → BringsGathered plan focus finds Out history x since until slots (n + m) now old new
  none_between zero n within others b = subst (λ (t : ℕ). BringsGathered plan focus finds Out history x since until slots t now old new) (omega arith) b
  none_between (suc m) n within others b =
      let long = hooks_long plan hooks are in
      let inside : n < length plan.chronicle.events = omega arith in
      let other : (hook_at hooks n).name ≡ x.name → ⊥ = (λ same. others n (omega arith) (omega arith) (ap (λ (s : Sym). s.0) same)) in
      let here = brings_gathered_more plan focus finds Out history x since until slots n now now old new new (brings_none plan focus finds until _ now new (none_named plan focus Out history x since until slots n proper all inside (hook_at hooks n) (hook_there plan hooks n are) other)) b in
      subst (λ (t : ℕ). BringsGathered plan focus finds Out history x since until slots t now old new) (omega arith) (none_between m (n + 1) (omega arith) (λ k l u. others k (omega arith) (omega arith)) here)

  -- and of those below the first that looks for the entry's name
  pub brings_to_first : (n e : ℕ) → IsFirst hooks n x.name.0 e → BringsGathered plan focus finds Out history x since until slots n now old new → BringsGathered plan focus finds Out history x since until slots e now old new
  brings_to_first n e first b =
      let after = first.after in
      let within = first.within in
      let whole : n + (e - n) ≡ e = omega arith in
      subst (λ (t : ℕ). BringsGathered plan focus finds Out history x since until slots t now old new) whole
      (none_between (e - n) n (omega arith) (λ k l u. first.others k l (omega arith)) b)
