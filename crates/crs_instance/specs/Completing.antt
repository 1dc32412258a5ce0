-- What is told of an instance where its last unbound event is bound too.
use Rattle.std.specs.Prelude.{◌≡◌, List, Option, Some, None, ℕ, pos}
use Rattle.crs_base.specs.declared.symbols.Sym.{Sym}
use Rattle.crs_base.specs.Entry.{Entry}
use Rattle.crs_stn.specs.Table.{most_of}
use Rattle.crs_model.specs.declared.date_window.DateWindow.{DateWindow}
use Rattle.crs_model.specs.declared.plan.Plan.{Plan}
use Rattle.crs_model.specs.Partial.{put}
use Rattle.crs_instance.specs.declared.instance.Completed.{Completed}
use Rattle.crs_instance.specs.Instances.{InstanceState, IsOf, CanBe, IsForked, AreAllEntries}
use Rattle.crs_instance.specs.Narrowed.{IsNarrowed}

-- the binding where x is bound to e too: with it, and with the windows that x's date leaves, there is an instance; None where there is none
abbrev pub IsTakenBy : Plan → InstanceState → ℕ → Entry Sym → Option (List (Option Sym)) → Type 0
IsTakenBy plan i e x (Some binding) =
    (ws : List DateWindow) → IsNarrowed plan.network.points (most_of plan.network) e (pos x.date) i.windows ws
    → IsOf plan (record { partial = put i.partial e x; binding = binding; windows = ws; progress = i.progress })
IsTakenBy plan i e x None = CanBe plan (put i.partial e x) → ⊥

-- the entries and the binding are those of the fork that has x bound to e too; None where there is none
abbrev pub IsCompleted : Plan → InstanceState → ℕ → Entry Sym → Option Completed → Type 0
IsCompleted plan i e x (Some told) = (next : InstanceState) × IsForked plan i e x (Some next) × AreAllEntries next.partial (Some told.entries) × (told.binding ≡ next.binding)
IsCompleted plan i e x None = CanBe plan (put i.partial e x) → ⊥
