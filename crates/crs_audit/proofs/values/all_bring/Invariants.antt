use Rattle.std.proofs.Common.{map, drop}
use Rattle.std.specs.List.{AllByRecursion}
use Rattle.crs_model.specs.SeenModels.{term_of}
use Rattle.crs_model.specs.Bindings.{look_of}
use Rattle.crs_audit.specs.Runs.{entries_of}
use Rattle.crs_audit.specs.Changes.{IsTurn, Brings}
use Rattle.crs_audit.proofs.values.all_bring.Given as goal

-- all do where those that are left do
abbrev pub invariant-loop-entry : goal.invariant-loop-entry
invariant-loop-entry l =
    AllByRecursion (λ e. IsTurn (look_of l.wanted.binding.now) l.wanted.name (map term_of l.wanted.terms.now) l.accepted e → Brings (look_of l.wanted.binding.now) (term_of l.wanted.value) e) (entries_of (drop l.entry-index l.entries))
    → AllByRecursion (λ e. IsTurn (look_of l.wanted.binding.now) l.wanted.name (map term_of l.wanted.terms.now) l.accepted e → Brings (look_of l.wanted.binding.now) (term_of l.wanted.value) e) (entries_of l.entries)
