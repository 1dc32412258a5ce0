use Rattle.std.proofs.Common.{sym, subst, List, length, map}
use Rattle.std.specs.List.{AllByRecursion}
use Rattle.crs_base.specs.declared.symbols.Sym.{Sym}
use Rattle.crs_base.specs.Entry.{Entry}
use Rattle.crs_base.specs.Seen.{entry_of}
use Rattle.crs_model.specs.declared.chronicle.Window.{Window as CodeWindow}
use Rattle.crs_model.specs.Bindings.{look_of}
use Rattle.crs_model.specs.SeenModels.{window_of}
use Rattle.crs_audit.specs.ClaimWindows.{CanBeMet}
use Rattle.crs_audit.proofs.Suiting.{windows_able}
use Rattle.crs_audit.proofs.judging.fit_of.Goals as goal

pub are_met-requires-clause-able : goal.are_met-requires-clause-able
are_met-requires-clause-able c =
    let es : List (Entry Sym) = map (λ e. entry_of e.value) c.args.entries.now in
    subst (λ (ws : List CodeWindow). AllByRecursion (CanBeMet (look_of c.in-Some.binding) (length c.args.entries.now)) (map window_of ws)) (sym c.as_slice-windows.ensures)
    (windows_able c.args.plan.now c.requires.proper es c.in-Some.binding (length c.args.entries.now) c.in-Some.ensures c.requires.each)
