use Rattle.std.proofs.Common.{rules, length, map, Some, List}
use Rattle.crs_base.specs.declared.symbols.Sym.{Sym}
use Rattle.crs_base.specs.Entry.{Entry}
use Rattle.crs_base.specs.Seen.{entry_of}
use Rattle.crs_model.specs.Bindings.{look_of}
use Rattle.crs_model.specs.Models.{Window}
use Rattle.crs_model.specs.SeenModels.{window_of}
use Rattle.crs_model.specs.Partial.{Partial}
use Rattle.crs_model.specs.Verdicts.{IsMet}
use Rattle.crs_audit.specs.Runs.{entries_of}
use Rattle.crs_audit.specs.ClaimWindows.{settled_in, CanBeMet}
use Rattle.crs_audit.proofs.Turning.{holds_there, holds_on, holds_of_all}
use Rattle.crs_audit.proofs.windows.are_met.Goals as goal

pub is_met-requires-clause-able : goal.is_met-requires-clause-able
is_met-requires-clause-able c =
    holds_there window_of (CanBeMet (look_of c.args.binding.now) (length c.args.entries.now)) c.args.windows.now c.loop-window.window-index c.window-item.result c.loop-window-test.true c.window-item.is c.requires.able

pub returns-then-not-is_met : goal.returns-then-not-is_met
returns-then-not-is_met c =
    let a : Partial Sym = map Some (map (λ e. entry_of e.value) c.args.entries.now) in
    let es : List (Entry Sym) = entries_of c.args.by_key.now in
    let R = λ (w : Window Sym). IsMet (look_of c.args.binding.now) a (settled_in c.args.at es) c.args.at.horizon w in (
      λ t. absurd (cc),
      λ h.
          let p = holds_there window_of R c.args.windows.now c.loop-window.window-index c.window-item.result c.loop-window-test.true c.window-item.is h in
          let t = c.is_met.ensures.1 p in
          let f = c.if-not-is_met.true in
          cc,
    )

pub loop-window-preserved : goal.loop-window-preserved
loop-window-preserved c =
    let a : Partial Sym = map Some (map (λ e. entry_of e.value) c.args.entries.now) in
    let es : List (Entry Sym) = entries_of c.args.by_key.now in
    let R = λ (w : Window Sym). IsMet (look_of c.args.binding.now) a (settled_in c.args.at es) c.args.at.horizon w in
    holds_on window_of R c.args.windows.now c.loop-window.window-index c.window-item.result c.loop-window-test.true c.window-item.is (c.is_met.ensures.0 c.if-not-is_met.false) c.loop-window.invariant

pub returns : goal.returns
returns c =
    let a : Partial Sym = map Some (map (λ e. entry_of e.value) c.args.entries.now) in
    let es : List (Entry Sym) = entries_of c.args.by_key.now in
    let R = λ (w : Window Sym). IsMet (look_of c.args.binding.now) a (settled_in c.args.at es) c.args.at.horizon w in
    let all = holds_of_all window_of R c.args.windows.now c.loop-window.window-index c.loop-window-test.false c.loop-window.invariant in
    (λ t. all, λ h. search rules)
