use Rattle.std.proofs.Common.{sym, subst}
use Rattle.std.specs.Prelude.{◌≤ℤ◌}
use Rattle.std.proofs.lemmas.Int.{to_z-of_z}
use mir.Val.{SFits}
use mir.Syntax.{w64}
use Rattle.crs_base.specs.declared.symbols.Sym.{Sym}
use Rattle.crs_base.specs.Values.{Attribute}
use Rattle.crs_history.specs.Histories.{HistoryState, StandsFor}
use Rattle.crs_history.specs.Holdings.{held_of}
use Rattle.crs_history.specs.Looking.{HasValueOver}
use Rattle.crs_history.proofs.Holding.{over_stands, over_stands_back, over_tracked, over_untracked, all_changes}
use Rattle.crs_history.proofs.history.History.value_over.Goals as goal

pub returns-clause-yes : goal.returns-clause-yes
returns-clause-yes c = λ f low s stands.
    let a : Attribute Sym = record { name = c.args.name; args = c.args.args.now } in
    let floor = c.self.inside.floor in
    let held = held_of c.self.inside.held in
    let track = c.track.result in
    let late : floor ≤ℤ c.args.from = subst (λ (w : HistoryState). w.floor ≤ℤ c.args.from) (sym c.self.view_is) low in
    let fits : SFits w64 c.args.from = c.ranges.from in
    let fits2 : SFits w64 c.args.to = c.ranges.to in
    let h : HasValueOver a track c.args.value c.args.from c.args.to = simp to_z-of_z at (c.holds_over.ensures.yes a (all_changes a held track c.track.ensures.changes) f) in
    over_stands a c.args.value c.args.from c.args.to floor s held late (subst (StandsFor s) (sym c.self.view_is) stands)
    (over_untracked a held track c.track.ensures.changes c.args.value c.args.from c.args.to h)

pub returns-clause-no : goal.returns-clause-no
returns-clause-no c = λ f low s stands holds.
    let a : Attribute Sym = record { name = c.args.name; args = c.args.args.now } in
    let floor = c.self.inside.floor in
    let held = held_of c.self.inside.held in
    let track = c.track.result in
    let late : floor ≤ℤ c.args.from = subst (λ (w : HistoryState). w.floor ≤ℤ c.args.from) (sym c.self.view_is) low in
    let fits : SFits w64 c.args.from = c.ranges.from in
    let fits2 : SFits w64 c.args.to = c.ranges.to in
    let back = over_stands_back a c.args.value c.args.from c.args.to floor s held late (subst (StandsFor s) (sym c.self.view_is) stands) holds in
    let h : HasValueOver a track c.args.value c.args.from c.args.to → ⊥ = simp to_z-of_z at (c.holds_over.ensures.no a (all_changes a held track c.track.ensures.changes) f) in
    h (over_tracked a held track c.track.ensures.changes c.args.value c.args.from c.args.to back)
