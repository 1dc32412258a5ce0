use Rattle.std.proofs.Common.{◌≡◌, ◌++◌, sym, subst, Less}
use Rattle.crs_base.specs.declared.symbols.Sym.{Sym}
use Rattle.crs_base.specs.Entry.{entry_cmp}
use Rattle.crs_base.specs.Sifted.{Sifts}
use Rattle.crs_base.specs.Values.{Attribute, IsChange}
use Rattle.crs_base.proofs.Sifted.{sifts_ordered}
use Rattle.crs_base.proofs.KeyOrder.{in_dates}
use Rattle.crs_history.specs.Histories.{entries_of}
use Rattle.crs_history.specs.Holdings.{HoldingsState, held_of}
use Rattle.crs_history.specs.Older.{older_of}
use Rattle.crs_history.proofs.holdings.Holdings.track.Goals as goal

pub returns-clause-changes : goal.returns-clause-changes
returns-clause-changes c =
    let a : Attribute Sym = record { name = c.args.name; args = c.args.args.now } in
    subst (λ (w : HoldingsState). Sifts (IsChange a) (held_of w) c.track.result) c.self.view_is
    (subst (Sifts (IsChange a) (older_of c.self.inside.tracks.lanes (entries_of c.self.inside.ring.items) ++ entries_of c.self.inside.ring.items)) (sym c.track.ensures) (c.self.invariant.0.tracked a))

pub returns-clause-by_date : goal.returns-clause-by_date
returns-clause-by_date c =
    let a : Attribute Sym = record { name = c.args.name; args = c.args.args.now } in
    let all = older_of c.self.inside.tracks.lanes (entries_of c.self.inside.ring.items) ++ entries_of c.self.inside.ring.items in
    let s : Sifts (IsChange a) all c.track.result = subst (Sifts (IsChange a) all) (sym c.track.ensures) (c.self.invariant.0.tracked a) in
    in_dates c.track.result (sifts_ordered (IsChange a) (λ d e. entry_cmp d e ≡ Less) all c.track.result s c.self.invariant.0.in_order)
