use Rattle.std.proofs.Common.{◌≡◌, sym, subst, Less}
use Rattle.crs_base.specs.Entry.{entry_cmp}
use Rattle.crs_base.proofs.KeyOrder.{in_dates}
use Rattle.crs_history.specs.Dropping.{Drops}
use Rattle.crs_history.specs.Histories.{entries_of}
use Rattle.crs_history.specs.Holdings.{HoldingsState}
use Rattle.crs_history.specs.Keyed.{IsLike}
use Rattle.crs_history.specs.Older.{older_of}
use Rattle.crs_history.proofs.HeldSteps.{ordered_behind}
use Rattle.crs_history.proofs.Keying.{drops_ordered}
use Rattle.crs_history.proofs.Left.{drops_none}
use Rattle.crs_history.proofs.holdings.Holdings.find.Goals as goal

pub returns-in-Some-clause-found : goal.returns-in-Some-clause-found
returns-in-Some-clause-found c =
    subst (λ (w : HoldingsState). Drops (λ e. IsLike c.args.name c.args.known.now e → ⊥) w.ring c.in-Some.range) c.self.view_is (c.in-Some.ensures (entries_of c.self.inside.ring.items) c.self.invariant.0.found)

pub returns-in-Some-clause-in_order : goal.returns-in-Some-clause-in_order
returns-in-Some-clause-in_order c =
    let ring = entries_of c.self.inside.ring.items in
    drops_ordered (λ e. IsLike c.args.name c.args.known.now e → ⊥) (λ d e. entry_cmp d e ≡ Less) ring c.in-Some.range (c.in-Some.ensures ring c.self.invariant.0.found) (ordered_behind (older_of c.self.inside.tracks.lanes ring) ring c.self.invariant.0.in_order)

pub returns-in-Some-clause-by_date : goal.returns-in-Some-clause-by_date
returns-in-Some-clause-by_date c = in_dates c.in-Some.range (returns-in-Some-clause-in_order c)

pub returns-in-None-clause-found : goal.returns-in-None-clause-found
returns-in-None-clause-found c =
    let ring = entries_of c.self.inside.ring.items in
    subst (λ (w : HoldingsState). Drops (λ e. IsLike c.args.name c.args.known.now e → ⊥) w.ring c.of.result) c.self.view_is
    (subst (Drops (λ e. IsLike c.args.name c.args.known.now e → ⊥) ring) (sym c.of.ensures) (drops_none (λ e. IsLike c.args.name c.args.known.now e → ⊥) ring))

pub returns-in-None-clause-in_order : goal.returns-in-None-clause-in_order
returns-in-None-clause-in_order c =
    subst (Rattle.crs_base.specs.Entry.IsInKeyOrder) (sym c.of.ensures) (ordered_behind (older_of c.self.inside.tracks.lanes (entries_of c.self.inside.ring.items)) (entries_of c.self.inside.ring.items) c.self.invariant.0.in_order)

pub returns-in-None-clause-by_date : goal.returns-in-None-clause-by_date
returns-in-None-clause-by_date c = in_dates c.of.result (returns-in-None-clause-in_order c)
