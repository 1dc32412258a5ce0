use Rattle.std.proofs.Common.{sym, subst}
use Rattle.std.specs.List.{All}
use Rattle.crs_history.specs.declared.told.Place.{Place}
use Rattle.crs_history.specs.Told.{Tells}
use Rattle.crs_history.proofs.told.ToldNumbers.wider.Goals as goal

-- a default for a place that is there
abbrev none : Place
none = record { from = 0; symbol = record { 0 = 0 }; number = 0 }

pub loop-place-preserved : goal.loop-place-preserved
loop-place-preserved c = λ f told.
    let tells = subst (All (Tells f)) (sym c.deref-place-items.ensures.value) told c.loop-place.place-index none c.loop-place-test.true in
    c.put.ensures f (c.loop-place.invariant f told) tells
