use Rattle.std.proofs.Common.{sym, subst}
use Rattle.std.specs.List.{All}
use Rattle.crs_base.specs.declared.recent.Pair.{Pair}
use Rattle.crs_base.specs.Recent.{TellBoth}
use Rattle.crs_base.proofs.recent.Recent.wider.Goals as goal

-- a default for a place that is there
abbrev none : Pair
none = record { lower = record { tag = record { bits = 0; len = 0 }; number = 0 }; other = record { tag = record { bits = 0; len = 0 }; number = 0 } }

pub loop-pair-preserved : goal.loop-pair-preserved
loop-pair-preserved c = λ texts told.
    let both = subst (All (TellBoth texts)) (sym c.deref-pair-items.ensures.value) told c.loop-pair.pair-index none c.loop-pair-test.true in
    c.put-in-loop-pair.ensures texts (c.put.ensures texts (c.loop-pair.invariant texts told) both.1) both.0
