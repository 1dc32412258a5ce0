use Rattle.std.proofs.Common.{◌≡◌, ◌∙◌, [], List, refl, ap, sym, subst, arith}
use Rattle.crs_base.specs.declared.symbols.Sym.{Sym}
use Rattle.crs_base.specs.Entry.{Entry}
use Rattle.crs_history.specs.Histories.{entries_of}
use Rattle.crs_history.specs.Older.{older_of}
use Rattle.crs_history.specs.Holdings.{AreCounted, AreHoldings}
use Rattle.crs_history.proofs.Older.{older_is}
use Rattle.crs_history.proofs.holdings.Holdings.new.Goals as goal

none : (c : goal.After-new-3) → AreHoldings [] [] c.new-2.result c.new-3.result
none c = record { in_order = tt; latest = record { changes = λ e i. absurd i; latest = λ e d i j k. absurd i }; found = c.new-2.ensures; tracked = c.new-3.ensures.none; owned = c.new-3.ensures.owned }

older_none : (c : goal.After-new-3) → older_of c.new-3.result.lanes [] ≡ []
older_none c = older_is [] [] c.new-2.result c.new-3.result (none c)

both : (c : goal.After-new-3) → (older : List (Entry Sym)) → older ≡ [] → AreHoldings older [] c.new-2.result c.new-3.result × AreCounted 0 older []
both c older e = subst (λ (w : List (Entry Sym)). AreHoldings w [] c.new-2.result c.new-3.result × AreCounted 0 w []) (sym e) (none c, record { older_ones = refl; small = omega arith })

pub invariant_of-result : goal.invariant_of-result
invariant_of-result c =
    subst (λ (w : List (Entry Sym)). AreHoldings (older_of c.new-3.result.lanes w) w c.new-2.result c.new-3.result × AreCounted 0 (older_of c.new-3.result.lanes w) w)
    (ap entries_of (sym c.new.ensures.items)) (both c (older_of c.new-3.result.lanes []) (older_none c))

pub returns : goal.returns
returns c =
    let ring : entries_of c.new.result.items ≡ [] = ap entries_of c.new.ensures.items in
    let older : older_of c.new-3.result.lanes (entries_of c.new.result.items) ≡ [] = ap (older_of c.new-3.result.lanes) ring ∙ older_none c in
    λ i. record { older = older i; ring = ring i }
