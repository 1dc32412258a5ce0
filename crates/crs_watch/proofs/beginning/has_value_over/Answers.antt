use Rattle.std.proofs.Common.{◌≡◌, arith, sym, subst, true}
use Rattle.std.specs.Prelude.{◌≤ℤ◌}
use Rattle.std.proofs.lemmas.Int.{ints, to_z-of_z}
use mir.Val.{SFits}
use mir.Syntax.{w64}
use lib.Signed.{le_z}
use lib.Dec.{T}
use Rattle.crs_base.specs.declared.symbols.Sym.{Sym}
use Rattle.crs_base.specs.Values.{Attribute}
use Rattle.crs_history.specs.Looking.{HasValueOver}
use Rattle.crs_watch.proofs.beginning.has_value_over.Goals as goal

pub returns-then-to-from-clause-yes : goal.returns-then-to-from-clause-yes
returns-then-to-from-clause-yes c = λ e low settled stands t i j.
    let fits : SFits w64 c.args.from = c.ranges.from in
    let fits2 : SFits w64 c.args.to = c.ranges.to in
    let is : le_z c.args.to c.args.from ≡ true = simp to_z-of_z at c.if-to-from.true in
    let none : c.args.to ≤ℤ c.args.from = record { le = subst T (sym is) tt } in
    absurd (omega (arith, ints))

pub returns-clause-yes : goal.returns-clause-yes
returns-clause-yes c = λ e low settled stands.
    let a : Attribute Sym = record { name = c.args.name; args = c.args.args.now } in
    let fits : SFits w64 c.args.from = c.ranges.from in
    let fits2 : SFits w64 c.args.to = c.ranges.to in
    let holds : HasValueOver a settled c.args.value c.args.from c.args.to = simp to_z-of_z at (c.value_over.ensures.yes e (simp to_z-of_z low) settled stands) in
    holds

pub returns-clause-no : goal.returns-clause-no
returns-clause-no c = λ e low settled stands holds.
    let fits : SFits w64 c.args.from = c.ranges.from in
    let fits2 : SFits w64 c.args.to = c.ranges.to in
    c.value_over.ensures.no e (simp to_z-of_z low) settled stands (simp to_z-of_z holds)
