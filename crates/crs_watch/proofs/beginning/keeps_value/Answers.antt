use Rattle.std.proofs.Common.{rules, inr, arith, sym, subst}
use Rattle.std.specs.Prelude.{ℤ, pos, ◌≤ℤ◌, ◌<ℤ◌}
use Rattle.std.proofs.lemmas.Int.{ints, to_z-of_z, by_lt_z}
use mir.Val.{SFits}
use mir.Syntax.{w64}
use Rattle.crs_base.specs.declared.symbols.Sym.{Sym}
use Rattle.crs_history.specs.Keyed.{HaveKnown, IsLike}
use Rattle.crs_base.specs.Values.{Attribute}
use Rattle.crs_history.proofs.Finding.{of_found, is_found}
use Rattle.crs_base.proofs.Values.{change_agrees}
use Rattle.crs_history.specs.Looking.{Finds, HasValueOver}
use Rattle.crs_watch.proofs.Holds.{not_true, not_false}
use Rattle.crs_watch.proofs.beginning.keeps_value.Goals as goal

self : (t : ℤ) → t ≤ℤ t
self t = omega (arith, ints)

under : (f t u : ℤ) → f ≤ℤ t → t ≤ℤ u → f ≤ℤ u
under f t u l m = omega (arith, ints)

pub returns-clause-yes : goal.returns-clause-yes
returns-clause-yes c = λ f low settled stands.
    let a : Attribute Sym = record { name = c.args.name; args = c.args.args.now } in
    let g = c.args.stretch in
    let h = c.args.h in
    let until = c.earlier-until.result in
    let start = c.later.result in
    let fits : SFits w64 g.from = search rules in
    let fits2 : SFits w64 g.to = search rules in
    let fits3 : SFits w64 h = c.ranges.h in
    let fits4 : SFits w64 until = record { sfits = c.earlier-until.type_inv } in
    let fits5 : SFits w64 start = record { sfits = c.later.type_inv } in
    let both : (t : ℤ) → t <ℤ g.to → t <ℤ h → t <ℤ until = simp to_z-of_z at c.earlier-until.ensures.both in
    let late : (t : ℤ) → g.from ≤ℤ t → h ≤ℤ t → start ≤ℤ t = simp to_z-of_z at c.later.ensures.both in
    let from : (t : ℤ) → start ≤ℤ t → (g.from ≤ℤ t) × (h ≤ℤ t) = simp to_z-of_z at c.later.ensures.from in
    let holds : HasValueOver a settled c.args.value g.from until = simp to_z-of_z at (c.has_value_over.ensures.yes c.if-not-has_value_over.false (simp to_z-of_z low) settled stands) in
    let L = IsLike c.args.name c.args.known.now in
    let floor : c.args.history.now.floor ≤ℤ start = under _ _ _ low ((from start (self start)).0) in
    let found : Finds L start g.to settled c.find-ahead.result = simp to_z-of_z at (c.find-ahead.ensures.stands (simp to_z-of_z floor) settled stands) in
    record {
      values = λ t i j k. holds t i (both t j k);
      changes = λ e i ch d. by_lt_z (pos e.date) h
          (λ l. change_agrees a settled c.args.value e i ch (holds (pos e.date) d.0 (both (pos e.date) d.1 l)))
          (λ l. c.has_stray.ensures.no (not_true c.has_stray.result f) e (is_found L start g.to settled c.find-ahead.result found e i (record { since = late (pos e.date) d.0 l; before = d.1 }) (record { named = ch.named; has = subst (HaveKnown c.args.known.now) (sym ch.of) c.requires.known })) ch);
    }

pub returns-clause-no : goal.returns-clause-no
returns-clause-no c = λ f low settled stands.
    let g = c.args.stretch in
    let h = c.args.h in
    let start = c.later.result in
    let fits : SFits w64 g.from = search rules in
    let fits2 : SFits w64 g.to = search rules in
    let fits3 : SFits w64 h = c.ranges.h in
    let fits5 : SFits w64 start = record { sfits = c.later.type_inv } in
    let from : (t : ℤ) → start ≤ℤ t → (g.from ≤ℤ t) × (h ≤ℤ t) = simp to_z-of_z at c.later.ensures.from in
    let L = IsLike c.args.name c.args.known.now in
    let floor : c.args.history.now.floor ≤ℤ start = under _ _ _ low ((from start (self start)).0) in
    let found : Finds L start g.to settled c.find-ahead.result = simp to_z-of_z at (c.find-ahead.ensures.stands (simp to_z-of_z floor) settled stands) in
    let s = c.has_stray.ensures.yes (not_false c.has_stray.result f) in
    let m = of_found L start g.to settled c.find-ahead.result found s.0 s.1 in
    inr (s.0, m.0, s.2, ((from _ (m.1).since).0, (m.1).before), s.3)
