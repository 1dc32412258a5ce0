use Rattle.std.proofs.Common.{◌≡◌, [], sym, subst, Less}
use Rattle.std.specs.Int.{int_max}
use Rattle.std.proofs.lemmas.Int.{to_z-of_z}
use mir.Val.{SFits}
use mir.Syntax.{w64}
use Rattle.crs_base.specs.Entry.{entry_cmp, IsInKeyOrder}
use Rattle.crs_base.specs.Sifted.{Sifts}
use Rattle.crs_base.proofs.Words.{ordered_filter}
use Rattle.crs_history.specs.Keyed.{IsLike}
use Rattle.crs_history.specs.Looking.{is_named, IsNamedIn, Finds}
use Rattle.crs_history.proofs.Finding.{named_found}
use Rattle.crs_history.proofs.history.History.range.Goals as goal

pub returns-clause-held : goal.returns-clause-held
returns-clause-held c =
    let h = c.args.self.now in
    let fits : SFits w64 c.args.from = c.ranges.from in
    let fits2 : SFits w64 c.args.to = c.ranges.to in
    let found : Finds (IsLike c.args.name []) (int_max h.floor c.args.from) c.args.to h.entries c.find.result = simp to_z-of_z at c.find.ensures.held in
    subst (Sifts (IsNamedIn c.args.name (int_max h.floor c.args.from) c.args.to) h.entries) (sym c.of.ensures)
    (named_found c.args.name (int_max h.floor c.args.from) c.args.to h.entries c.find.result found)

pub returns-clause-stands : goal.returns-clause-stands
returns-clause-stands c = λ low settled stands.
    let fits : SFits w64 c.args.from = c.ranges.from in
    let fits2 : SFits w64 c.args.to = c.ranges.to in
    let found : Finds (IsLike c.args.name []) c.args.from c.args.to settled c.find.result = simp to_z-of_z at (c.find.ensures.stands (simp to_z-of_z low) settled stands) in
    subst (Sifts (IsNamedIn c.args.name c.args.from c.args.to) settled) (sym c.of.ensures)
    (named_found c.args.name c.args.from c.args.to settled c.find.result found)

pub returns-clause-in_order : goal.returns-clause-in_order
returns-clause-in_order c = subst IsInKeyOrder (sym c.of.ensures) (ordered_filter (λ d e. entry_cmp d e ≡ Less) (is_named c.args.name) c.find.result c.find.ensures.in_order)
