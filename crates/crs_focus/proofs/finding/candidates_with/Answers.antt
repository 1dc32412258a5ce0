use Rattle.std.proofs.Common.{rules}
use Rattle.std.specs.Int.{int_max}
use Rattle.std.proofs.lemmas.Int.{to_z-of_z}
use mir.Val.{SFits}
use mir.Syntax.{w64}
use Rattle.crs_base.specs.Seen.{entry_of}
use Rattle.crs_history.specs.Keyed.{IsLike}
use Rattle.crs_history.specs.Looking.{Finds}
use Rattle.crs_focus.proofs.KnownSymbols.{candidates_found, enough_found}
use Rattle.crs_focus.proofs.finding.candidates_with.Goals as goal

pub returns-clause-held : goal.returns-clause-held
returns-clause-held c =
    let h = c.args.history.now in
    let from = c.start_of.result in
    let to = c.end_of.result in
    let fits : SFits w64 from = search rules in
    let fits2 : SFits w64 to = search rules in
    let found : Finds (IsLike c.args.name c.args.known.now) (int_max h.floor from) to h.entries c.find.result = simp to_z-of_z at c.find.ensures.held in
    candidates_found c.args.name c.args.known.now c.args.window h.floor c.args.until.now.date from to c.start_of.ensures c.end_of.ensures h.entries c.find.result found

pub returns-clause-up_to_last : goal.returns-clause-up_to_last
returns-clause-up_to_last c = λ ends e i held has.
    enough_found c.args.name c.args.known.now c.args.window c.args.history.now.floor (entry_of c.args.until.now) c.args.history.now.entries c.find.result (returns-clause-held c) e c.find.ensures.all_in_order ends i held has
