use Rattle.std.proofs.Common.{rules, ◌≡◌, sym, subst, Less}
use Rattle.std.specs.Int.{int_max}
use Rattle.std.proofs.lemmas.Int.{to_z-of_z}
use mir.Val.{SFits}
use mir.Syntax.{w64}
use Rattle.crs_base.specs.Entry.{entry_cmp}
use Rattle.crs_base.specs.Sifted.{Sifts}
use Rattle.crs_base.proofs.Sifted.{sifts_ordered}
use Rattle.crs_base.specs.Seen.{entry_of}
use Rattle.crs_history.specs.Looking.{IsNamedIn}
use Rattle.crs_focus.specs.Candidacy.{IsCandidate}
use Rattle.crs_focus.proofs.Choosing.{candidates_held, candidates_stand, enough_held}
use Rattle.crs_focus.proofs.finding.candidates.Goals as goal

pub returns-clause-held : goal.returns-clause-held
returns-clause-held c =
    let h = c.args.history.now in
    let until = entry_of c.args.until.now in
    let from = c.start_of.result in
    let to = c.end_of.result in
    let range = c.range-range.result in
    let fits : SFits w64 from = search rules in
    let fits2 : SFits w64 to = search rules in
    let held : Sifts (IsNamedIn c.args.name (int_max h.floor from) to) h.entries range = simp to_z-of_z at c.range-range.ensures.held in
    subst (Sifts (IsCandidate h.floor c.args.name c.args.window until) h.entries) (sym c.new.ensures)
    (candidates_held c.args.name c.args.window until h.floor from to c.start_of.ensures c.end_of.ensures h.entries range held)

pub returns-clause-stands : goal.returns-clause-stands
returns-clause-stands c = candidates_stand c.args.name c.args.window (entry_of c.args.until.now) c.args.history.now c.new.result (returns-clause-held c)

pub returns-clause-in_order : goal.returns-clause-in_order
returns-clause-in_order c = sifts_ordered (IsCandidate c.args.history.now.floor c.args.name c.args.window (entry_of c.args.until.now)) (λ d e. entry_cmp d e ≡ Less) c.args.history.now.entries c.new.result (returns-clause-held c) c.range-range.ensures.all_in_order

pub returns-clause-up_to_last : goal.returns-clause-up_to_last
returns-clause-up_to_last c = enough_held c.args.name c.args.window (entry_of c.args.until.now) c.args.history.now c.new.result (returns-clause-held c) c.range-range.ensures.all_in_order
