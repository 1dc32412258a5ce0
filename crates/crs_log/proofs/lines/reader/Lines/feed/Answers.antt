use Rattle.std.proofs.Common.{◌≤◌, ◌+◌, ◌++◌, ◌∙◌, ap, sym, subst, drop, max, length}
use Rattle.crs_log.specs.Reading.{ahead, given, part_of, kept}
use Rattle.crs_log.proofs.Held.{kept_fits}
use Rattle.crs_log.proofs.Skipped.{still_within, kept_given}
use Rattle.crs_log.proofs.lines.reader.Lines.feed.Goals as goal

pub invariant_of-self-2 : goal.invariant_of-self-2
invariant_of-self-2 c =
    let l = c.self.inside in (
      c.in_ok-self-inside.ensures.tail l.from c.self.invariant.0,
      still_within l.limit l.from l.tail l.number l.fed l.held.items c.add.new.held.items c.args.piece.now c.self.invariant.0 c.in_ok-self-inside.ensures.items c.self.invariant.1,
    )

pub returns-clause-ahead : goal.returns-clause-ahead
returns-clause-ahead c = λ more.
    let l = c.self.inside in
    ap (λ xs. given l.limit l.number (drop l.from xs ++ more)) c.in_ok-self-inside.ensures.items
    ∙ kept_given l.limit l.number l.from l.tail l.held.items c.args.piece.now more c.self.invariant.0
    ∙ ap (λ r. ahead r (c.args.piece.now ++ more)) (c.self.view_is ∙ c.compact.ensures)

pub returns-clause-held : goal.returns-clause-held
returns-clause-held c =
    let l = c.self.inside in
    subst (λ xs. length (part_of (drop l.from xs)) ≤ max (length (part_of c.args.self.now.rest)) (c.args.self.now.limit + length c.args.piece.now)) (sym c.in_ok-self-inside.ensures.items)
    (subst (λ r. length (part_of (drop l.from (l.held.items ++ kept l.limit l.held.items l.tail c.args.piece.now))) ≤ max (length (part_of r.rest)) (r.limit + length c.args.piece.now)) (c.self.view_is ∙ c.compact.ensures)
    (kept_fits l.limit l.from l.tail l.held.items c.args.piece.now c.self.invariant.0))
