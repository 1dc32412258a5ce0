use Rattle.std.proofs.Common.{◌≡◌, ◌<◌, ◌≤◌, length, sym, ◌∙◌, arith}
use Rattle.std.specs.List.{filter}
use Rattle.std.proofs.lemmas.List.Filters.{FiltersInPlace-all, FiltersInPlace-more_no, FiltersInPlace-more_set}
use Rattle.std.proofs.lemmas.List.Elements.{All-filter}
use Rattle.crs_agenda.specs.Freshness.{is_fresh_pair}
use Rattle.crs_agenda.proofs.bucket.Bucket.keep_fresh.Goals as goal
use Rattle.crs_agenda.proofs.bucket.Bucket.keep_fresh.Goals.{then-is_fresh, else-is_fresh}

pub loop-i-preserved : goal.loop-i-preserved
loop-i-preserved c =
    let t = c.index-timed.result.now in
    let m = c.loop-i.invariant.0.long in
    let v = c.self.inside.items.ok.0 in
    let h : c.loop-i.i < length c.loop-i.self-inside.items.items = omega arith in
    let is : c.is_fresh.result ≡ is_fresh_pair c.args.serials.now t = c.is_fresh.ensures in
    elim c.if-is_fresh.branch [
      | then-is_fresh w ↦ rw (w.self-inside-is, w.kept-is) (FiltersInPlace-more_set {x = t} c.loop-i.invariant.0 h (sym is ∙ w.if-is_fresh.true) c.index-timed.ensures, c.loop-i.invariant.1)
      | else-is_fresh w ↦ rw (w.self-inside-is, w.kept-is) (FiltersInPlace-more_no {x = t} c.loop-i.invariant.0 h (sym is ∙ w.if-is_fresh.false) c.index-timed.ensures, c.loop-i.invariant.1)
    ]

pub invariant_of-self : goal.invariant_of-self
invariant_of-self c =
    let m = c.loop-i.invariant.0.long in
    let p = is_fresh_pair c.args.serials.now in
    let xs = c.self.inside.items.items in
    let e : c.truncate.new.self.items ≡ filter p xs = c.truncate.ensures.items ∙ FiltersInPlace-all c.loop-i.invariant.0 (omega arith) in
    rw (e, c.loop-i.invariant.1) (All-filter p (λ t. c.self.inside.floor ≤ t.date) xs c.self.invariant)
