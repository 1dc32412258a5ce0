use Rattle.std.proofs.Common.{◌≡◌, ◌∙◌, ◌<◌, ◌≤◌, ◌+◌, None, List, take, get_or, length, sym, subst, arith}
use Rattle.std.proofs.lemmas.List.{take_all, take_more}
use Rattle.std.proofs.lemmas.List.Elements.{All-get_or}
use Rattle.crs_stn.specs.declared.bound.Bound.{Bound}
use Rattle.crs_stn.specs.Bound.{Keeps, IsBoundBelow}
use Rattle.crs_audit.specs.declared.bounds.Raising.{Raising}
use Rattle.crs_audit.specs.declared.bounds.Raising.TheVariants.{Failed}
use Rattle.crs_audit.specs.Rounds.{date_in, both, IsRaisingAll}
use Rattle.crs_audit.proofs.Raising.{IsSoFar, one_more, fails, all_done}
use Rattle.crs_audit.proofs.bounds.raise_all.Goals as goal

abbrev none : Bound
none = record { from = 0; to = 0; most = None }

pub returns-then-has_failed-clause-raising : goal.returns-then-has_failed-clause-raising
returns-then-has_failed-clause-raising c =
    let bounds = c.args.bounds.now in
    let i = c.loop-bound.bound-index in
    let lt : i < length bounds = c.loop-bound-test.true in
    let x = date_in c.args.before.now.of in
    let e : c.both-all.result ≡ Failed = c.has_failed.ensures.0 c.if-has_failed.true in
    subst (IsRaisingAll bounds c.args.events x (date_in c.raise.new.dates.of)) (sym e)
    (fails bounds (take i bounds) c.args.events x (date_in c.loop-bound.dates.of) (date_in c.raise.new.dates.of) c.loop-bound.all (get_or bounds i none)
    (All-get_or (IsBoundBelow 24) bounds i none lt c.requires.within).to_below (λ t m. All-get_or (Keeps t) bounds i none lt m)
    c.loop-bound.invariant.so_far c.raise.result c.raise.ensures.raising (sym c.both-all.ensures ∙ e) (date_in c.raise.new.dates.of))

pub loop-bound-preserved : goal.loop-bound-preserved
loop-bound-preserved c =
    let bounds = c.args.bounds.now in
    let i = c.loop-bound.bound-index in
    let lt : i < length bounds = c.loop-bound-test.true in
    let x = date_in c.args.before.now.of in
    let z = date_in c.raise.new.dates.of in
    record {
      so_far = subst (λ (r : Raising). IsSoFar bounds (take (i + 1) bounds) c.args.events x z r) (sym c.both-all.ensures)
          (subst (λ (bs : List Bound). IsSoFar bounds bs c.args.events x z (both c.loop-bound.all c.raise.result)) (sym (take_more bounds i none lt))
          (one_more bounds (take i bounds) c.args.events x (date_in c.loop-bound.dates.of) z c.loop-bound.all (get_or bounds i none)
          (All-get_or (IsBoundBelow 24) bounds i none lt c.requires.within).to_below (λ t m. All-get_or (Keeps t) bounds i none lt m)
          c.loop-bound.invariant.so_far c.raise.result c.raise.ensures.raising
          (λ k. let t = c.has_failed.ensures.1 (c.both-all.ensures ∙ k) in let f = c.if-has_failed.false in cc)));
      near = c.raise.ensures.near;
    }

pub returns-clause-raising : goal.returns-clause-raising
returns-clause-raising c =
    let bounds = c.args.bounds.now in
    let n : length bounds ≤ c.loop-bound.bound-index = omega (arith, c.loop-bound-test.false, c.loop-bound.auto.bound-index-end) in
    all_done bounds c.args.events (date_in c.args.before.now.of) (date_in c.loop-bound.dates.of) c.loop-bound.all
    (subst (λ (bs : List Bound). IsSoFar bounds bs c.args.events (date_in c.args.before.now.of) (date_in c.loop-bound.dates.of) c.loop-bound.all)
    (take_all c.loop-bound.bound-index bounds n) c.loop-bound.invariant.so_far)
