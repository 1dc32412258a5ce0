use Rattle.std.proofs.Common.{map, ◌<◌, ◌≤◌, ◌+◌, arith, ltb-true}
use Rattle.std.proofs.lemmas.Bool.{ltb-false}
use Rattle.std.proofs.lemmas.List.{length-map}
use Rattle.crs_compile.proofs.Slow.{top_small, slow_infinite, slow_yes, slow_no}
use Rattle.crs_compile.proofs.lag.are_slow.Goals as goal

pub returns-then-is_some_infinite-clause-yes : goal.returns-then-is_some_infinite-clause-yes
returns-then-is_some_infinite-clause-yes c e =
    slow_infinite c.args.strata.now (map (λ r. r.value.lag) c.args.plans.now) (rw length-map c.requires.each) (c.is_some_infinite.ensures.yes c.if-is_some_infinite.true)

pub overflow_add-top_of : goal.overflow_add-top_of
overflow_add-top_of c = let l = top_small c.args.strata.now c.top_of.result c.requires.few c.top_of.ensures in omega (arith, l)

pub lag_below-requires-clause-few : goal.lag_below-requires-clause-few
lag_below-requires-clause-few c = let l = top_small c.args.strata.now c.top_of.result c.requires.few c.top_of.ensures in omega (arith, l)

pub returns-clause-yes : goal.returns-clause-yes
returns-clause-yes c e =
    let l : 1099511627776 < c.lag_below.result = ltb-true 1099511627776 c.lag_below.result e in
    slow_yes c.args.strata.now (map (λ r. r.value.lag) c.args.plans.now) (rw length-map c.requires.each) c.top_of.result (c.top_of.result + 1) (omega arith) c.top_of.ensures (rw c.lag_below.ensures.value at l)

pub returns-clause-no : goal.returns-clause-no
returns-clause-no c e =
    let l : c.lag_below.result ≤ 1099511627776 = ltb-false 1099511627776 c.lag_below.result e in
    slow_no c.args.strata.now (map (λ r. r.value.lag) c.args.plans.now) (rw length-map c.requires.each) c.top_of.result (c.top_of.result + 1) (omega arith) c.top_of.ensures (rw c.lag_below.ensures.value at l) (c.is_some_infinite.ensures.no c.if-is_some_infinite.false)
