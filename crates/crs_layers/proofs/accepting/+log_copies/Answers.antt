use Rattle.std.proofs.Common.{◌≡◌, ◌∷◌, rules, List, sym, subst}
use Rattle.std.specs.List.{AllZip}
use Rattle.crs_layers.specs.Accepting.{IsSameLayer}
use Rattle.crs_layers.specs.declared.layer.Layer.{Layer}
use Rattle.crs_layers.proofs.Logging.{same_first, same_all}
use Rattle.crs_layers.proofs.accepting.+log_copies.Goals as goal

pub returns-in_err-copy-in-Some-clause-same : goal.returns-in_err-copy-in-Some-clause-same
returns-in_err-copy-in-Some-clause-same t c =
    let e : c.args.layers.now ≡ c.in-Some.first.now ∷ c.in-Some.rest.now = search rules in
    subst (λ (ls : List Layer). AllZip IsSameLayer ls (c.in-Some.first.now ∷ c.in-Some.rest.now)) (sym e) (same_all (c.in-Some.first.now ∷ c.in-Some.rest.now))

pub returns-in_err-log_one-in-Some-clause-same : goal.returns-in_err-log_one-in-Some-clause-same
returns-in_err-log_one-in-Some-clause-same t c =
    same_first c.args.layers.now c.in-Some.first.now c.log_one.new.layer c.in-Some.rest.now (search rules) c.log_one.ensures.same
