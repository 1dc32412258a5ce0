use Rattle.std.proofs.Common.{rules, ◌≡◌, [], ◌∷◌, ◌++◌, refl}
use Rattle.std.proofs.lemmas.Result.{on_ok_weaker}
use Rattle.crs_base.specs.Seen.{entry_of}
use Rattle.crs_layers.specs.Accepting.{IsSameLayer, HasLogged}
use Rattle.crs_layers.proofs.Logging.{ready_parts, zip_last}
use Rattle.crs_layers.proofs.accepting.log_all.Goals as goal

pub log_copies-requires-clause-ready : goal.log_copies-requires-clause-ready
log_copies-requires-clause-ready c =
    let e : c.args.layers.now ≡ c.in-Some.others.now ++ c.in-Some.last.now ∷ [] = search rules in
    (ready_parts c.args.entry.date c.args.layers.now c.in-Some.others.now c.in-Some.last.now e c.requires.ready).0

pub returns-in_err-log_copies-in-Some-clause-same : goal.returns-in_err-log_copies-in-Some-clause-same
returns-in_err-log_copies-in-Some-clause-same c =
    let e : c.args.layers.now ≡ c.in-Some.others.now ++ c.in-Some.last.now ∷ [] = search rules in
    zip_last IsSameLayer c.args.layers.now c.in-Some.others.now c.log_copies.new.layers c.in-Some.last.now c.in-Some.last.now e c.log_copies.ensures.same (record { numbers = refl; behind = refl })

pub log_one-requires-clause-ready : goal.log_one-requires-clause-ready
log_one-requires-clause-ready c =
    let e : c.args.layers.now ≡ c.in-Some.others.now ++ c.in-Some.last.now ∷ [] = search rules in
    (ready_parts c.args.entry.date c.args.layers.now c.in-Some.others.now c.in-Some.last.now e c.requires.ready).1

pub returns-in_ok-log_copies-in-Some-clause-same : goal.returns-in_ok-log_copies-in-Some-clause-same
returns-in_ok-log_copies-in-Some-clause-same c =
    let e : c.args.layers.now ≡ c.in-Some.others.now ++ c.in-Some.last.now ∷ [] = search rules in
    zip_last IsSameLayer c.args.layers.now c.in-Some.others.now c.log_copies.new.layers c.in-Some.last.now c.log_one.new.layer e c.log_copies.ensures.same c.log_one.ensures.same

pub returns-in_ok-log_copies-in-Some-clause-logged : goal.returns-in_ok-log_copies-in-Some-clause-logged
returns-in_ok-log_copies-in-Some-clause-logged c =
    let e : c.args.layers.now ≡ c.in-Some.others.now ++ c.in-Some.last.now ∷ [] = search rules in
    on_ok_weaker c.log_one.result
    (λ here. zip_last (HasLogged (entry_of c.args.entry)) c.args.layers.now c.in-Some.others.now c.log_copies.new.layers c.in-Some.last.now c.log_one.new.layer e ((c.in_ok-log_copies-in-Some.ensures {u = tt}).logged) here)
    c.log_one.ensures.logged
