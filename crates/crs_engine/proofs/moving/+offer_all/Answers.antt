use Rattle.std.proofs.Common.{rules, map}
use Rattle.crs_base.specs.Seen.{entry_of}
use Rattle.crs_engine.proofs.Settling.{same_all, same_first}
use Rattle.crs_engine.proofs.Passed.{all_passed}
use Rattle.crs_engine.proofs.moving.+offer_all.Goals as goal

pub returns-then-bits-eq0-clause-same : goal.returns-then-bits-eq0-clause-same
returns-then-bits-eq0-clause-same g t c = same_all c.args.stores.now

pub returns-then-bits-eq0-clause-offered : goal.returns-then-bits-eq0-clause-offered
returns-then-bits-eq0-clause-offered g t c =
    all_passed c.args.stores.now c.args.history.now (entry_of c.args.entry.now.value) c.args.coming.now.until (map (λ r. entry_of r.value) c.args.coming.now.ahead.now) c.args.coming.now.beyond c.args.coming.now.behind c.requires.coming.later c.args.bits (search rules) c.requires.told c.pass_over_all.ensures

pub returns-in_err-take_in-in-Some-clause-same : goal.returns-in_err-take_in-in-Some-clause-same
returns-in_err-take_in-in-Some-clause-same g t c = same_first c.args.stores.now c.in-Some.first.now c.take_in.new.store c.in-Some.rest.now (search rules) c.take_in.ensures.same
