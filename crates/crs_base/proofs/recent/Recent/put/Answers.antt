use Rattle.std.proofs.Common.{sym, subst, arith}
use Rattle.std.proofs.lemmas.List.Elements.{All-set}
use Rattle.crs_base.specs.Recent.{TellBoth}
use Rattle.crs_base.proofs.recent.Recent.put.Goals as goal

pub returns-then-at-len : goal.returns-then-at-len
returns-then-at-len c = λ texts told tells.
    let old = told c.pair_of-at.result c.index.result.now (omega arith) in
    All-set (TellBoth texts) c.args.self.now.pairs.items c.pair_of-at.result c.with_place.result (c.with_place.ensures texts (subst (TellBoth texts) (sym c.index.ensures) old) tells) told
