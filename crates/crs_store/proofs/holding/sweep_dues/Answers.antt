use Rattle.std.proofs.Common.{List, sym, subst}
use Rattle.crs_agenda.specs.declared.timed.Timed.{Timed}
use Rattle.crs_agenda.specs.Freshness.{is_fresh_pair}
use Rattle.crs_base.specs.Words.{IsIn}
use Rattle.crs_base.proofs.Words.{in_filter}
use Rattle.crs_store.proofs.holding.sweep_dues.Goals as goal

pub returns-then-len-room-clause-fresh : goal.returns-then-len-room-clause-fresh
returns-then-len-room-clause-fresh c = λ t fresh i. subst (λ (ts : List Timed). IsIn t ts) (sym c.sweep.ensures.pairs) (in_filter (is_fresh_pair c.args.serials.now) c.args.dues.now.pairs t i fresh)
