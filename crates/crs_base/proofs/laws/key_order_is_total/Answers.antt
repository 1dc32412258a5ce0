use Rattle.crs_base.proofs.KeyOrder.{key_total, key_exact}
use Rattle.crs_base.proofs.laws.key_order_is_total.Goals as goal

pub returns-clause-total : goal.returns-clause-total
returns-clause-total c = key_total

pub returns-clause-exact : goal.returns-clause-exact
returns-clause-exact c = key_exact
