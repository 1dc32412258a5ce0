use Rattle.crs_log.proofs.ItemLaw.{item_sound, item_again}
use Rattle.crs_log.proofs.laws.one_item.Goals as goal

pub returns : goal.returns
returns c = λ line item. (item_sound line item, item_again line item)
