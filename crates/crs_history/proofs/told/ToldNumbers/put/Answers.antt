use Rattle.std.proofs.lemmas.List.Elements.{All-set}
use Rattle.crs_history.specs.Told.{Tells}
use Rattle.crs_history.proofs.told.ToldNumbers.put.Goals as goal

pub returns-then-at-len : goal.returns-then-at-len
returns-then-at-len c = λ f told tells. All-set (Tells f) c.args.self.now.places.items c.place_of-at.result c.args.place tells told
