use Rattle.crs_history.proofs.told.ToldNumbers.note.Goals as goal

pub returns : goal.returns
returns c = λ f told e. c.put.ensures f (c.make_room.ensures f told) (λ some. e)
