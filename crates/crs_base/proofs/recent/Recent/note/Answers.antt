use Rattle.crs_base.proofs.Tags.{told_here}
use Rattle.crs_base.proofs.recent.Recent.note.Goals as goal

pub returns-in-Some : goal.returns-in-Some
returns-in-Some c = λ texts told e.
    c.put.ensures texts (c.make_room.ensures texts told) (told_here texts c.args.text.now c.in-Some.tag c.args.number (λ i. (c.type_inv.text i).fits) c.in-Some.ensures e)
