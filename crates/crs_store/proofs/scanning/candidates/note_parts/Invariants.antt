use Rattle.crs_store.proofs.Parting.{ArePartsTried}
use Rattle.crs_store.proofs.scanning.candidates.note_parts.Given as goal

abbrev pub invariant-loop-number : goal.invariant-loop-number
invariant-loop-number l = ArePartsTried l.slots l.symbols l.wanted.event l.wanted.date l.wanted.symbols l.number l.fn.waiting l.waiting l.fn.places.items l.places.items
