use Rattle.crs_base.specs.Seen.{entry_of}
use Rattle.crs_store.proofs.Noting.{AreTouched}
use Rattle.crs_store.proofs.links.note_touched.Given as goal

abbrev pub invariant-loop-k : goal.invariant-loop-k
invariant-loop-k l = AreTouched l.chart.plan l.chart.hooks.windows.items l.slots (entry_of l.entry) l.k l.fn.waiting l.waiting l.fn.places.items l.places.items
