use Rattle.std.proofs.Common.{ap, ◌∙◌, List}
use Rattle.crs_agenda.specs.declared.timed.Handle.{Handle}
use Rattle.crs_index.specs.KeyNumbers.{number_in}
use Rattle.crs_agenda.specs.Freshness.{is_fresh}
use Rattle.crs_index.specs.Indexes.{handles_at}
use Rattle.crs_index.specs.Rows.{rows}
use Rattle.crs_index.proofs.States.{swept, swept_kept}
use Rattle.crs_index.proofs.index.Index.sift.Goals as goal

pub invariant_of-self : goal.invariant_of-self
invariant_of-self c = swept_kept c.self.inside.numbers (is_fresh c.args.serials.now) (rows c.self.inside.buckets.items) _ _ c.sift.ensures c.self.invariant

pub returns : goal.returns
returns c = rw (← c.self.view_is) (λ k.
    ap (λ (D : List (List Handle)). handles_at D (number_in c.self.inside.numbers k)) c.sift.ensures
    ∙ swept (is_fresh c.args.serials.now) (rows c.self.inside.buckets.items) (number_in c.self.inside.numbers k))
