use Rattle.std.proofs.Common.{length, ◌<◌}
use Rattle.crs_agenda.specs.Freshness.{is_fresh}
use Rattle.crs_index.specs.Rows.{rows}
use Rattle.crs_index.proofs.States.{cleaned, cleaned_kept}
use Rattle.crs_index.proofs.index.Index.clean.Goals as goal

pub invariant_of-self : goal.invariant_of-self
invariant_of-self c =
    let within : c.args.number < length (rows c.self.inside.buckets.items) = rw (← c.self.view_is) at c.requires in
    cleaned_kept (is_fresh c.args.serials.now) (rows c.self.inside.buckets.items) _ c.args.number within c.sift_at-dropped.ensures c.self.inside.numbers _ c.self.invariant

pub returns : goal.returns
returns c =
    let within : c.args.number < length (rows c.self.inside.buckets.items) = rw (← c.self.view_is) at c.requires in
    rw (← c.self.view_is) (cleaned c.self.inside.numbers (rows c.self.inside.buckets.items) _ c.args.number c.args.serials.now within c.sift_at-dropped.ensures)
