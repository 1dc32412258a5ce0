use Rattle.std.proofs.Common.{sym, ap, ◌∙◌}
use Rattle.crs_index.specs.KeyNumbers.{number_in}
use Rattle.crs_index.specs.Indexes.{handles_at}
use Rattle.crs_index.specs.Rows.{rows}
use Rattle.crs_index.proofs.States.{opened, opened_same, given_back, kept_same, named_kept, named_same}
use Rattle.crs_index.proofs.index.Index.bucket_for.Goals as goal

pub invariant_of-self-in_default-set : goal.invariant_of-self-in_default-set
invariant_of-self-in_default-set c =
    let open_n = opened c.self.inside.numbers (rows c.self.inside.buckets.items) (rows c.open_bucket.new.buckets.items) c.self.inside.spare.items c.open_bucket.new.spare.items c.in-Ok.number c.self.invariant c.in-Ok.ensures.ok in
    kept_same c.self.inside.numbers c.set.new.self _ _ c.in_default-set.ensures.err (given_back c.self.inside.numbers (rows c.open_bucket.new.buckets.items) c.open_bucket.new.spare.items c.give_back.new.spare.items c.in-Ok.number open_n c.give_back.ensures)

pub returns-in_default-set-clause-same : goal.returns-in_default-set-clause-same
returns-in_default-set-clause-same c = rw (← c.self.view_is) (λ k.
    ap (handles_at (rows c.open_bucket.new.buckets.items)) (c.in_default-set.ensures.err k)
    ∙ opened_same (rows c.self.inside.buckets.items) (rows c.open_bucket.new.buckets.items) c.self.inside.spare.items c.open_bucket.new.spare.items c.in-Ok.number c.in-Ok.ensures.ok (number_in c.self.inside.numbers k))

pub invariant_of-self-2 : goal.invariant_of-self-2
invariant_of-self-2 c =
    let open_n = opened c.self.inside.numbers (rows c.self.inside.buckets.items) (rows c.open_bucket.new.buckets.items) c.self.inside.spare.items c.open_bucket.new.spare.items c.in-Ok.number c.self.invariant c.in-Ok.ensures.ok in
    named_kept c.self.inside.numbers c.set.new.self (rows c.open_bucket.new.buckets.items) c.open_bucket.new.spare.items c.args.key c.in-Ok.number open_n c.in-Ok-set.ensures.here c.in-Ok-set.ensures.others

pub returns-clause-same : goal.returns-clause-same
returns-clause-same c =
    let open_n = opened c.self.inside.numbers (rows c.self.inside.buckets.items) (rows c.open_bucket.new.buckets.items) c.self.inside.spare.items c.open_bucket.new.spare.items c.in-Ok.number c.self.invariant c.in-Ok.ensures.ok in
    rw (← c.self.view_is) (λ k.
    named_same c.self.inside.numbers c.set.new.self (rows c.open_bucket.new.buckets.items) c.open_bucket.new.spare.items c.args.key c.in-Ok.number open_n c.in-Ok-set.ensures.here c.in-Ok-set.ensures.others (sym c.in_default.ensures) k
    ∙ opened_same (rows c.self.inside.buckets.items) (rows c.open_bucket.new.buckets.items) c.self.inside.spare.items c.open_bucket.new.spare.items c.in-Ok.number c.in-Ok.ensures.ok (number_in c.self.inside.numbers k))
