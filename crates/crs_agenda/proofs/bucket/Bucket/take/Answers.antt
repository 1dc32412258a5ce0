use Rattle.std.proofs.Common.{◌<◌, length, subst, sym, List}
use Rattle.std.proofs.lemmas.List.Sorted.{IsPermutation-swap_remove}
use Rattle.crs_agenda.specs.declared.timed.Timed.{Timed}
use Rattle.crs_agenda.proofs.bucket.Bucket.take.Goals as goal

pub returns-clause-rest : goal.returns-clause-rest
returns-clause-rest c =
    rw (← c.self.view_is, c.swap_remove.ensures.items) (IsPermutation-swap_remove c.self.inside.items.items c.args.at c.swap_remove.result (subst (λ (xs : List Timed). c.args.at < length xs) (sym c.self.view_is) c.requires) c.swap_remove.ensures.value)
