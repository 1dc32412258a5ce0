use Rattle.std.proofs.Common.{◌≡◌}
use Rattle.std.proofs.lemmas.List.Filters.{FiltersInPlace}
use Rattle.crs_agenda.specs.Freshness.{is_fresh_pair}
use Rattle.crs_agenda.proofs.bucket.Bucket.keep_fresh.Given as goal

abbrev pub invariant-loop-i : goal.invariant-loop-i
invariant-loop-i l =
    FiltersInPlace (is_fresh_pair l.serials) l.initial.self-inside.items.items l.self-inside.items.items l.kept l.i
    × (l.self-inside.floor ≡ l.initial.self-inside.floor)
