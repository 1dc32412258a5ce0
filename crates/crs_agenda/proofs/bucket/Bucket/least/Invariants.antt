use Rattle.std.proofs.Common.{◌≡◌, ◌<◌, ◌≤◌, length, take, get_or, All}
use Rattle.crs_agenda.specs.declared.timed.Timed.{Timed}
use Rattle.crs_agenda.proofs.bucket.Bucket.least.Given as goal

abbrev pub invariant-loop-i : goal.invariant-loop-i
invariant-loop-i l = record {
  within : l.at < length l.self-inside.items.items;
  here : (d : Timed) → (get_or l.self-inside.items.items l.at d).date ≡ l.date;
  least : All (λ t. l.date ≤ t.date) (take l.i l.self-inside.items.items);
}
