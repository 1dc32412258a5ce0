use Rattle.std.proofs.Common.{◌≡◌, ◌<◌, ◌≤◌, ℕ, map, length, Some, None}
use Rattle.crs_base.specs.Seen.{entry_of}
use Rattle.crs_model.specs.Partial.{dates_of}
use Rattle.crs_audit.specs.Rounds.{date_in}
use Rattle.crs_audit.proofs.bounds.dates_at.Given as goal

-- the dates of the entries so far, and no others
abbrev pub invariant-loop-i : goal.invariant-loop-i
invariant-loop-i l = record {
  size : length l.dates.of ≡ 24;
  so_far : (p : ℕ) → p < l.i → date_in l.dates.of p ≡ dates_of (map Some (map (λ e. entry_of e.value) l.entries)) p;
  others : (p : ℕ) → l.i ≤ p → date_in l.dates.of p ≡ None;
}
