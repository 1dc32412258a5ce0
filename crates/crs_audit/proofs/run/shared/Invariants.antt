use Rattle.std.proofs.Common.{◌≡◌, ◌++◌, drop}
use Rattle.crs_audit.specs.Runs.{entries_of}
use Rattle.crs_audit.proofs.run.shared.Given as goal

abbrev pub invariant-loop-entry : goal.invariant-loop-entry
invariant-loop-entry l = entries_of l.copies.items ++ entries_of (drop l.entry-index l.entries) ≡ entries_of l.entries
