use Rattle.std.proofs.Common.{◌≡◌, length}
use Rattle.crs_waiting.specs.Named.{AreFirsts}
use Rattle.crs_waiting.proofs.hooks.firsts_of.Given as goal

abbrev pub invariant-loop-number : goal.invariant-loop-number
invariant-loop-number l = record {
  len : length l.firsts.items ≡ l.number;
  are : AreFirsts l.events l.firsts.items;
}
