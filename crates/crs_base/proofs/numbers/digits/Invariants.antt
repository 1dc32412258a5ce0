use Rattle.std.proofs.Common.{◌≡◌, ◌<◌, ◌^◌, drop}
use Rattle.crs_base.specs.Numbers.{number_on}
use Rattle.crs_base.proofs.numbers.digits.Given as goal

-- the answer for what is left is the answer for all
abbrev pub invariant-loop-b : goal.invariant-loop-b
invariant-loop-b l = record {
  told : number_on l.n (drop l.b-index l.word) ≡ number_on 0 l.word;
  below : l.n < 10 ^ l.b-index;
}
