use Rattle.std.proofs.Common.{◌≡◌, ◌<◌, ◌^◌, drop}
use Rattle.crs_base.specs.Tags.{tag_on}
use Rattle.crs_base.proofs.recent.bits_of.Given as goal

-- the tag with what is left is the tag of all
abbrev pub invariant-loop-b : goal.invariant-loop-b
invariant-loop-b l = record {
  told : tag_on l.bits (drop l.b-index l.text) ≡ tag_on 0 l.text;
  below : l.bits < 256 ^ l.b-index;
}
