use Rattle.std.proofs.Common.{◌≡◌, ◌≤◌, ◌-◌, length, map, option_map}
use Rattle.crs_log.specs.Items.{AreSymbols}
use Rattle.crs_log.specs.SeenItems.{text_of}
use Rattle.crs_log.specs.Places.{tokens_from, led_tokens}
use Rattle.crs_log.proofs.items.walk.arguments.Given as goal

-- the arguments so far, and the tokens of what is left
abbrev pub invariant-loop-span : goal.invariant-loop-span
invariant-loop-span l = record {
  tokens : tokens_from l.line l.at ≡ option_map (led_tokens (map (text_of l.line) l.args)) (tokens_from l.line l.i);
  symbols : AreSymbols (map (text_of l.line) l.args);
  within : l.i ≤ length l.line;
}

abbrev pub decreases-loop-span : goal.decreases-loop-span
decreases-loop-span l = length l.line - l.i
