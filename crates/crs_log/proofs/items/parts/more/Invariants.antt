use Rattle.std.proofs.Common.{◌≡◌, length, map, option_map}
use Rattle.crs_base.specs.SeenTokens.{tokens_seen, AreWordsIn}
use Rattle.crs_log.specs.SeenItems.{text_of}
use Rattle.crs_log.specs.ItemOf.{more_of, led_by}
use Rattle.crs_log.proofs.items.parts.more.Given as goal

-- the arguments so far and those of what is left
abbrev pub invariant-loop-first : goal.invariant-loop-first
invariant-loop-first l = record {
  words : AreWordsIn l.line l.rest;
  args : option_map (led_by (map (text_of l.line) l.args)) (more_of (tokens_seen l.line l.rest)) ≡ option_map (led_by (map (text_of l.line) l.fn.args)) (more_of (tokens_seen l.line l.tokens));
}

abbrev pub decreases-loop-first : goal.decreases-loop-first
decreases-loop-first l = length l.rest
