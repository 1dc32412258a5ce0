use Rattle.std.proofs.Common.{◌≡◌, ◌≤◌, ◌-◌, ◌++◌, length, option_map, drop, false}
use Rattle.crs_base.specs.Tokens.{tokens_behind}
use Rattle.crs_base.specs.SeenTokens.{tokens_seen, marks_of, AreWordsIn}
use Rattle.crs_base.proofs.tokens.fill_tokens.Given as goal

-- the tokens so far and those of what is left
abbrev pub invariant-loop-first : goal.invariant-loop-first
invariant-loop-first l = record {
  words : AreWordsIn l.line l.out.items;
  within : length l.rest ≤ length l.line;
  place : l.rest ≡ drop (length l.line - length l.rest) l.line;
  told : option_map (λ ts. tokens_seen l.line l.out.items ++ ts) (tokens_behind (marks_of l.marks) false l.rest) ≡ tokens_behind (marks_of l.marks) false l.line;
}

abbrev pub decreases-loop-first : goal.decreases-loop-first
decreases-loop-first l = length l.rest
