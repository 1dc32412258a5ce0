use Rattle.std.proofs.Common.{◌≡◌, ◌++◌, drop}
use Rattle.crs_base.specs.SeenTokens as places
use Rattle.crs_grammar.specs.GrammarTokens.{seen}
use Rattle.crs_grammar.proofs.words.sliced.Given as goal

-- those so far and those of what is left
abbrev pub invariant-loop-p : goal.invariant-loop-p
invariant-loop-p l = seen l.out.items ++ places.tokens_seen l.line (drop l.p-index l.found) ≡ places.tokens_seen l.line l.found
