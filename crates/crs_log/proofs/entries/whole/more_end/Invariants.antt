use Rattle.std.proofs.Common.{◌≡◌, ◌≤◌, ◌-◌, ◌++◌, map, drop}
use Rattle.crs_base.specs.Entry.{more_text}
use Rattle.crs_base.specs.SeenTokens.{word_at}
use Rattle.crs_log.specs.SeenItems.{text_of}
use Rattle.crs_log.proofs.entries.whole.more_end.Given as goal

-- what stands so far, and the text of what is left
abbrev pub invariant-loop-arg : goal.invariant-loop-arg
invariant-loop-arg l = record {
  text : word_at l.line l.at (l.end - l.at) ++ more_text (map (text_of l.line) (drop l.arg-index l.args)) ≡ more_text (map (text_of l.line) l.args);
  onward : l.at ≤ l.end;
}
