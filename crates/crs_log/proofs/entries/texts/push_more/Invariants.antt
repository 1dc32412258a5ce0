use Rattle.std.proofs.Common.{◌≡◌, ◌++◌, map, drop}
use Rattle.crs_log.specs.SeenItems.{text_of}
use Rattle.crs_base.specs.Entry.{more_text}
use Rattle.crs_log.proofs.entries.texts.push_more.Given as goal

abbrev pub invariant-loop-arg : goal.invariant-loop-arg
invariant-loop-arg l = l.out.items ++ more_text (map (text_of l.line) (drop l.arg-index l.args)) ≡ l.fn.out.items ++ more_text (map (text_of l.line) l.args)
