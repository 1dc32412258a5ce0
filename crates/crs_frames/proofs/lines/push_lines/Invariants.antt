use Rattle.std.proofs.Common.{◌≡◌, ◌++◌, drop}
use Rattle.std.specs.Prelude.{flat_map}
use Rattle.crs_frames.specs.TableTexts.{line_in, ArePrintable}
use Rattle.crs_frames.proofs.lines.push_lines.Given as goal

-- what is written and the lines of what is left are the lines of all
abbrev pub invariant-loop-r : goal.invariant-loop-r
invariant-loop-r l = record {
  written : l.out.items ++ flat_map (line_in l.cite l.plans l.symbols.texts) (drop l.r-index l.answer) ≡ l.fn.out.items ++ flat_map (line_in l.cite l.plans l.symbols.texts) l.answer;
  printable : ArePrintable l.plans l.symbols.texts (drop l.r-index l.answer);
}
