use Rattle.std.proofs.Common.{length}
use Rattle.crs_base.specs.Lines.{Line, lines_of}
use Rattle.crs_base.specs.Words.{IsIn}
use Rattle.crs_audit.specs.LogTexts.{GainsOnlyOf}
use Rattle.crs_audit.specs.Runs.{ReadsAllOn}
use Rattle.crs_audit.proofs.taking.take_lines.Given as goal

-- the lines that are left are the log's, and of those before them the table has gained only texts
abbrev pub invariant-loop-rest : goal.invariant-loop-rest
invariant-loop-rest l = record {
  reads : ReadsAllOn l.names l.limit l.fn.symbols l.symbols l.run (lines_of l.log) (lines_of l.rest);
  gains : GainsOnlyOf l.log l.fn.symbols l.symbols;
  among : (x : Line) → IsIn x (lines_of l.rest) → IsIn x (lines_of l.log);
}

abbrev pub decreases-loop-rest : goal.decreases-loop-rest
decreases-loop-rest l = length l.rest
