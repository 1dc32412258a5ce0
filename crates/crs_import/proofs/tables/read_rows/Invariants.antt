use Rattle.std.proofs.Common.{◌≡◌, Some, Bor, List, ℕ}
use Rattle.crs_import.specs.TableReading.{IsReading, rows_left}
use Rattle.crs_import.specs.Tables.{headed, log_of, onto}
use Rattle.crs_import.proofs.tables.read_rows.Given as goal

-- the log of all is what was written and the log of what is left
abbrev pub invariant-loop-row : goal.invariant-loop-row
invariant-loop-row l = record {
  reading : IsReading (λ (s : Bor (List ℕ)). Some s.now) l.reader;
  six : l.reader.expected ≡ Some 6;
  log : headed (rows_left (λ (s : Bor (List ℕ)). Some s.now) l.fn.reader) ≡ onto l.out.items (log_of l.row (rows_left (λ (s : Bor (List ℕ)). Some s.now) l.reader));
}
