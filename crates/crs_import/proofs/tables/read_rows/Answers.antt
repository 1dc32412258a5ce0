use Rattle.std.proofs.Common.{◌≡◌, ◌∙◌, [], false, Bool, Some, Bor, List, ℕ, subst, rules}
use Rattle.crs_import.specs.TableReading.{rows_left}
use Rattle.crs_import.specs.TableSteps.{PushesRow}
use Rattle.crs_import.proofs.Logs.{at_end}
use Rattle.crs_import.proofs.tables.read_rows.Goals as goal

pub returns-then-not-more-clause-ok : goal.returns-then-not-more-clause-ok
returns-then-not-more-clause-ok c =
    let none : c.in_ok-more.more ≡ false = search rules in
    let last : (rows_left (λ (s : Bor (List ℕ)). Some s.now) c.loop-row.reader ≡ []) × (c.push_record.new.out.items ≡ c.loop-row.out.items) = subst (λ (b : Bool). PushesRow (λ (s : Bor (List ℕ)). Some s.now) c.loop-row.reader c.push_record.new.reader c.loop-row.row c.loop-row.out.items c.push_record.new.out.items b) none c.in_ok-more.ensures.ok in
    c.loop-row.invariant.log ∙ at_end c.loop-row.row (rows_left (λ (s : Bor (List ℕ)). Some s.now) c.loop-row.reader) c.loop-row.out.items c.push_record.new.out.items last.0 last.1
