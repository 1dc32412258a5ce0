use Rattle.std.proofs.Common.{◌≡◌, ◌∙◌, sym, ap, inr, true, rules, Bool, Some, Bor, List, ℕ, subst}
use Rattle.std.proofs.lemmas.Result.{err_from_is_err_and}
use Rattle.csv.specs.Records.{fields_of}
use Rattle.crs_import.specs.Records.{line_of}
use Rattle.crs_import.specs.TableReading.{Took, Found}
use Rattle.crs_import.specs.SeenTables.{line_seen}
use Rattle.crs_import.proofs.Logs.{pushed, faulty, refused}
use Rattle.crs_import.proofs.tables.push_record.Goals as goal

pub returns-in_err-found-clause-err : goal.returns-in_err-found-clause-err
returns-in_err-found-clause-err c =
    let p = err_from_is_err_and c.from_residual.result c.from_residual.ensures.1 in
    rw (p.1, p.2) (refused (λ (s : Bor (List ℕ)). Some s.now) c.args.reader.now c.args.row c.in_err-found.field-0.0 c.requires.six c.in_err-found.ensures.err)

pub returns-in_ok-push_statement-in-Ok-clause-ok : goal.returns-in_ok-push_statement-in-Ok-clause-ok
returns-in_ok-push_statement-in-Ok-clause-ok c =
    let found : c.in_ok-found.found ≡ true = search rules in
    let took : Found (λ (s : Bor (List ℕ)). Some s.now) c.args.reader.now c.next_record.new.reader (fields_of c.next_record.new.buffer) = subst (λ (b : Bool). Took (λ (s : Bor (List ℕ)). Some s.now) c.args.reader.now c.next_record.new.reader b (fields_of c.next_record.new.buffer)) found c.in_ok-found.ensures.ok in
    pushed (λ (s : Bor (List ℕ)). Some s.now) c.args.reader.now c.next_record.new.reader c.args.row (fields_of c.next_record.new.buffer) (line_seen c.in-Ok.line) c.args.out.now.items c.push_statement.new.out.items took c.requires.six (ap line_of (sym c.row_of-fields.ensures) ∙ c.in-Ok.ensures) (c.in_ok-push_statement-in-Ok.ensures {u = tt})

pub returns-in-Err-clause-err : goal.returns-in-Err-clause-err
returns-in-Err-clause-err c =
    let found : c.in_ok-found.found ≡ true = search rules in
    let took : Found (λ (s : Bor (List ℕ)). Some s.now) c.args.reader.now c.next_record.new.reader (fields_of c.next_record.new.buffer) = subst (λ (b : Bool). Took (λ (s : Bor (List ℕ)). Some s.now) c.args.reader.now c.next_record.new.reader b (fields_of c.next_record.new.buffer)) found c.in_ok-found.ensures.ok in
    inr (faulty (λ (s : Bor (List ℕ)). Some s.now) c.args.reader.now c.next_record.new.reader c.args.row (fields_of c.next_record.new.buffer) c.in-Err.word took c.requires.six (ap line_of (sym c.row_of-fields.ensures) ∙ c.in-Err.ensures))
