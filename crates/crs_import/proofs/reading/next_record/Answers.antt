use Rattle.std.proofs.Common.{◌≡◌, refl, true, Some, Bor, List, ℕ, inr}
use Rattle.csv.specs.Records.{fields_of}
use Rattle.crs_import.specs.Lengths.{is_lengths}
use Rattle.crs_import.proofs.TakenRows.{took_of, differs_of}
use Rattle.crs_import.proofs.reading.next_record.Goals as goal

pub returns-in-Ok-clause-ok : goal.returns-in-Ok-clause-ok
returns-in-Ok-clause-ok c =
    took_of (λ (s : Bor (List ℕ)). Some s.now) c.args.reader.now c.read_byte_record.new.self c.in-Ok.found (fields_of c.read_byte_record.new.row) c.requires
    (c.in-Ok.ensures.reads c.requires.untrimmed c.requires.ready) (c.in-Ok.ensures.ready c.requires.untrimmed) c.in-Ok.ensures.flexible

pub returns-in-Err-clause-err : goal.returns-in-Err-clause-err
returns-in-Err-clause-err c =
    let lengths : is_lengths c.in-Err.error.kind ≡ true = cc in
    inr (refl, differs_of (λ (s : Bor (List ℕ)). Some s.now) c.args.reader.now c.read_byte_record.new.self c.in-Err.error.kind c.requires (c.in-Err.ensures.why c.requires.ready) lengths)
