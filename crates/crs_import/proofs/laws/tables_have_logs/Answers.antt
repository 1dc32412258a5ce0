use Rattle.std.proofs.Common.{refl}
use Rattle.std.specs.Fmt.{digits}
use Rattle.csv.specs.Machine.{next_record}
use Rattle.csv.specs.Reading.{records_from, strip_bom}
use Rattle.crs_import.specs.Tables.{log_of}
use Rattle.crs_import.proofs.laws.tables_have_logs.Goals as goal

pub returns-clause-log : goal.returns-clause-log
unfolding next_record records_from strip_bom log_of digits
returns-clause-log c = refl

pub returns-clause-fields : goal.returns-clause-fields
unfolding next_record records_from strip_bom log_of digits
returns-clause-fields c = refl

pub returns-clause-none : goal.returns-clause-none
unfolding next_record records_from strip_bom log_of digits
returns-clause-none c = refl
