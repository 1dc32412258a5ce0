use Rattle.crs_import.proofs.Records.{all_records}
use Rattle.crs_import.proofs.laws.records_are_all.Goals as goal

pub returns : goal.returns
returns c = all_records
