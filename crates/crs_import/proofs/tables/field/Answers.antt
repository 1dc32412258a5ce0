use Rattle.csv.specs.Records.{fields_of}
use Rattle.crs_import.proofs.Fields.{field_there, no_field_there}
use Rattle.crs_import.proofs.tables.field.Goals as goal

pub returns-in-Some : goal.returns-in-Some
returns-in-Some c = field_there (fields_of c.args.buffer.now) c.args.i c.in-Some.field.now c.in-Some.ensures.value

pub returns-in-None : goal.returns-in-None
returns-in-None c = no_field_there (fields_of c.args.buffer.now) c.args.i c.in-None.ensures.value
