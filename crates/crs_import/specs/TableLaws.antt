-- The records that logs are read from are all records of the bytes.
use Rattle.std.specs.Prelude.{ℕ, List}
use Rattle.csv.specs.Reading.{AreRecords, records, default_config}
use Rattle.csv.specs.declared.parser.State.TheVariants as st

abbrev pub RecordsAreAll : Type 0
RecordsAreAll = (bytes : List ℕ) → AreRecords default_config st.StartRecord bytes (records default_config bytes)
