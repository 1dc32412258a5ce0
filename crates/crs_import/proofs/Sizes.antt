-- Tables that are too long.
use Rattle.std.proofs.Common.{◌≡◌, ℕ, ◌<◌, List, length, Err}
use Rattle.std.specs.Prelude.{if◌then◌else◌}
use Rattle.std.proofs.lemmas.Bool.{lt-leb}
use Rattle.csv.specs.Reading.{records, strip_bom, default_config}
use Rattle.crs_import.specs.Tables.{headed, table_log}
use Rattle.crs_import.specs.declared.refusals.ImportRefused.TheVariants.{Row}
use Rattle.crs_import.specs.declared.refusals.RowWord.TheVariants.{Size}

pub too_long : (table : List ℕ) → 67108864 < length table → table_log table ≡ Err (Row 0 Size)
too_long table h = λ i. if lt-leb (length table) 67108864 h i then headed (records default_config (strip_bom table)) else Err (Row 0 Size)
