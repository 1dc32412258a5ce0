-- Whether an error of `csv` is one of lengths.
use Rattle.std.specs.Prelude.{Bool, true, false}
use Rattle.csv.specs.declared.error.ErrorKind.{ErrorKind}
use Rattle.csv.specs.declared.error.ErrorKind.TheVariants as kind

abbrev pub is_lengths : ErrorKind → Bool
is_lengths (kind.UnequalLengths pos expected len) = true
is_lengths (kind.Io e) = false
is_lengths (kind.Utf8 pos err) = false
is_lengths kind.OutOfMemory = false
is_lengths (kind.Serialize text) = false
is_lengths (kind.Deserialize pos err) = false
