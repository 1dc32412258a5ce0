-- A file of a desk in memory.
use Rattle.std.specs.Prelude.{ℕ, List}
use Rattle.crs_desk.specs.declared.file.File.{File}

abbrev pub pair_of : File → List ℕ × List ℕ
pair_of f = (f.name.items, f.bytes.items)
