use Rattle.std.proofs.Common.{◌≡◌, map, drop}
use Rattle.crs_desk.specs.Desk.{file_of}
use Rattle.crs_desk.specs.File.{pair_of}
use Rattle.crs_desk.proofs.file.bytes_of.Given as goal

abbrev pub invariant-loop-file : goal.invariant-loop-file
invariant-loop-file l = file_of (map pair_of l.files) l.name ≡ file_of (map pair_of (drop l.file-index l.files)) l.name
