use Rattle.std.proofs.Common.{◌≡◌, map, drop}
use Rattle.std.specs.Prelude.{bytes_eq}
use Rattle.std.specs.List.{list_any}
use Rattle.crs_model.specs.Renaming.{text_in}
use Rattle.crs_log.proofs.naming.is_among.Given as goal

abbrev pub invariant-loop-s : goal.invariant-loop-s
invariant-loop-s l = list_any (bytes_eq l.value) (map (text_in l.symbols.texts) (drop l.s-index l.values)) ≡ list_any (bytes_eq l.value) (map (text_in l.symbols.texts) l.values)
