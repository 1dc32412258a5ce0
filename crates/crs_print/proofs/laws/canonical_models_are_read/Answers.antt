use Rattle.crs_print.proofs.Law.{canonical_is_read, tables_are_within, lines_are_not_written}
use Rattle.crs_print.proofs.laws.canonical_models_are_read.Goals as goal

pub returns : goal.returns
returns c = record { read = canonical_is_read; tables = tables_are_within; one_text = lines_are_not_written }
