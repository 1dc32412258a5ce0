use Rattle.std.proofs.Common.{map, string_bytes}
use Rattle.clap.specs.Words.{app_of, rows_of, found_of}
use Rattle.crs_words.specs.Apps.{run_app}
use Rattle.crs_words.specs.Commands.{run_in}
use Rattle.crs_words.proofs.Rows.{read_is}
use Rattle.crs_words.proofs.reading.read_run.Goals as goal

pub returns : goal.returns
returns c =
    read_is (λ m. rows_of (found_of m)) run_in (app_of c.in_ok-command.command) run_app (map string_bytes c.args.words.now) c.in_ok-matches.field-0
    c.in-Some.matches _ c.in_ok-matches.ensures c.in_ok-command.ensures c.in-Some.is c.run_of.ensures
