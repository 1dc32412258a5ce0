use Rattle.std.proofs.Common.{map, string_bytes}
use Rattle.clap.specs.Words.{app_of}
use Rattle.crs_words.proofs.Rows.{found_is}
use Rattle.crs_words.proofs.reading.matches_of.Goals as goal

pub returns-in-Ok : goal.returns-in-Ok
returns-in-Ok c =
    found_is (app_of c.args.command) (map string_bytes c.args.words.now) c.in-Ok.matches c.requires c.in-Ok.ensures.matches
    (c.in-Ok.ensures.kinds c.requires)
