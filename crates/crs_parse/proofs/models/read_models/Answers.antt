use Rattle.std.proofs.Common.{sym, subst}
use Rattle.crs_base.specs.Lines.{lines_of}
use Rattle.crs_model.specs.SeenModels as view
use Rattle.crs_parse.specs.HeldStatements.{IsHeldReading}
use Rattle.crs_model.specs.ProperModels.{AreProper}
use Rattle.crs_parse.specs.SeenReading as see
use Rattle.crs_parse.proofs.Apart.{read_apart}
use Rattle.crs_parse.proofs.HeldReading.{lines_read}
use Rattle.crs_parse.proofs.Numbered.{numbered_in}
use Rattle.crs_parse.proofs.ProperBack.{proper_in}
use Rattle.crs_parse.proofs.Properly.{reading_proper}
use Rattle.crs_parse.proofs.SoundReading.{read_sound}
use Rattle.crs_parse.proofs.models.read_models.Goals as goal

pub models-requires : goal.models-requires
models-requires c = lines_read c.args.symbols.now.limit 1 c.args.symbols.now.texts (see.reading_of c.read_all.new.symbols.texts c.in_ok-reading.reading) (lines_of c.args.text.now) c.in_ok-reading.ensures.read

pub returns-clause-numbered : goal.returns-clause-numbered
returns-clause-numbered c =
    numbered_in c.read_all.new.symbols.texts (see.reading_of c.read_all.new.symbols.texts c.in_ok-reading.reading) (view.models_of c.in_ok-models.models)
    (lines_read c.args.symbols.now.limit 1 c.args.symbols.now.texts (see.reading_of c.read_all.new.symbols.texts c.in_ok-reading.reading) (lines_of c.args.text.now) c.in_ok-reading.ensures.read) c.in_ok-models.ensures

pub returns-clause-proper : goal.returns-clause-proper
returns-clause-proper c =
    let held : IsHeldReading c.read_all.new.symbols.texts (see.reading_of c.read_all.new.symbols.texts c.in_ok-reading.reading) =
    lines_read c.args.symbols.now.limit 1 c.args.symbols.now.texts (see.reading_of c.read_all.new.symbols.texts c.in_ok-reading.reading) (lines_of c.args.text.now) c.in_ok-reading.ensures.read in
    proper_in c.read_all.new.symbols.texts (view.models_of c.in_ok-models.models) c.len.ensures.distinct
    (numbered_in c.read_all.new.symbols.texts (see.reading_of c.read_all.new.symbols.texts c.in_ok-reading.reading) (view.models_of c.in_ok-models.models) held c.in_ok-models.ensures)
    (subst AreProper (sym c.in_ok-models.ensures)
    (reading_proper c.read_all.new.symbols.texts (see.reading_of c.read_all.new.symbols.texts c.in_ok-reading.reading) held
    (read_sound c.args.symbols.now.limit 1 c.args.symbols.now.texts (see.reading_of c.read_all.new.symbols.texts c.in_ok-reading.reading) (lines_of c.args.text.now) c.in_ok-reading.ensures.read)
    (read_apart c.args.symbols.now.limit 1 c.args.symbols.now.texts (see.reading_of c.read_all.new.symbols.texts c.in_ok-reading.reading) (lines_of c.args.text.now) c.in_ok-reading.ensures.read)))
