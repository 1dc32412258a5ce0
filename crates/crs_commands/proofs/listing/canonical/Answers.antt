use Rattle.std.proofs.lemmas.Result.{err_from_is_err_and}
use Rattle.crs_model.specs.Renaming.{text_in, renamed_models}
use Rattle.crs_model.specs.SeenModels.{models_of}
use Rattle.crs_outcomes.proofs.Preparing.{compile_faulty, consistent_models, in_time_models}
use Rattle.crs_commands.proofs.listing.canonical.Goals as goal

pub returns-in_err-compile-clause-refused : goal.returns-in_err-compile-clause-refused
returns-in_err-compile-clause-refused c =
    let p = err_from_is_err_and c.from_residual-in_err-compile.result c.from_residual-in_err-compile.ensures.1 in
    rw (p.1, p.2) (compile_faulty c.args.limit c.args.text.now c.in_ok-models.models c.in_ok-models.symbols c.in_ok-models.ensures.ok c.in_err-compile.field-0.0 c.in_err-compile.ensures.refused)

pub returns-clause-ok : goal.returns-clause-ok
returns-clause-ok c =
    let texts = c.in_ok-models.symbols.texts in (
      renamed_models (text_in texts) (models_of c.in_ok-models.models),
      record { texts = texts; read = c.in_ok-models.ensures.ok.read; consistent = consistent_models texts c.in_ok-models.models _ c.in_ok-compile.ensures.chronicles c.in_ok-compile.ensures.plans; in_time = in_time_models c.args.limit c.args.text.now c.in_ok-models.models c.in_ok-models.symbols c.in_ok-models.ensures.ok c.in_ok-compile.ensures.in_time },
      c.in_ok-canonical.ensures,
    )
