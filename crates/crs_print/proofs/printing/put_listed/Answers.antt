use Rattle.crs_model.specs.Renaming as renamed
use Rattle.crs_print.specs.Said as said
use Rattle.crs_print.proofs.Listed.{symbols_step}
use Rattle.crs_print.proofs.printing.put_listed.Goals as goal

pub returns : goal.returns
returns c = symbols_step (renamed.text_in c.args.symbols.now.texts c.args.first) c.text.result.now
    (said.texts_of c.args.symbols.now.texts c.args.rest.now) _ _ _ c.text.ensures c.in_ok-push_bytes.ensures c.in_ok-put_more_values.ensures
