use Rattle.crs_model.specs.Renaming as renamed
use Rattle.crs_model.specs.SeenModels as view
use Rattle.crs_print.specs.CanonicalText as from
use Rattle.crs_print.specs.Said as said
use Rattle.crs_print.proofs.Grown.{grown_step}
use Rattle.crs_parse.proofs.Pushed.{held_step}
use Rattle.crs_print.proofs.printing.put_chronicles.Goals as goal

pub loop-c-preserved : goal.loop-c-preserved
loop-c-preserved c = record {
  told = grown_step (renamed.renamed_chronicle (renamed.text_in c.args.symbols.now.texts)) view.chronicle_of from.chronicle_from c.args.chronicles.now c.c-item.result c.loop-c.c-index
      c.loop-c.out.items c.put_chronicle.new.out.items _ c.in_ok-put_chronicle.ensures c.c-item.is c.loop-c-test.true c.loop-c.invariant.told;
  has = held_step (renamed.IsChronicleOf (said.Has c.args.symbols.now.texts)) view.chronicle_of c.args.chronicles.now c.c-item.result c.loop-c.c-index c.loop-c-test.true c.loop-c.invariant.has;
}
