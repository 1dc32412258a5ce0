use Rattle.crs_model.specs.SeenModels as view
use Rattle.crs_parse.specs.HeldStatements as held
use Rattle.crs_parse.specs.Meant as meant
use Rattle.crs_model.specs.Renaming as renamed
use Rattle.crs_parse.specs.SeenReading as see
use Rattle.crs_parse.proofs.Pushed.{pushed_step, held_step}
use Rattle.crs_parse.proofs.numbering.chronicles.Goals as goal

pub loop-d-preserved : goal.loop-d-preserved
loop-d-preserved c = record {
  told = pushed_step (renamed.renamed_chronicle (renamed.text_in c.args.symbols.now.texts)) view.chronicle_of meant.chronicle_of see.closed_of
      c.loop-d.out c.push.new.self c.in_ok-chronicle.field-0 c.args.done.now c.d-item.result c.loop-d.d-index _ c.in_ok-push.ensures.ok c.in_ok-chronicle.ensures c.d-item.is c.loop-d-test.true c.loop-d.invariant.told;
  held = held_step (λ d. held.IsHeldChronicle c.args.symbols.now.texts d.1) see.closed_of c.args.done.now c.d-item.result c.loop-d.d-index c.loop-d-test.true c.loop-d.invariant.held;
}
