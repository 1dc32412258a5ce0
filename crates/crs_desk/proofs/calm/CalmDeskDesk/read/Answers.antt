use Rattle.std.proofs.Common.{rules, arith, refl}
use Rattle.std.proofs.lemmas.Grind.{common_steps}
use Rattle.crs_desk.specs.Calm.{stream_of}
use Rattle.crs_desk.proofs.Inputs.{stream_is, read_on, comes}
use Rattle.crs_desk.proofs.calm.CalmDeskDesk.read.Goals as goal

pub returns-clause-told : goal.returns-clause-told
returns-clause-told c =
    let at = stream_is stream_of c.args.self.now.sources.items c.args.input c.index_mut-from.result.now c.requires.opened
    c.index_mut-from.ensures.value in
    record {
      files = refl;
      opened = refl;
      bytes = comes stream_of _ c.args.self.now.sources.items c.args.input c.moved-count.result
          c.index_mut-from.result.now _ _ c.copy_from_slice.new.self _ _ refl refl at (read_on _ _ _)
          (grind (arith, common_steps)) refl (grind (arith, common_steps)) (grind (arith, common_steps));
      written = refl;
      turns = rw at (search rules);
    }
