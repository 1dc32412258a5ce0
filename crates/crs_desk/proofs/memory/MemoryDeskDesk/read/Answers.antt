use Rattle.std.proofs.Common.{rules, arith, refl, ap, ℕ, List}
use Rattle.std.proofs.lemmas.Grind.{common_steps}
use Rattle.crs_desk.specs.Memory.{memory_schedule, stream_of}
use Rattle.crs_desk.proofs.Inputs.{stream_is, reads_is, streams_kept, reads_once, read_on, comes}
use Rattle.crs_desk.proofs.memory.MemoryDeskDesk.read.Goals as goal

pub returns-then-fails-clause-told : goal.returns-then-fails-clause-told
returns-then-fails-clause-told c =
    let at = stream_is stream_of c.args.self.now.inputs.items c.args.input c.index_mut-from.result.now c.requires.opened c.index_mut-from.ensures.value in
    record {
      files = refl;
      opened = refl;
      bytes = streams_kept c.args.self.now.inputs.items c.args.input c.index_mut-from.result.now _ c.requires.opened c.index_mut-from.ensures.value refl;
      written = refl;
      turns = rw at (search rules);
    }

pub returns-then-fails-clause-fails : goal.returns-then-fails-clause-fails
returns-then-fails-clause-fails c =
    let at = reads_is c.args.self.now.inputs.items c.args.input c.index_mut-from.result.now c.requires.opened c.index_mut-from.ensures.value in
    rw at (search rules)

pub returns-then-fails-clause-schedule : goal.returns-then-fails-clause-schedule
returns-then-fails-clause-schedule c =
    ap (λ (r : List (List ℕ × ℕ)). record (memory_schedule c.args.self.now) { reads = r })
    (reads_once c.args.self.now.inputs.items c.args.input c.index_mut-from.result.now _ c.requires.opened c.index_mut-from.ensures.value (ap (λ n. (c.index_mut-from.result.now.name.items, n)) c.saturating_add-call.ensures))

pub returns-clause-told : goal.returns-clause-told
returns-clause-told c =
    let at = stream_is stream_of c.args.self.now.inputs.items c.args.input c.index_mut-from.result.now c.requires.opened c.index_mut-from.ensures.value in
    record {
      files = refl;
      opened = refl;
      bytes = comes stream_of _ c.args.self.now.inputs.items c.args.input c.moved-count.result c.index_mut-from.result.now _ _ c.copy_from_slice.new.self _ _
          refl refl at (read_on _ _ _) (grind (arith, common_steps)) refl (grind (arith, common_steps)) (grind (arith, common_steps));
      written = refl;
      turns = rw at (search rules);
    }

pub returns-clause-fails : goal.returns-clause-fails
returns-clause-fails c =
    let at = reads_is c.args.self.now.inputs.items c.args.input c.index_mut-from.result.now c.requires.opened c.index_mut-from.ensures.value in
    rw at (search rules)

pub returns-clause-schedule : goal.returns-clause-schedule
returns-clause-schedule c =
    ap (λ (r : List (List ℕ × ℕ)). record (memory_schedule c.args.self.now) { reads = r })
    (reads_once c.args.self.now.inputs.items c.args.input c.index_mut-from.result.now _ c.requires.opened c.index_mut-from.ensures.value (ap (λ n. (c.index_mut-from.result.now.name.items, n)) c.saturating_add-call.ensures))
