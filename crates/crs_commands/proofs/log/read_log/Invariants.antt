use Rattle.std.proofs.Common.{◌≡◌, ◌≤◌, ◌-◌, true, false, map}
use Rattle.crs_session.specs.Session.{IsReady, Represents}
use Rattle.crs_frames.specs.Frames.{Frame}
use Rattle.crs_session.specs.Texts.{start_of}
use Rattle.crs_commands.proofs.LogReading.{Reading}
use Rattle.crs_commands.proofs.log.read_log.Given as goal

abbrev pub invariant-loop-taken : goal.invariant-loop-taken
invariant-loop-taken g l =
    let d = g.D.Desk in
    record {
      inputs : d.inputs l.desk ≡ d.inputs l.fn.desk;
      reading : d.in_faults l.fn.desk ≤ d.in_faults l.desk;
      writing : d.out_faults l.fn.desk ≤ d.out_faults l.desk;
      within : l.taken ≤ l.limit;
      ready : IsReady l.session;
      short : l.lines.limit ≡ 4096;
      open_still : l.lines.finished ≡ false;
      fed : l.lines.fed ≡ l.taken;
      told : d.tells ≡ true → (f : Frame) → Represents f l.fn.session (start_of f) → Reading l.fn.session.layers.focus
          (map (λ b. ((goal.Listener-dyn g (b.vtable, b.value)).kind b.value, (goal.Listener-dyn g (b.vtable, b.value)).figures b.value)) l.fn.listeners.items)
          (map (λ b. ((goal.Listener-dyn g (b.vtable, b.value)).kind b.value, (goal.Listener-dyn g (b.vtable, b.value)).figures b.value)) l.listeners.items) f (d.told l.fn.desk) l.fn.log l.limit l.taken l.session l.lines (d.told l.desk);
    }

abbrev pub decreases-loop-taken : goal.decreases-loop-taken
decreases-loop-taken g l = l.limit - l.taken
