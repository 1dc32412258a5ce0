use Rattle.std.proofs.Common.{length, false, ◌≡◌, ◌+◌}
use Rattle.crs_session.specs.Session.{IsReady}
use Rattle.crs_commands.proofs.Summing.{HasTaken}
use Rattle.crs_commands.proofs.drilling.take_log.Given as goal

abbrev pub invariant-loop-rest : goal.invariant-loop-rest
invariant-loop-rest l = record {
  ready : IsReady l.session;
  short : l.lines.limit ≡ 4096;
  open_still : l.lines.finished ≡ false;
  fed : l.lines.fed + length l.rest ≡ length l.fn.log;
  taken : HasTaken l.fn.log l.rest l.fn.session l.lines l.session;
}

abbrev pub decreases-loop-rest : goal.decreases-loop-rest
decreases-loop-rest l = length l.rest
