use Rattle.std.proofs.Common.{◌≡◌, ◌++◌, List, ℕ, true, [], length}
use Rattle.crs_log.specs.Reading.{Given, ahead}
use Rattle.crs_layers.specs.Runs.{State}
use Rattle.crs_session.specs.Session.{Represents, IsReady}
use Rattle.crs_session.specs.Taking.{Takes}
use Rattle.crs_frames.specs.Frames.{Frame}
use Rattle.crs_session.proofs.pieces.take_lines.Given as goal

abbrev pub invariant-loop-line : goal.invariant-loop-line
invariant-loop-line l = record {
  told : List Given;
  ready : IsReady l.session;
  limit : l.lines.limit ≡ l.fn.lines.limit;
  finished : l.lines.finished ≡ l.fn.lines.finished;
  fed : l.lines.fed ≡ l.fn.lines.fed;
  ahead_is : (m : List ℕ) → (l.fn.lines.finished ≡ true → m ≡ []) → ahead l.fn.lines m ≡ told ++ ahead l.lines m;
  takes : (f : Frame) (s : State) → Represents f l.fn.session s
      → Takes f l.fn.session.layers.focus l.fn.session.counts l.session s told l.fn.out l.out;
}

abbrev pub decreases-loop-line : goal.decreases-loop-line
decreases-loop-line l = length l.lines.rest
