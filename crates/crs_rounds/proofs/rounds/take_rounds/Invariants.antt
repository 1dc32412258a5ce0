use Rattle.std.proofs.Common.{◌≡◌, ◌≤◌, ◌-◌, true, ℕ, List, length}
use Rattle.crs_desk.specs.Desk.{Told}
use Rattle.crs_rounds.specs.MergedSession.{IsReadyMerged, feeds_of}
use Rattle.crs_rounds.specs.Sources.{AreAt, AreSourcesAt}
use Rattle.crs_frames.specs.Frames.{Frame}
use Rattle.crs_rounds.proofs.rounds.take_rounds.Given as goal

abbrev pub invariant-loop-some : goal.invariant-loop-some
invariant-loop-some g l =
    let d = g.D.Desk in
    record {
      inputs : d.inputs l.desk ≡ d.inputs l.fn.desk;
      reading : d.in_faults l.fn.desk ≤ d.in_faults l.desk;
      writing : d.out_faults l.fn.desk ≤ d.out_faults l.desk;
      ready : IsReadyMerged l.session;
      count : length l.sources.items ≡ feeds_of l.session;
      few : length l.sources.items ≤ 8;
      low : l.round ≤ l.limit;
      places : AreSourcesAt (d.inputs l.fn.desk) l.limit l.round 0 l.sources.items;
      told : d.tells ≡ true → (f : Frame) (base : ℕ) (old : Told) (names : List (List ℕ))
          → AreAt f base l.limit old names 0 0 l.fn.sources.items l.fn.session l.fn.out.items (d.told l.fn.desk)
          → AreAt f base l.limit old names l.round 0 l.sources.items l.session l.out.items (d.told l.desk);
    }

abbrev pub decreases-loop-some : goal.decreases-loop-some
decreases-loop-some g l = l.limit - l.round
