use Rattle.std.proofs.Common.{◌≡◌, ◌≤◌, ◌<◌, ◌+◌, ◌-◌, true, ℕ, List, length, set, cond}
use Rattle.crs_desk.specs.Desk.{Told}
use Rattle.crs_rounds.specs.declared.source.Source.{Source}
use Rattle.crs_rounds.specs.MergedSession.{IsReadyMerged, feeds_of}
use Rattle.crs_rounds.specs.Sources.{AreAt, IsSourceAt, source_at}
use Rattle.crs_frames.specs.Frames.{Frame}
use Rattle.crs_rounds.proofs.rounds.take_turn.Given as goal

abbrev pub invariant-loop-desk : goal.invariant-loop-desk
invariant-loop-desk g l =
    let d = g.D.Desk in
    record {
      inputs : d.inputs l.desk ≡ d.inputs l.fn.desk;
      reading : d.in_faults l.fn.desk ≤ d.in_faults l.desk;
      writing : d.out_faults l.fn.desk ≤ d.out_faults l.desk;
      ready : IsReadyMerged l.session;
      count : feeds_of l.session ≡ feeds_of l.fn.session;
      some : (k : ℕ) × IsSourceAt (d.inputs l.fn.desk) l.limit k l.source;
      place : (k : ℕ) → IsSourceAt (d.inputs l.fn.desk) l.limit k l.fn.source → IsSourceAt (d.inputs l.fn.desk) l.limit k l.source;
      told : d.tells ≡ true → (f : Frame) (base : ℕ) (old : Told) (names : List (List ℕ)) (round : ℕ) (ss : List Source) → l.feed < length names
          → source_at ss l.feed ≡ l.fn.source → AreAt f base l.limit old names round l.feed ss l.fn.session l.fn.out.items (d.told l.fn.desk)
          → AreAt f base l.limit old names round l.feed (set ss l.feed l.source) l.session l.out.items (d.told l.desk);
    }

abbrev pub decreases-loop-desk : goal.decreases-loop-desk
decreases-loop-desk g l = (l.limit - l.source.taken) + cond l.source.finished 0 1
