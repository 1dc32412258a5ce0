use Rattle.std.proofs.Common.{◌≡◌, ◌≤◌, ◌<◌, ◌-◌, true, false, ℕ, List, [], length, get_or, map}
use Rattle.crs_desk.specs.Desk.{Told}
use Rattle.crs_outcomes.specs.Inputs.{bytes_of}
use Rattle.crs_rounds.specs.MergedSession.{IsReadyMerged, feeds_of}
use Rattle.crs_rounds.specs.Sources.{AreAt, AreSourcesAt, IsSpent, source_at}
use Rattle.crs_frames.specs.Frames.{Frame}
use Rattle.crs_rounds.proofs.rounds.take_round.Given as goal

abbrev pub invariant-loop-feed : goal.invariant-loop-feed
invariant-loop-feed g l =
    let d = g.D.Desk in
    record {
      inputs : d.inputs l.desk ≡ d.inputs l.fn.desk;
      reading : d.in_faults l.fn.desk ≤ d.in_faults l.desk;
      writing : d.out_faults l.fn.desk ≤ d.out_faults l.desk;
      ready : IsReadyMerged l.session;
      count : feeds_of l.session ≡ feeds_of l.fn.session;
      long : length l.sources.items ≡ length l.fn.sources.items;
      within : l.feed ≤ length l.sources.items;
      some_at : (k : ℕ) × AreSourcesAt (d.inputs l.fn.desk) l.limit k l.feed l.sources.items;
      places : (k : ℕ) → AreSourcesAt (d.inputs l.fn.desk) l.limit k 0 l.fn.sources.items
          → AreSourcesAt (d.inputs l.fn.desk) l.limit k l.feed l.sources.items × (l.some ≡ true → k < l.limit);
      told : d.tells ≡ true → (f : Frame) (base : ℕ) (old : Told) (names : List (List ℕ)) (round : ℕ)
          → AreAt f base l.limit old names round 0 l.fn.sources.items l.fn.session l.fn.out.items (d.told l.fn.desk)
          → AreAt f base l.limit old names round l.feed l.sources.items l.session l.out.items (d.told l.desk)
          × (l.some ≡ false → (j : ℕ) → j < l.feed → IsSpent round (get_or (map (bytes_of old) names) j []) (source_at l.sources.items j));
    }

abbrev pub decreases-loop-feed : goal.decreases-loop-feed
decreases-loop-feed g l = length l.sources.items - l.feed
