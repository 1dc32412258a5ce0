use Rattle.std.proofs.Common.{◌≡◌, ◌≤◌, ◌+◌, true, map, take}
use Rattle.crs_rounds.specs.Opening.{HaveOpened}
use Rattle.crs_rounds.specs.Sources.{new_sources}
use Rattle.crs_rounds.proofs.sources.open_all.Given as goal

abbrev pub invariant-loop-name : goal.invariant-loop-name
invariant-loop-name g l =
    let d = g.D.Desk in
    record {
      inputs : d.inputs l.desk ≡ d.inputs l.fn.desk + l.name-index;
      reading : d.in_faults l.fn.desk ≤ d.in_faults l.desk;
      writing : d.out_faults l.fn.desk ≤ d.out_faults l.desk;
      sources : l.sources.items ≡ new_sources (d.inputs l.fn.desk) (take l.name-index (map (λ n. n.now) l.names));
      told : d.tells ≡ true → HaveOpened (d.told l.fn.desk) (take l.name-index (map (λ n. n.now) l.names)) (d.told l.desk);
    }
