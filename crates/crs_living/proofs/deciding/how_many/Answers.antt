use Rattle.std.proofs.Common.{arith, ap, length}
use Rattle.crs_living.proofs.deciding.how_many.Goals as goal

pub bounds-as_slice-event : goal.bounds-as_slice-event
bounds-as_slice-event c =
    let a = c.requires.event in
    let d = ap length c.as_slice.ensures in omega arith

pub date_window-window-requires : goal.date_window-window-requires
date_window-window-requires c =
    let a = c.requires.event in
    let d = c.requires.next.window_count in
    let e = c.requires.scan.proper.points in omega arith
