use Rattle.std.proofs.Common.{arith}
use Rattle.crs_waiting.proofs.dues.put_first.Goals as goal

pub date_window-requires : goal.date_window-requires
date_window-requires c =
    let points = c.plan-plan.ensures.is.proper.points in
    let long = c.requires.of.len in
    let windows = c.requires.of.window_count in
    let within = c.requires.event in omega arith
