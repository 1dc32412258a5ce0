use Rattle.std.proofs.Common.{◌≡◌, map, drop}
use Rattle.crs_desk.specs.FailingCalls.{is_failing_read}
use Rattle.crs_desk.specs.FailingRead.{call_of}
use Rattle.crs_desk.proofs.schedule.is_failing.Given as goal

abbrev pub invariant-loop-read : goal.invariant-loop-read
invariant-loop-read l = is_failing_read (map call_of l.reads) l.name l.call ≡ is_failing_read (map call_of (drop l.read-index l.reads)) l.name l.call
