-- A read that fails.
use Rattle.std.specs.Prelude.{ℕ, List}
use Rattle.crs_desk.specs.declared.schedule.FailingRead.{FailingRead}

abbrev pub call_of : FailingRead → List ℕ × ℕ
call_of f = (f.name.items, f.call)
