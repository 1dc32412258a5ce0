-- What clauses see of a record's fields and of a line.
use Rattle.std.specs.Prelude.{option_map}
use Rattle.crs_import.specs.Records.{Fields, Line, Event, Clock, Delay, End, args_of}
use Rattle.crs_import.specs.declared.rows.Row.{Row}
use Rattle.crs_import.specs.declared.rows.Statement.{Statement}
use Rattle.crs_import.specs.declared.rows.Statement.TheVariants as s

abbrev pub fields_seen : Row → Fields
fields_seen r = record { what = r.what.now; date = r.date.now; name = r.name.now; args = r.args.now; old = r.old.now; new = r.new.now }

abbrev pub line_seen : Statement → Line
line_seen (s.Event date name args change) = Event date name.now (args_of args.now) (option_map (λ c. (c.0.now, c.1.now)) change)
line_seen (s.Clock date) = Clock date
line_seen (s.Delay date) = Delay date
line_seen s.End = End
