-- What the program's lines are.
use Rattle.crs_base.specs.declared.lines.RawLine.{RawLine}
use Rattle.crs_base.specs.Lines.{Line}

abbrev pub line_seen : RawLine → Line
line_seen l = record { raw = l.raw.now; ended = l.ended }
