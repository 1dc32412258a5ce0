-- What the program's state of a reading is.
use Rattle.std.specs.Prelude.{ℕ, List, map, Option, option_map, Vec}
use Rattle.std.proofs.Common.{Global, Bor}
use Rattle.crs_parse.specs.declared.builder.Kind.{Kind as CodeKind}
use Rattle.crs_parse.specs.declared.builder.Kind.TheVariants as kinds
use Rattle.crs_parse.specs.declared.builder.Name.{Name as CodeName}
use Rattle.crs_parse.specs.declared.builder.VariableSet.{VariableSet as CodeSet}
use Rattle.crs_parse.specs.declared.builder.Written.{Written as CodeWritten}
use Rattle.crs_parse.specs.declared.builder.Closed.{Closed as CodeClosed}
use Rattle.crs_parse.specs.declared.builder.Reading.{Reading as CodeReading}
use Rattle.crs_parse.specs.Faults.{Kind, OfMessage, OfAttribute, OfDerived, Name, Written, Reading}
use Rattle.crs_grammar.specs.SeenStatements.{event_of, distance_of, window_of, emission_of}

abbrev pub values_of : Option (Vec (Bor (List ℕ)) Global) → Option (List (List ℕ))
values_of values = option_map (λ vs. map (λ v. v.now) vs.items) values

abbrev pub kind_of : CodeKind → Kind
kind_of kinds.Message = OfMessage
kind_of (kinds.Attribute values) = OfAttribute (values_of values)
kind_of kinds.Derived = OfDerived

abbrev pub name_of : CodeName → Name
name_of n = record { name = n.name.now; arity = n.arity; kind = kind_of n.kind }

abbrev pub set_of : CodeSet → List ℕ × List (List ℕ)
set_of s = (s.variable.now, map (λ v. v.now) s.values.items)

abbrev pub written_of : CodeWritten → Written
written_of c = record {
  name = c.name.now;
  prompt = c.prompt;
  events = map event_of c.events.items;
  variables = map (λ x. x.now) c.variables.items;
  free = map (λ x. x.now) c.free.items;
  bounds = map distance_of c.bounds.items;
  sets = map set_of c.sets.items;
  differs = map (λ d. (d.0.now, d.1.now)) c.differs.items;
  windows = map window_of c.windows.items;
  emits = map emission_of c.emits.items;
}

abbrev pub closed_of : CodeClosed → ℕ × Written
closed_of c = (c.line, written_of c.chronicle)

-- with the texts of a table beside it
abbrev pub reading_of : List (List ℕ) → CodeReading → Reading
reading_of texts r = record { names = map name_of r.names.items; done = map closed_of r.done.items; current = option_map written_of r.current; texts = texts }
