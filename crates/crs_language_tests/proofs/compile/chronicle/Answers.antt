use Rattle.std.proofs.Common.{refl}
use Rattle.crs_compile.proofs.Plain.{near_proper, near_printable}
use Rattle.crs_language_tests.proofs.compile.chronicle.Goals as goal

pub returns-clause-proper : goal.returns-clause-proper
returns-clause-proper c = near_proper c.args.names.now _ (record {
  name = refl;
  names_two = record { symbols = c.requires.symbols; plain = c.requires.plain };
  symbols = (c.in_ok-two_events.ensures {u = tt}).symbols;
  points = (c.in_ok-two_events.ensures {u = tt}).points;
  levels = (c.in_ok-two_events.ensures {u = tt}).levels;
  plain = (c.in_ok-two_events.ensures {u = tt}).plain;
  free = c.in_ok-one_point.ensures {u = tt};
  variables = c.new.ensures;
  sets = c.new-2.ensures;
  differs = c.new-3.ensures;
  emits = c.new-4.ensures;
  few = rw (c.in_ok-listed.ensures {u = tt}) c.requires.few;
  bounds = rw (c.in_ok-listed.ensures {u = tt}) c.requires.bounds;
  windows_few = c.requires.windows_few;
  windows = c.requires.windows;
})

pub returns-clause-printable : goal.returns-clause-printable
returns-clause-printable c = near_printable c.args.names.now _ (record {
  name = refl;
  names_two = record { symbols = c.requires.symbols; plain = c.requires.plain };
  symbols = (c.in_ok-two_events.ensures {u = tt}).symbols;
  points = (c.in_ok-two_events.ensures {u = tt}).points;
  levels = (c.in_ok-two_events.ensures {u = tt}).levels;
  plain = (c.in_ok-two_events.ensures {u = tt}).plain;
  free = c.in_ok-one_point.ensures {u = tt};
  variables = c.new.ensures;
  sets = c.new-2.ensures;
  differs = c.new-3.ensures;
  emits = c.new-4.ensures;
  few = rw (c.in_ok-listed.ensures {u = tt}) c.requires.few;
  bounds = rw (c.in_ok-listed.ensures {u = tt}) c.requires.bounds;
  windows_few = c.requires.windows_few;
  windows = c.requires.windows;
})
