use Rattle.std.proofs.Common.{◌∙◌, ap, sym, map, option_map, ◌+◌}
use Rattle.crs_base.specs.Lines.{lines_of}
use Rattle.crs_grammar.specs.SeenStatements as seen
use Rattle.crs_parse.specs.Faults as faults
use Rattle.crs_base.specs.SeenLines.{line_seen}
use Rattle.crs_parse.specs.SeenReading as see
use Rattle.crs_parse.specs.ModelSteps as steps
use Rattle.crs_parse.proofs.Parts.{part_none, part_some, part_refused, moves_along}
use Rattle.crs_parse.specs.Grows.{lines_symbols}
use Rattle.crs_parse.proofs.Grows.{grows_first, grows_rest, grows_then, among_rest, among_own, among_then, if_each}
use Rattle.crs_parse.proofs.models.next_part.Goals as goal

pub returns-in-None-clause-moved : goal.returns-in-None-clause-moved
returns-in-None-clause-moved c =
    part_none c.args.symbols.now.limit c.args.line (map see.name_of c.args.names.now.items) (map see.name_of c.outer_line.new.names.items) (map see.closed_of c.args.done.now.items) (map see.closed_of c.deref.result.now)
    c.args.symbols.now.texts c.outer_line.new.symbols.texts (line_seen c.first_line.result.0) (lines_of c.first_line.result.1.now) (lines_of c.args.text.now) (option_map seen.heading_of c.in-Ok.begun)
    (ap (map see.closed_of) c.deref.ensures.value) c.first_line.ensures.line c.in-Ok.ensures.step (ap (option_map seen.heading_of) c.in-None.is)

pub returns-in-Some-clause-moved : goal.returns-in-Some-clause-moved
returns-in-Some-clause-moved c =
    moves_along _ _ _ _ _
    (λ x. (λ i. faults.after_lines (c.in-Ok.ensures.limit i) x.1 (steps.reading_out (map see.name_of (c.deref-in-Some.ensures.value i)) (map see.closed_of c.closed_chronicle.new.done.items) c.closed_chronicle.new.symbols.texts) (lines_of x.0.now)))
    (part_some c.args.symbols.now.limit c.args.line (map see.name_of c.args.names.now.items) (map see.name_of c.outer_line.new.names.items) (map see.closed_of c.args.done.now.items) (map see.closed_of c.deref.result.now)
    c.args.symbols.now.texts c.outer_line.new.symbols.texts (line_seen c.first_line.result.0) (lines_of c.first_line.result.1.now) (lines_of c.args.text.now) (option_map seen.heading_of c.in-Ok.begun) (seen.heading_of c.in-Some.heading)
    (ap (map see.closed_of) c.deref.ensures.value) c.first_line.ensures.line c.in-Ok.ensures.step (ap (option_map seen.heading_of) c.in-Some.is)
    ∙ sym (λ i. faults.after_lines (c.in-Ok.ensures.limit i) (c.args.line + 1) (steps.reading_in (map see.name_of (c.deref-in-Some.ensures.value i)) (map see.closed_of c.args.done.now.items) (faults.begun (seen.heading_of c.in-Some.heading)) c.outer_line.new.symbols.texts) (lines_of c.first_line.result.1.now)))
    c.closed_chronicle.ensures.moved

pub returns-in-Err-clause-moved : goal.returns-in-Err-clause-moved
returns-in-Err-clause-moved c =
    part_refused c.args.symbols.now.limit c.args.line (map see.name_of c.args.names.now.items) (map see.closed_of c.args.done.now.items) (map see.closed_of c.deref.result.now)
    c.args.symbols.now.texts (line_seen c.first_line.result.0) (lines_of c.first_line.result.1.now) (lines_of c.args.text.now) c.in-Err.e c.refused_at.result
    (ap (map see.closed_of) c.deref.ensures.value) c.first_line.ensures.line c.in-Err.ensures.step c.refused_at.ensures

pub returns-in-Err-clause-grows : goal.returns-in-Err-clause-grows
returns-in-Err-clause-grows c =
    grows_first (line_seen c.first_line.result.0) (lines_of c.first_line.result.1.now) (lines_of c.args.text.now) c.args.symbols.now.texts c.outer_line.new.symbols.texts c.first_line.ensures.line c.in-Err.ensures.grows

pub returns-in-None-clause-grows : goal.returns-in-None-clause-grows
returns-in-None-clause-grows c =
    grows_first (line_seen c.first_line.result.0) (lines_of c.first_line.result.1.now) (lines_of c.args.text.now) c.args.symbols.now.texts c.outer_line.new.symbols.texts c.first_line.ensures.line c.in-Ok.ensures.grows

pub returns-in-None-clause-rest : goal.returns-in-None-clause-rest
returns-in-None-clause-rest c = among_rest (line_seen c.first_line.result.0) (lines_of c.first_line.result.1.now) (lines_of c.args.text.now) (lines_of c.args.text.now) c.first_line.ensures.line (among_own (lines_of c.args.text.now))

pub returns-in-Some-clause-grows : goal.returns-in-Some-clause-grows
returns-in-Some-clause-grows c =
    grows_then (lines_symbols (lines_of c.args.text.now)) c.args.symbols.now.texts c.outer_line.new.symbols.texts c.closed_chronicle.new.symbols.texts
    (grows_first (line_seen c.first_line.result.0) (lines_of c.first_line.result.1.now) (lines_of c.args.text.now) c.args.symbols.now.texts c.outer_line.new.symbols.texts c.first_line.ensures.line c.in-Ok.ensures.grows)
    (grows_rest (line_seen c.first_line.result.0) (lines_of c.first_line.result.1.now) (lines_of c.args.text.now) c.outer_line.new.symbols.texts c.closed_chronicle.new.symbols.texts c.first_line.ensures.line c.closed_chronicle.ensures.grows)

pub returns-in-Some-clause-rest : goal.returns-in-Some-clause-rest
returns-in-Some-clause-rest c =
    if_each _ _ c.closed_chronicle.result
    (λ x h. among_then (lines_of x.0.now) (lines_of c.first_line.result.1.now) (lines_of c.args.text.now) h
    (among_rest (line_seen c.first_line.result.0) (lines_of c.first_line.result.1.now) (lines_of c.args.text.now) (lines_of c.args.text.now) c.first_line.ensures.line (among_own (lines_of c.args.text.now))))
    c.closed_chronicle.ensures.rest
