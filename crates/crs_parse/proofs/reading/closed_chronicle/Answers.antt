use Rattle.std.proofs.Common.{◌∙◌, sym, subst, ap, map}
use Rattle.std.proofs.lemmas.List.{map-append}
use Rattle.crs_base.specs.Lines.{lines_of}
use Rattle.crs_grammar.specs.SeenStatements as seen
use Rattle.crs_parse.specs.Faults as faults
use Rattle.crs_parse.specs.SeenReading as see
use Rattle.crs_parse.specs.ModelSteps.{HaltsWith, until_close}
use Rattle.crs_parse.proofs.Folds.{chronicle_ok, chronicle_err}
use Rattle.crs_parse.proofs.Premises.{is_inside_read}
use Rattle.crs_parse.proofs.reading.closed_chronicle.Goals as goal

pub returns-in-Ok-push-clause-moved : goal.returns-in-Ok-push-clause-moved
returns-in-Ok-push-clause-moved c =
    chronicle_ok is_inside_read c.args.symbols.now.limit (map see.name_of c.args.names.now) (map see.closed_of c.args.done.now.items) (lines_of c.args.text.now) c.args.line
    (faults.begun (seen.heading_of c.args.heading)) (see.written_of c.begin-c.result) c.args.symbols.now.texts
    (record { chronicle = see.written_of c.read_chronicle.new.c; texts = c.read_chronicle.new.symbols.texts; line = c.in-Ok.last; rest = lines_of c.in-Ok.rest.now })
    (map see.closed_of c.push.new.self.items) c.requires.within c.begin-c.ensures
    (sym (ap (λ ds. until_close c.args.symbols.now.limit (map see.name_of c.args.names.now) (map see.closed_of ds) c.args.line (see.written_of c.begin-c.result) c.args.symbols.now.texts (lines_of c.args.text.now)) c.deref.ensures.value) ∙ c.in-Ok.ensures.closing)
    (ap (map see.closed_of) c.in-Ok-push.ensures.items ∙ map-append see.closed_of c.args.done.now.items _)

pub returns-clause-moved : goal.returns-clause-moved
returns-clause-moved c =
    chronicle_err is_inside_read c.args.symbols.now.limit (map see.name_of c.args.names.now) (map see.closed_of c.args.done.now.items) (lines_of c.args.text.now) c.args.line
    (faults.begun (seen.heading_of c.args.heading)) (see.written_of c.begin-c.result) c.args.symbols.now.texts c.in-Err.e c.requires.within c.begin-c.ensures
    (subst (HaltsWith c.in-Err.e) (ap (λ ds. until_close c.args.symbols.now.limit (map see.name_of c.args.names.now) (map see.closed_of ds) c.args.line (see.written_of c.begin-c.result) c.args.symbols.now.texts (lines_of c.args.text.now)) c.deref.ensures.value) c.in-Err.ensures.closing)
