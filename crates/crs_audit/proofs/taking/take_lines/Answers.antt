use Rattle.std.proofs.Common.{rules, ◌≡◌, refl, sym, subst, inr, List, [], ◌∷◌, length, ℕ}
use Rattle.crs_base.specs.Lines.{Line, lines_of}
use Rattle.crs_base.specs.Words.{IsIn}
use Rattle.crs_audit.specs.Runs.{ReadsOn}
use Rattle.crs_audit.proofs.Gaining.{gained_next}
use Rattle.crs_audit.proofs.Reading.{reads_next}
use Rattle.crs_audit.proofs.taking.take_lines.Goals as goal

pub take_line-requires : goal.take_line-requires
take_line-requires c =
    let r = c.loop-rest.invariant.reads c.requires.setting c.requires.fits in
    record { setting = c.requires.setting; fits = r.setting; sound = r.sound }

pub loop-rest-preserved : goal.loop-rest-preserved
loop-rest-preserved c = record {
  reads = λ s fits.
      let r = c.loop-rest.invariant.reads s fits in
      reads_next s c.args.names.now c.args.limit c.args.symbols.now c.loop-rest.symbols c.take_line.new.symbols c.loop-rest.run c.take_line.new.run
      (lines_of c.args.log.now) (lines_of c.first_line.result.1.now) (lines_of c.loop-rest.rest.now) _ c.first_line.ensures.line r (c.in_ok-take_line.ensures.taken s r.setting r.sound);
  gains = gained_next c.args.log.now c.loop-rest.rest.now c.first_line.result.1.now c.first_line.ensures.line c.args.symbols.now c.loop-rest.symbols c.take_line.new.symbols
      c.loop-rest.invariant.among c.loop-rest.invariant.gains c.take_line.ensures.gained;
  among = λ x i. c.loop-rest.invariant.among x (subst (IsIn x) (sym c.first_line.ensures.line) (inr i));
}

none_left : (bs : List ℕ) → length bs ≡ 0 → lines_of bs ≡ []
none_left [] e = refl
none_left (b ∷ bs) e = absurd cc

pub returns-clause-read : goal.returns-clause-read
returns-clause-read c = λ s fits.
    let none : length c.loop-rest.rest.now ≡ 0 = search rules in
    subst (ReadsOn s c.args.names.now c.args.limit c.args.symbols.now c.loop-rest.symbols c.loop-rest.run (lines_of c.args.log.now)) (none_left c.loop-rest.rest.now none)
    (c.loop-rest.invariant.reads s fits)

pub returns-in_err-take_line-clause-gained : goal.returns-in_err-take_line-clause-gained
returns-in_err-take_line-clause-gained c =
    gained_next c.args.log.now c.loop-rest.rest.now c.first_line.result.1.now c.first_line.ensures.line c.args.symbols.now c.loop-rest.symbols c.take_line.new.symbols
    c.loop-rest.invariant.among c.loop-rest.invariant.gains c.take_line.ensures.gained
