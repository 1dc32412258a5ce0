use Rattle.std.proofs.Common.{List, map, sym, subst}
use Rattle.std.specs.List.{AllZip}
use Rattle.crs_base.specs.declared.symbols.Sym.{Sym}
use Rattle.crs_model.specs.declared.pattern.Term.{Term as CodeTerm}
use Rattle.crs_model.specs.Matching.{TermIs}
use Rattle.crs_model.specs.SeenModels.{term_of, pattern_of}
use Rattle.crs_waiting.proofs.refusing.misses.Goals as goal

pub returns : goal.returns
returns c = λ t look p. c.differ.ensures t look
    (subst (λ (ts : List CodeTerm). AllZip (TermIs look) (map term_of ts) c.as_slice-2.result.now) (sym c.as_slice.ensures)
    (subst (λ (ys : List Sym). AllZip (TermIs look) (pattern_of c.args.pattern.now).terms ys) (sym c.as_slice-2.ensures) p.terms))
