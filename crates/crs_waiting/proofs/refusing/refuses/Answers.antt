use Rattle.std.proofs.Common.{List, map, sym, subst}
use Rattle.std.specs.List.{AllZip}
use Rattle.crs_base.specs.declared.symbols.Sym.{Sym}
use Rattle.crs_base.specs.Seen.{entry_of}
use Rattle.crs_model.specs.declared.chronicle.Body.{Body as CodeBody}
use Rattle.crs_model.specs.declared.pattern.Term.{Term as CodeTerm}
use Rattle.crs_model.specs.Matching.{TermIs}
use Rattle.crs_model.specs.SeenModels.{term_of, body_of}
use Rattle.crs_waiting.specs.Refusing.{Refuses}
use Rattle.crs_waiting.proofs.Zipped.{hold_refuses}
use Rattle.crs_waiting.proofs.refusing.refuses.Goals as goal

pub returns-else-is_brought : goal.returns-else-is_brought
returns-else-is_brought c = λ t. subst (λ (b : CodeBody). Refuses (body_of b) (entry_of c.args.entry.now)) (sym c.in-Hold.is)
    (hold_refuses _ _ _ (entry_of c.args.entry.now) (λ look z. c.differ.ensures t look
    (subst (λ (ts : List CodeTerm). AllZip (TermIs look) (map term_of ts) c.as_slice-else-is_brought.result.now) (sym c.as_slice.ensures)
    (subst (λ (ys : List Sym). AllZip (TermIs look) (map term_of c.in-Hold.terms) ys) (sym c.as_slice-else-is_brought.ensures) z))))
