use Rattle.std.proofs.Common.{rules}
use Rattle.crs_model.specs.Matching.{TermIs}
use Rattle.crs_model.specs.SeenModels.{term_of}
use Rattle.crs_waiting.proofs.Zipped.{zip_get}
use Rattle.crs_waiting.proofs.refusing.differ.Goals as goal

pub returns-then-differs : goal.returns-then-differs
returns-then-differs c = λ t look z. c.differs.ensures c.if-differs.true look (zip_get term_of (TermIs look) c.args.terms.now c.args.symbols.now c.loop-i.i _ _ (search rules) (search rules) z)
