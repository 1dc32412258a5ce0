use Rattle.std.proofs.Common.{◌<◌, ◌∙◌, sym, subst, length}
use Rattle.crs_base.specs.Symbols.{with_text, text_at}
use Rattle.crs_log.proofs.Added.{placed}
use Rattle.crs_log.proofs.entries.adding.intern_one.Goals as goal

pub returns-in-Ok-clause-number : goal.returns-in-Ok-clause-number
returns-in-Ok-clause-number c = (λ i. text_at (c.in-Ok.ensures.ok i) (c.in-Ok.ensures.number i)) ∙ (placed c.args.symbols.now.texts c.args.text.now).1

pub returns-in-Ok-clause-within : goal.returns-in-Ok-clause-within
returns-in-Ok-clause-within c = subst (λ T. c.in-Ok.s.0 < length T) (sym c.in-Ok.ensures.ok) (subst (λ n. n < length (with_text c.args.symbols.now.texts c.args.text.now)) (sym c.in-Ok.ensures.number) (placed c.args.symbols.now.texts c.args.text.now).0)
