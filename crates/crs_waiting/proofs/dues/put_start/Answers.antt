use Rattle.std.proofs.Common.{rules, sym, ◌∙◌}
use Rattle.std.proofs.lemmas.Int.{to_z-of_z}
use Rattle.std.proofs.lemmas.Result.{on_ok_weaker}
use mir.Syntax.{w64}
use mir.Val.{SFits}
use Rattle.crs_waiting.proofs.DuePairs.{start_is}
use Rattle.crs_waiting.proofs.dues.put_start.Goals as goal

pub returns-in-Hold-clause-put : goal.returns-in-Hold-clause-put
returns-in-Hold-clause-put c =
    let fits : SFits w64 c.args.stretch.from = search rules in
    on_ok_weaker c.put_due.result (λ p t s l m. p t (start_is c.args.body.now c.args.stretch.from c.args.stretch.to t s ∙ sym (to_z-of_z w64 c.args.stretch.from fits)) l m) c.put_due.ensures.put
