use Rattle.std.proofs.Common.{List, ℕ, refl, subst}
use Rattle.crs_waiting.specs.Dues.{KeepsFreshPairs}
use Rattle.crs_waiting.specs.Hooks.{KeepsFresh}
use Rattle.crs_store.proofs.Held.{swept_tidy}
use Rattle.crs_store.proofs.holding.sweep.Goals as goal

pub returns-clause-tidy : goal.returns-clause-tidy
returns-clause-tidy c = λ plan focus hooks d tidy.
    swept_tidy plan focus hooks d c.args.holding.now (record { slots = c.args.holding.now.slots; waiting = c.sweep_waiting.new.waiting; dues = c.sweep_dues.new.dues; ripe = c.args.holding.now.ripe; room = c.sweep_dues.new.room }) refl refl c.serials-serials.ensures.len
    (subst (λ (s : List ℕ). KeepsFresh s c.args.holding.now.waiting c.sweep_waiting.new.waiting) c.serials-serials.ensures.all c.sweep_waiting.ensures)
    (subst (λ (s : List ℕ). KeepsFreshPairs s c.args.holding.now.dues.pairs c.sweep_dues.new.dues.pairs) c.serials-serials.ensures.all c.sweep_dues.ensures.fresh) c.sweep_dues.ensures.stood tidy
