use Rattle.std.proofs.Common.{sym, subst, inl, inr}
use Rattle.crs_model.specs.Bindings.{look_of}
use Rattle.crs_model.specs.HasProgress.{IsCounted}
use Rattle.crs_model.specs.SeenModels.{body_of}
use Rattle.crs_watch.proofs.beginning.count_for.Goals as goal

pub returns-in-Occurs : goal.returns-in-Occurs
returns-in-Occurs c = λ small low settled stands.
    subst (λ b. IsCounted settled (look_of c.args.binding.now) (body_of b) c.args.stretch.from c.args.stretch.to c.count_over-in-Occurs.result) (sym c.in-Occurs.is)
    (elim (c.count_over-in-Occurs.ensures small low settled stands) [
      | inl k ↦ inl k
      | inr h ↦ inr (elim (c.decisive.ensures c.count_over-in-Occurs.result h.0) [ inl e ↦ inl e | inr a ↦ inr a ], (h.1, h.2, h.3))
    ])
