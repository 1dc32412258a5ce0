-- What is made of a fork.
use Rattle.std.proofs.Common.{◌≡◌, ◌∙◌, ℕ, List, sym, subst}
use Rattle.std.specs.Prelude.{Some}
use Rattle.crs_base.specs.declared.symbols.Sym.{Sym}
use Rattle.crs_base.specs.Entry.{Entry}
use Rattle.crs_model.specs.declared.plan.Plan.{Plan}
use Rattle.crs_model.specs.declared.progress.Progress.{Progress}
use Rattle.crs_instance.specs.Instances.{InstanceState, IsForked}

-- with the parent's progress it is the fork
pub made_of : (plan : Plan) (i : InstanceState) (e : ℕ) (x : Entry Sym) (fork made : InstanceState) (ps : List Progress) → made ≡ record fork { progress = ps } → ps ≡ i.progress → IsForked plan i e x (Some fork) → IsForked plan i e x (Some made)
made_of plan i e x fork made ps is same some = subst (λ (t : InstanceState). IsForked plan i e x (Some t)) (sym (is ∙ again)) some
  where
    again : record fork { progress = ps } ≡ fork
    again = (λ t. record fork { progress = (same ∙ sym some.2) t })
