use Rattle.std.proofs.Common.{◌++◌, ◌∙◌, ap, subst, sym, List, ℕ, map}
use Rattle.std.specs.List.{AllByRecursion}
use Rattle.crs_session.specs.Written.{HasEntry}
use Rattle.crs_report.specs.Listeners.{Member}
use Rattle.crs_commands.specs.Logs.{IsTailOf}
use Rattle.crs_commands.proofs.log.take_end.Goals as goal

pub tell-requires : goal.tell-requires
tell-requires g c =
    let t = c.in_ok-output.ensures.takes c.requires.ready.0 c.requires.ready.1 c.requires.ready.2 in
    subst (AllByRecursion HasEntry) (sym t.added) t.filled

pub returns : goal.returns
returns g c =
    let p = c.in_ok-push_tail.ensures in
    let heard = ap (map (λ b. ((goal.Listener-dyn g (b.vtable, b.value)).kind b.value, (goal.Listener-dyn g (b.vtable, b.value)).figures b.value))) c.as_slice.ensures.value ∙ c.in_ok-text.ensures.heard in (
      c.in_ok-output.output,
      p.0,
      c.in_ok-output.ensures,
      subst (λ (ms : List Member). IsTailOf c.args.summary ms c.take_rest.new.session p.0) heard p.1,
      p.2 ∙ ap (λ (z : List ℕ). z ++ p.0) c.in_ok-text.ensures.text,
    )
