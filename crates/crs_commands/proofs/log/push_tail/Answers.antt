use Rattle.std.proofs.Common.{◌++◌, ◌∙◌, ap, refl, List, ℕ, append_assoc, map}
use Rattle.std.specs.Prelude.{flat_map}
use Rattle.crs_report.specs.Listeners.{page_of}
use Rattle.crs_commands.proofs.log.push_tail.Goals as goal

pub returns : goal.returns
returns g c =
    let p = c.in_ok-push_summary.ensures in
    let pages : List ℕ = flat_map page_of (map (λ b. ((goal.Listener-dyn g (b.vtable, b.value)).kind b.value, (goal.Listener-dyn g (b.vtable, b.value)).figures b.value)) c.args.listeners.now) in (
      p.0 ++ pages,
      (p.0, p.1, refl),
      c.in_ok-push_pages.ensures ∙ ap (λ (z : List ℕ). z ++ pages) p.2 ∙ append_assoc c.args.out.now.items p.0 pages,
    )
